-- Is the reply that a room gives by its fields the definition's, and which entries does it then accept?
use Rattle.std.proofs.Common.{◌≡◌, ℕ, ◌+◌, ◌<◌, ◌≤◌, Bool, true, false, List, [], ◌∷◌, ◌++◌, refl, ap, arith, sym, ◌∙◌, length, Some, None, Option}
use Rattle.std.specs.Prelude.{◌&&◌, ◌||◌, ◌==◌, bytes_eq, is_none, is_some, nat_le, nat_lt, not, unwrap_or, if◌then◌else◌, flat_map, IsTrue}
use Rattle.std.specs.List.{list_any}
use Rattle.std.specs.Option.{option_to_list}
use Rattle.std.proofs.lemmas.Bool.{and_parts, or_parts}
use Rattle.std.proofs.lemmas.List.{append-nil}
use Rattle.hb_rules.specs.declared.acts.Action.{Action}
use Rattle.hb_rules.specs.declared.acts.Rule.{Rule}
use Rattle.hb_rules.specs.declared.limits.TheConstants.{FEWEST_PLAYERS, MOST_PLAYERS}
use Rattle.hb_review.specs.declared.error.ReviewError.{ReviewError}
use Rattle.hb_club.specs.declared.commands.Command.{Command}
use Rattle.hb_club.specs.declared.commands.Command.TheVariants as command
use Rattle.hb_club.specs.declared.commands.Entry.{Entry}
use Rattle.hb_club.specs.declared.limits.TheConstants.{KEPT_NUMBERS, MOST_KEPT_NUMBERS}
use Rattle.hb_club.specs.declared.replies.Refusal.TheVariants as refusal
use Rattle.hb_club.specs.declared.replies.Reply.{Reply}
use Rattle.hb_club.specs.declared.replies.Reply.TheVariants.{Done, Refused}
use Rattle.hb_club.specs.CommandKinds.{asked_action, is_for_beginning, is_for_game, is_for_gathering, is_for_host, is_long_note, is_look, is_open, is_pressing, is_start}
use Rattle.hb_club.specs.OwnEntries.{OwnEntry, is_done, is_unkept, kept_count, kept_entry, pending_id}
use Rattle.hb_club.specs.Seating.{Watcher, shadow_of, watchers}
use Rattle.hb_club.specs.Table.{Table, seat_of}
use Rattle.hb_club.specs.TableItems.{acts, all_of, first_of_all, host, host_in, is_host, is_standing, steps}
use Rattle.hb_club.specs.TableRefusals.{act_rule, end_rows, first_reply, game_rows, kept_reply, own_for, seat_rows, serial_rows, start_rows}
use Rattle.hb_club.specs.TableReview.{reviewed_game, step_refusal}
use Rattle.hb_club.proofs.TableLoadsLemmas.{same-name}
use Rattle.hb_refusals.specs.declared.facts.Facts.{Facts}
use Rattle.hb_refusals.specs.FactRows.{opens_next_to, rows_on}
use Rattle.hb_refusals.specs.Facts.{facts_of}
use Rattle.hb_refusals.specs.KeptReplies.{count_at, is_first, is_keepable, kept_at}
use Rattle.hb_refusals.specs.RowLaws.{shown_rows}
use Rattle.hb_refusals.proofs.OptionLemmas.{is_none-not, none-same}
use Rattle.hb_refusals.proofs.OwnRepliesLemmas.{kept_reply-own}
use Rattle.hb_refusals.proofs.RowLemmas.{rows_on-loading}
use Rattle.hb_playing.specs.RoomClocks.{paused_by}
use Rattle.hb_playing.specs.Games.{ended_by, rule_by}
use Rattle.hb_playing.specs.RoomReviews.{reviewed_by, steps_by}
use Rattle.hb_playing.specs.Seats.{seat_in}
use Rattle.hb_playing.proofs.ReviewsLemmas.{step_refusal-walk}
use Rattle.hb_table.specs.declared.room.Room.{Room}
use Rattle.hb_table.specs.State.{State, host_load}
use Rattle.hb_table.specs.StateMoves.{accepts, reply_in}
use Rattle.hb_table.specs.Keeps.{Keeps}
use Rattle.hb_table.specs.Changes.{keeps_in}
use Rattle.hb_table.specs.Verdicts.{count_in, facts_in, known_in, opens_in, verdict_in}
use Rattle.hb_table.proofs.KeptEntriesLemmas.{opens_table, opens_table-taken}
use Rattle.hb_table.proofs.RoomRowLemmas.{NoRow, rows_on-none, rows_on-refuse}
use Rattle.hb_table.proofs.TableGamesLemmas.{act_rule-by, deck_size-by, has_ended-by, is_paused-by, player_count-by}

-- what the rows read of the members

watch-any : (m : List ℕ) (all : List Watcher) → list_any (λ (w : Watcher). bytes_eq m w.0) all ≡ is_some (shadow_of m all)
watch-any m [] = refl
watch-any m (w ∷ all) = pick (bytes_eq m w.0) refl (watch-any m all)
  where
    pick : (b : Bool) → bytes_eq m w.0 ≡ b → list_any (λ (v : Watcher). bytes_eq m v.0) all ≡ is_some (shadow_of m all)
        → list_any (λ (v : Watcher). bytes_eq m v.0) (w ∷ all) ≡ is_some (shadow_of m (w ∷ all))
    pick true is rest = rw is refl
    pick false is rest = rw is rest

-- the host of a table is the one that the room knows
pub host-is : (x : State) (a : Room) → Keeps x a → host x.table.items ≡ a.host
host-is x a k = pick (all_of host_in x.table.items) a.host k.hosts
  where
    pick : (all : List (List ℕ)) (h : Option (List ℕ)) → option_to_list h ≡ all → first_of_all all ≡ h
    pick [] None is = refl
    pick [] (Some h) is = cc
    pick (n ∷ all) None is = cc
    pick (n ∷ all) (Some h) is = cc

-- the facts that a table shows are those of the room
pub facts-are : (x : State) (a : Room) (m : List ℕ) → Keeps x a → facts_in a m ≡ facts_of x.table (is_some (host_load x)) m
facts-are x a m k =
    rw (
      k.latest,
      k.standing,
      sym (host-is x a k),
      k.seats,
      k.watchers,
      k.load,
      k.options,
      watch-any m (watchers x.table.items),
      k.names,
      k.saved,
      k.game,
      k.timer,
      k.loaded,
      has_ended-by x.table,
      is_paused-by x.table,
      deck_size-by x.table,
      player_count-by x.table,
    ) refl

-- the reply of the number is the one that the table of refusals has in the place of the kept reply
pub known-is : (x : State) (a : Room) (e : Entry) → Keeps x a
    → known_in a e ≡ kept_reply (kept_entry (own_for x.table (x.own e.member) e) e.number) e.command
known-is x a e k = pick (e.table == x.table.latest) refl
  where
    pick : (here : Bool) → (e.table == x.table.latest) ≡ here
        → known_in a e ≡ kept_reply (kept_entry (own_for x.table (x.own e.member) e) e.number) e.command
    pick true here = rw (k.latest, here) (kept_reply-own e.member a.kept (x.own e.member) e.number e.command (k.kept e.member))
    pick false here = rw (k.latest, here) refl

-- a room counts as many kept numbers of a member at the entry's table as the state does
pub count-is : (x : State) (a : Room) (e : Entry) → Keeps x a → count_in a e ≡ kept_count (own_for x.table (x.own e.member) e)
count-is x a e k = pick (e.table == x.table.latest) refl
  where
    pick : (here : Bool) → (e.table == x.table.latest) ≡ here → count_in a e ≡ kept_count (own_for x.table (x.own e.member) e)
    pick true here = rw (k.latest, here) (k.kept e.member).count
    pick false here = rw (k.latest, here) refl

-- the load that a host's own entries show is the one that the room keeps
host-pending : (x : State) (e : Entry) → (e.table == x.table.latest && is_host x.table.items e.member) ≡ true
    → is_some (pending_id (own_for x.table (x.own e.member) e) x.table.items) ≡ is_some (host_load x)
host-pending x e mine = pick (host x.table.items) refl parts.1
  where
    parts : ((e.table == x.table.latest) ≡ true) × (is_host x.table.items e.member ≡ true)
    parts = and_parts _ _ mine

    or-none : (b : Bool) → (b || false) ≡ true → b ≡ true
    or-none true is = refl
    or-none false is = is

    pick : (h : Option (List ℕ)) → host x.table.items ≡ h → list_any (bytes_eq e.member) (option_to_list h) ≡ true
        → is_some (pending_id (own_for x.table (x.own e.member) e) x.table.items)
        ≡ is_some (pending_id (flat_map x.own (option_to_list (host x.table.items))) x.table.items)
    pick None is any = cc
    pick (Some h) is any =
        let same : e.member ≡ h = same-name e.member h (or-none (bytes_eq e.member h) any) in
        rw (is, parts.0, append-nil (x.own h), same) refl

-- the verdict

-- with the load that the room keeps, the first row is the same
first-same : (x : State) (e : Entry) (kept : Option Reply) (count : ℕ) (broken : Option Rule) (review : Option ReviewError)
    → first_reply (rows_on (facts_of x.table (is_some (pending_id (own_for x.table (x.own e.member) e) x.table.items)) e.member)
    kept count broken review e)
    ≡ first_reply (rows_on (facts_of x.table (is_some (host_load x)) e.member) kept count broken review e)
first-same x e kept count broken review = pick (e.table == x.table.latest && is_host x.table.items e.member) refl
  where
    shown : Bool → Option Reply
    shown loading = first_reply (rows_on (facts_of x.table loading e.member) kept count broken review e)

    pick : (mine : Bool) → (e.table == x.table.latest && is_host x.table.items e.member) ≡ mine
        → shown (is_some (pending_id (own_for x.table (x.own e.member) e) x.table.items)) ≡ shown (is_some (host_load x))
    pick true mine = ap shown (host-pending x e mine)
    pick false other = rows_on-loading (facts_of x.table (is_some (host_load x)) e.member)
        (is_some (pending_id (own_for x.table (x.own e.member) e) x.table.items)) kept count broken review e other

verdict-shown : (x : State) (a : Room) (e : Entry) → Keeps x a
    → verdict_in a e ≡ first_reply (shown_rows x.table (own_for x.table (x.own e.member) e) e)
verdict-shown x a e k =
    let t : Table = x.table in
    let own : List OwnEntry = own_for t (x.own e.member) e in
    let seat : seat_in a.names e.member ≡ seat_of t e.member = rw k.names refl in
    let rule : rule_by a.game (seat_in a.names e.member) (asked_action e.command)
    ≡ act_rule t.game (acts t.items) (seat_of t e.member) (asked_action e.command) =
    rw (k.game, seat) (sym (act_rule-by t (seat_of t e.member) (asked_action e.command))) in
    let review : step_refusal (reviewed_by a.review) (steps_by a.review) e.command
    ≡ step_refusal (reviewed_game t.loaded t.game t.items) (steps t.items) e.command =
    rw k.review (step_refusal-walk (reviewed_game t.loaded t.game t.items) (steps t.items) e.command) in
    ap (λ (f : Facts). first_reply (rows_on f (known_in a e) (count_in a e)
    (rule_by a.game (seat_in a.names e.member) (asked_action e.command)) (step_refusal (reviewed_by a.review) (steps_by a.review)
    e.command) e))
    (facts-are x a e.member k)
    ∙ (rw (known-is x a e k, count-is x a e k, rule, review) refl
    ∙ sym (first-same x e (kept_reply (kept_entry own e.number) e.command) (kept_count own)
    (act_rule t.game (acts t.items) (seat_of t e.member) (asked_action e.command))
    (step_refusal (reviewed_game t.loaded t.game t.items) (steps t.items) e.command)))

shown-table : (t : Table) (own : List OwnEntry) (e : Entry) → shown_rows t own e
    ≡ serial_rows t own e ++ start_rows t e ++ seat_rows t e ++ end_rows t own e ++ game_rows t e
shown-table t own e = rw (is_none-not t.loaded) refl

-- the reply of the first row that holds, or Done, is the definition's reply
pub verdict-is : (x : State) (a : Room) (e : Entry) → Keeps x a → is_look e.command ≡ false
    → unwrap_or (verdict_in a e) Done ≡ reply_in x e
verdict-is x a e k look =
    let own : List OwnEntry = own_for x.table (x.own e.member) e in
    ap (λ (o : Option Reply). unwrap_or o Done) (verdict-shown x a e k)
    ∙ (ap (λ (rows : List (Option Reply)). unwrap_or (first_reply rows) Done) (shown-table x.table own e) ∙ sym (rw look refl))

-- which entries are accepted

-- what no row says of an entry
abbrev pub NoRowOf : Room → Entry → Type 0
NoRowOf a e = NoRow (facts_in a e.member) (known_in a e) (count_in a e)
    (rule_by a.game (seat_in a.names e.member) (asked_action e.command)) (step_refusal (reviewed_by a.review) (steps_by a.review)
    e.command) e

-- where a room has no refusal, no row of the table of refusals holds
pub verdict-none : (a : Room) (e : Entry) → verdict_in a e ≡ None → NoRowOf a e
verdict-none a e none = rows_on-none (facts_in a e.member) (known_in a e) (count_in a e)
    (rule_by a.game (seat_in a.names e.member) (asked_action e.command)) (step_refusal (reviewed_by a.review) (steps_by a.review)
    e.command) e none

-- an entry that no row refuses is for the latest table, if it does not open the next
pub verdict-here : (a : Room) (e : Entry) → verdict_in a e ≡ None → opens_in a e ≡ false → (e.table == a.latest) ≡ true
verdict-here a e none shut = pick (nat_lt e.table a.latest) (nat_lt a.latest e.table) refl refl
  where
    no : NoRowOf a e
    no = verdict-none a e none

    same : (m n : ℕ) → nat_lt m n ≡ false → nat_lt n m ≡ false → (m == n) ≡ true
    same m n one two = grind arith

    apart : (m n : ℕ) → nat_lt n m ≡ true → (m == n) ≡ false
    apart m n above = grind arith

    above : nat_lt a.latest e.table ≡ true → (o s : Bool) → opens_next_to a.latest e ≡ o → a.standing ≡ s → ⊥
    above up false s opens stands = let never : true ≡ false = rw (up, opens) at (or_parts (e.table == a.latest && not a.standing)
        (nat_lt a.latest e.table && not (opens_next_to a.latest e)) no.there).1 in cc
    above up true false opens stands = let never : true ≡ false = rw (opens, stands) at shut in cc
    above up true true opens stands =
        let is : is_open e.command ≡ true = (and_parts _ _ opens).0 in
        let never : true ≡ false = rw (is, apart e.table a.latest up, stands) at no.opens in cc

    pick : (below up : Bool) → nat_lt e.table a.latest ≡ below → nat_lt a.latest e.table ≡ up → (e.table == a.latest) ≡ true
    pick true up is was = let never : true ≡ false = sym is ∙ no.not_old in cc
    pick false true is was = absurd (above was (opens_next_to a.latest e) a.standing refl refl)
    pick false false is was = same e.table a.latest is was

kept_reply-none : (o : Option OwnEntry) (c : Command) → kept_reply o c ≡ None → is_none o ≡ true
kept_reply-none None c none = refl
kept_reply-none (Some o) c none = cc

-- what a room knows of an entry that is accepted
pub record Taken (x : State) (e : Entry) : Type 0 where
  pub accepted : accepts x e ≡ true
  pub here : (e.table == x.table.latest) ≡ true
  pub reply : reply_in x e ≡ Done

-- an entry that no row refuses
pub verdict-taken : (x : State) (a : Room) (e : Entry) → Keeps x a → is_look e.command ≡ false → opens_in a e ≡ false
    → verdict_in a e ≡ None
    → Taken x e
verdict-taken x a e k look shut none =
    let no : NoRowOf a e = verdict-none a e none in
    let done : reply_in x e ≡ Done = sym (verdict-is x a e k look) ∙ ap (λ (o : Option Reply). unwrap_or o Done) none in
    let fresh : is_none (kept_entry (own_for x.table (x.own e.member) e) e.number) ≡ true =
    kept_reply-none _ e.command (sym (known-is x a e k) ∙ no.fresh) in
    record {
      accepted = rw (done, look, fresh) refl;
      here = sym (ap (λ (n : ℕ). e.table == n) k.latest) ∙ verdict-here a e none shut;
      reply = done;
    }

-- an entry that a row answers
pub record Refuses (x : State) (e : Entry) (reply : Reply) : Type 0 where
  pub refused : accepts x e ≡ false
  pub reply_is : reply_in x e ≡ reply

and-false : (b : Bool) → (b && false) ≡ false
and-false true = refl
and-false false = refl

-- where nothing is kept for its number, it is refused
fresh-refused : (a : Room) (e : Entry) (reply : Reply) → known_in a e ≡ None → verdict_in a e ≡ Some reply → is_done reply ≡ false
fresh-refused a e reply fresh some =
    rows_on-refuse (facts_in a e.member) (count_in a e) (rule_by a.game (seat_in a.names e.member) (asked_action e.command))
    (step_refusal (reviewed_by a.review) (steps_by a.review) e.command) e reply (rw fresh at some)

-- where a room has a refusal, the state refuses the entry with the same reply
pub verdict-refuses : (x : State) (a : Room) (e : Entry) (reply : Reply) → Keeps x a → is_look e.command ≡ false
    → verdict_in a e ≡ Some reply → Refuses x e reply
verdict-refuses x a e reply k look some =
    record { refused = pick (kept_entry (own_for x.table (x.own e.member) e) e.number) refl; reply_is = is }
  where
    is : reply_in x e ≡ reply
    is = sym (verdict-is x a e k look) ∙ ap (λ (o : Option Reply). unwrap_or o Done) some

    pick : (o : Option OwnEntry) → kept_entry (own_for x.table (x.own e.member) e) e.number ≡ o → accepts x e ≡ false
    pick (Some o) kept = rw (is, look, kept) (and-false (is_done reply))
    pick None kept =
        let fresh : known_in a e ≡ None = known-is x a e k ∙ ap (λ (o : Option OwnEntry). kept_reply o e.command) kept in
        let no : is_done reply ≡ false = fresh-refused a e reply fresh some in
        rw (is, no, look) refl

-- a look is answered Done, and not accepted
pub look-refuses : (x : State) (e : Entry) → is_look e.command ≡ true → Refuses x e Done
look-refuses x e look = record { refused = rw look refl; reply_is = rw look refl }

-- a room that opens the next table does so where the definition does
pub opening-may : (x : State) (a : Room) (e : Entry) → Keeps x a → opens_in a e ≡ true → opens_table x.table e ≡ true
opening-may x a e k opens = rw (sym k.latest, sym k.standing) opens

-- the opening of the next table, while none is open
pub opening-taken : (x : State) (a : Room) (e : Entry) → Keeps x a → opens_in a e ≡ true
    → (accepts x e ≡ true) × ((e.table == x.table.latest + 1) ≡ true) × (is_standing x.table.items ≡ false)
opening-taken x a e k opens =
    let parts : (opens_next_to a.latest e ≡ true) × (not a.standing ≡ true) = and_parts _ _ opens in
    let next : (e.table == a.latest + 1) ≡ true = (and_parts _ _ parts.0).1 in (
      opens_table-taken x.table (x.own e.member) e (opening-may x a e k opens),
      ap (λ (n : ℕ). e.table == n + 1) (sym k.latest) ∙ next,
      sym k.standing ∙ not-true a.standing parts.1,
    )
  where
    not-true : (b : Bool) → not b ≡ true → b ≡ false
    not-true false is = refl
    not-true true is = cc

-- what is kept of an entry

-- of an entry that a row answers no load is kept
pub refused-no-load : (a : Room) (e : Entry) (reply : Reply) → verdict_in a e ≡ Some reply → keeps_in a e reply ≡ true
    → is_done reply ≡ false
refused-no-load a e reply some keeps =
    let parts : ((e.table == a.latest) ≡ true) × (is_first a.kept e.member e.number (record { command = e.command; reply = reply })
    ≡ true) =
    and_parts _ _ keeps in
    let none : kept_at a.kept e.member e.number ≡ None = none-same _ (and_parts _ _ parts.1).1 in
    fresh-refused a e reply (rw (parts.0, none) refl) some

-- who has something kept has few kept
pub keeps-few : (a : Room) (e : Entry) (reply : Reply) → unwrap_or (verdict_in a e) Done ≡ reply → IsTrue (keeps_in a e reply)
    → count_at a.kept e.member < MOST_KEPT_NUMBERS
keeps-few a e reply is keeps = pick (nat_le MOST_KEPT_NUMBERS (count_at a.kept e.member)) refl
  where
    kept-true : keeps_in a e reply ≡ true
    kept-true = keeps

    parts : ((e.table == a.latest) ≡ true) × (is_first a.kept e.member e.number (record { command = e.command; reply = reply }) ≡ true)
    parts = and_parts _ _ kept-true

    first : (is_keepable (record { command = e.command; reply = reply }) ≡ true) × (is_none (kept_at a.kept e.member e.number) ≡ true)
    first = and_parts _ _ parts.1

    none : kept_at a.kept e.member e.number ≡ None
    none = none-same _ first.1

    not-true : (b : Bool) → not b ≡ true → b ≡ false
    not-true false is = refl
    not-true true is = cc

    kept : is_unkept reply ≡ false
    kept = not-true (is_unkept reply)
        (and_parts (not (is_look e.command) && not (is_long_note e.command)) (not (is_unkept reply)) first.0).1

    not-old : (m n : ℕ) → (m == n) ≡ true → nat_lt m n ≡ false
    not-old m n same = grind arith

    limit : (pressing : Bool) (n : ℕ) → nat_le MOST_KEPT_NUMBERS n ≡ true
        → nat_le (if pressing then MOST_KEPT_NUMBERS else KEPT_NUMBERS) n ≡ true
    limit true n many = many
    limit false n many = grind arith

    few : (n : ℕ) → nat_le MOST_KEPT_NUMBERS n ≡ false → n < MOST_KEPT_NUMBERS
    few n is = grind arith

    pick : (many : Bool) → nat_le MOST_KEPT_NUMBERS (count_at a.kept e.member) ≡ many → count_at a.kept e.member < MOST_KEPT_NUMBERS
    pick false many = few (count_at a.kept e.member) many
    pick true many =
        let refused : unwrap_or (verdict_in a e) Done ≡ Refused refusal.RequestLimit =
        rw (not-old e.table a.latest parts.0, parts.0, none, limit (is_pressing e.command) (count_at a.kept e.member) many) refl in
        let never : true ≡ false = ap is_unkept (sym refused ∙ is) ∙ kept in cc

-- what a command says that no row refuses

not-false : (b : Bool) → not b ≡ false → b ≡ true
not-false true is = refl
not-false false is = cc

-- the table is open
pub taken-standing : (a : Room) (e : Entry) → verdict_in a e ≡ None → opens_in a e ≡ false → a.standing ≡ true
taken-standing a e none shut =
    not-false a.standing (rw (verdict-here a e none shut) at (or_parts (e.table == a.latest && not a.standing) (nat_lt a.latest e.table
    && not (opens_next_to a.latest e)) (verdict-none a e none).there).0)

-- who plays does so behind the start
pub taken-started : (a : Room) (e : Entry) → verdict_in a e ≡ None → is_for_game e.command ≡ true → is_some a.names ≡ true
taken-started a e none plays = not-false (is_some a.names) (rw plays at (verdict-none a e none).started)

-- who sits, rises, starts or loads does so where no game was started or loaded
pub taken-gathering : (a : Room) (e : Entry) → verdict_in a e ≡ None → is_for_gathering e.command ≡ true
    → (is_some a.names ≡ false) × (is_some a.loaded ≡ false)
taken-gathering a e none gathers = or_parts _ _ (rw gathers at (verdict-none a e none).gathering)

-- who sits does so where a seat is free
pub taken-free : (a : Room) (e : Entry) → verdict_in a e ≡ None → e.command ≡ command.Sit → (length a.seats.items == MOST_PLAYERS) ≡ false
taken-free a e none is = rw is at (verdict-none a e none).full

-- who starts or loads does so where no load is pending
pub taken-not-loading : (a : Room) (e : Entry) → verdict_in a e ≡ None → is_for_beginning e.command ≡ true → is_some a.load ≡ false
taken-not-loading a e none begins = rw begins at (verdict-none a e none).loading

-- the action breaks no rule
pub taken-lawful : (a : Room) (e : Entry) → verdict_in a e ≡ None
    → rule_by a.game (seat_in a.names e.member) (asked_action e.command) ≡ None
taken-lawful a e none = (verdict-none a e none).lawful

-- who acts does so while the clock runs
pub taken-running : (a : Room) (e : Entry) (act : Action) → verdict_in a e ≡ None → e.command ≡ command.Act act → paused_by a.timer ≡ false
taken-running a e act none is =
    let row : (paused_by a.timer || false || false) ≡ false = rw is at (verdict-none a e none).clock in
    (or_parts _ _ (or_parts _ _ row).0).0

-- who stops it does so while it runs
pub taken-pause : (a : Room) (e : Entry) → verdict_in a e ≡ None → e.command ≡ command.Pause
    → (ended_by a.game ≡ false) × (paused_by a.timer ≡ false)
taken-pause a e none is =
    let row : ((not a.options.timed || paused_by a.timer || ended_by a.game) || false) ≡ false = rw is at (verdict-none a e none).clock in
    let tests : ((not a.options.timed || paused_by a.timer) ≡ false) × (ended_by a.game ≡ false) = or_parts _ _ (or_parts _ _ row).0 in
    (tests.1, (or_parts _ _ tests.0).1)

-- who lets it run again does so while it is paused
pub taken-resume : (a : Room) (e : Entry) → verdict_in a e ≡ None → e.command ≡ command.Resume → paused_by a.timer ≡ true
taken-resume a e none is = let row : not (paused_by a.timer) ≡ false = rw is at (verdict-none a e none).clock in
    not-false (paused_by a.timer) row

-- who opens the next table does so where none is open
pub taken-no-open : (a : Room) (e : Entry) → verdict_in a e ≡ None → opens_in a e ≡ false → is_open e.command ≡ false
taken-no-open a e none shut = pick (is_open e.command) refl
  where
    pick : (b : Bool) → is_open e.command ≡ b → is_open e.command ≡ false
    pick false is = is
    pick true is =
        let never : true ≡ false = rw (is, verdict-here a e none shut) at (verdict-none a e none).opens in cc

-- what only the host may, the host does
pub taken-host : (x : State) (a : Room) (e : Entry) → Keeps x a → verdict_in a e ≡ None → is_for_host e.command ≡ true
    → host x.table.items ≡ Some e.member
taken-host x a e k none hosts = host-is x a k ∙ pick a.host refl
    (not-false (list_any (bytes_eq e.member) (option_to_list a.host)) (rw hosts at (verdict-none a e none).host))
  where
    or-none : (b : Bool) → (b || false) ≡ true → b ≡ true
    or-none true is = refl
    or-none false is = is

    pick : (h : Option (List ℕ)) → a.host ≡ h → list_any (bytes_eq e.member) (option_to_list a.host) ≡ true → a.host ≡ Some e.member
    pick None is any = let never : false ≡ true = rw is at any in cc
    pick (Some h) is any =
        let same : e.member ≡ h = same-name e.member h (or-none (bytes_eq e.member h) (rw is at any)) in
        is ∙ ap (λ (n : List ℕ). Some n) (sym same)

-- who starts does so with two seated or more
pub taken-two : (a : Room) (e : Entry) → verdict_in a e ≡ None → is_start e.command ≡ true → FEWEST_PLAYERS ≤ length a.seats.items
taken-two a e none starts = few (length a.seats.items) (rw starts at (verdict-none a e none).two)
  where
    few : (n : ℕ) → nat_lt n FEWEST_PLAYERS ≡ false → FEWEST_PLAYERS ≤ n
    few n is = grind (arith, is)

-- the verdict, by its parts
pub verdict-parts : (a : Room) (e : Entry) (reply known : Option Reply) (f : Facts) (count : ℕ) (broken : Option Rule) (review : Option
    ReviewError)
    → reply ≡ first_reply (rows_on f known count broken review e) → f ≡ facts_in a e.member → known ≡ known_in a e → count ≡ count_in a e
    → broken ≡ rule_by a.game (seat_in a.names e.member) (asked_action e.command)
    → review ≡ step_refusal (reviewed_by a.review) (steps_by a.review) e.command → reply ≡ verdict_in a e
verdict-parts a e reply known f count broken review first facts knows counts breaks refuses =
    first
    ∙ (ap (λ (x : Facts). first_reply (rows_on x known count broken review e)) facts
    ∙ (ap (λ (o : Option Reply). first_reply (rows_on (facts_in a e.member) o count broken review e)) knows
    ∙ (ap (λ (n : ℕ). first_reply (rows_on (facts_in a e.member) (known_in a e) n broken review e)) counts
    ∙ (ap (λ (o : Option Rule). first_reply (rows_on (facts_in a e.member) (known_in a e) (count_in a e) o review e)) breaks
    ∙ ap (λ (o : Option ReviewError). first_reply (rows_on (facts_in a e.member) (known_in a e) (count_in a e)
    (rule_by a.game (seat_in a.names e.member) (asked_action e.command)) o e)) refuses))))
