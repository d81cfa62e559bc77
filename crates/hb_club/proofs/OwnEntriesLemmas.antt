-- What is so of a member's entries at the latest table, and at tables that are not opened yet?
use Rattle.std.proofs.Common.{◌≡◌, ℕ, ◌+◌, ◌≤◌, Bool, true, false, List, [], ◌∷◌, ◌++◌, zero, suc, refl, ap, arith, subst, sym, ◌∙◌, length, length-append, Some, None}
use Rattle.std.specs.Prelude.{◌&&◌, ◌==◌, bytes_eq, nat_le, nat_lt, if◌then◌else◌}
use Rattle.std.specs.Option.{option_to_list}
use Rattle.std.proofs.Math.Bool.{or-true}
use Rattle.std.proofs.lemmas.Bool.{and_from, and_parts, or_left}
use Rattle.std.proofs.lemmas.List.Folds.{list_all-append}
use Rattle.hb_club.specs.declared.commands.Command.{Command}
use Rattle.hb_club.specs.declared.commands.Command.TheVariants as command
use Rattle.hb_club.specs.declared.commands.Entry.{Entry}
use Rattle.hb_club.specs.declared.items.Item.{Item}
use Rattle.hb_club.specs.declared.replies.Reply.{Reply}
use Rattle.hb_club.specs.OwnEntries.{OwnEntry}
use Rattle.hb_club.specs.RoomEvents.{AsksTodo, Call, Happening, Notes, RoomEvent, Site, event_moment}
use Rattle.hb_club.specs.Rooms.{happening, past_of}
use Rattle.hb_club.specs.Table.{Table}
use Rattle.hb_club.specs.TableFacts.{own_by, own_entries, record_of, table_of}
use Rattle.hb_club.specs.TableItems.{latest_items, opened_count}
use Rattle.hb_club.specs.TableRefusals.{reply_on}
use Rattle.hb_club.specs.TimeFirst.{timeout, with_items}
use Rattle.hb_club.proofs.PendingLemmas.{are_quiet, are_within, is_quiet, is_within}
use Rattle.hb_club.proofs.RoomsLemmas.{latest_items-append, opened_count-append}
use Rattle.hb_club.proofs.TableRefusalsLemmas.{done-above}

-- an entry at a table that is not opened yet makes no load pending
quiet-above : (t : Table) (own : List OwnEntry) (e : Entry) (c : Command) → nat_lt t.latest e.table ≡ true
    → is_quiet (reply_on t own (record e { command = c })) c ≡ true
quiet-above t own e (command.Load id) above =
    rw (done-above t own (record e { command = command.Load id }) above refl) refl
quiet-above t own e (command.Open name options) above = or-true _
quiet-above t own e command.Sit above = or-true _
quiet-above t own e command.Rise above = or-true _
quiet-above t own e command.Start above = or-true _
quiet-above t own e (command.Act a) above = or-true _
quiet-above t own e (command.Note order text) above = or-true _
quiet-above t own e command.Pause above = or-true _
quiet-above t own e command.Resume above = or-true _
quiet-above t own e command.Terminate above = or-true _
quiet-above t own e (command.Watch shadow) above = or-true _
quiet-above t own e command.Leave above = or-true _
quiet-above t own e (command.Go turn) above = or-true _
quiet-above t own e (command.Hypo a) above = or-true _
quiet-above t own e command.Undo above = or-true _
quiet-above t own e command.Close above = or-true _
quiet-above t own e command.Look above = refl

quiet-append : (xs ys : List OwnEntry) → are_quiet xs ≡ true → are_quiet ys ≡ true → are_quiet (xs ++ ys) ≡ true
quiet-append xs ys a b = list_all-append (λ (o : OwnEntry). is_quiet o.reply o.entry.command) xs ys ∙ rw (a, b) refl

within-append : (n : ℕ) (xs ys : List OwnEntry) → are_within n xs ≡ true → are_within n ys ≡ true → are_within n (xs ++ ys) ≡ true
within-append n xs ys a b = list_all-append (is_within n) xs ys ∙ rw (a, b) refl

within-quiet : (n : ℕ) (own : List OwnEntry) → are_quiet own ≡ true → are_within n own ≡ true
within-quiet n [] h = refl
within-quiet n (o ∷ own) h =
    let parts : (is_quiet o.reply o.entry.command ≡ true) × (are_quiet own ≡ true) = and_parts _ _ h in
    and_from (is_within n o) (are_within n own) (or_left _ _ parts.0) (within-quiet n own parts.1)

within-one : (n k : ℕ) (o : OwnEntry) → n ≤ k → is_within n o ≡ true → is_within k o ≡ true
within-one n k o more h = grind arith

-- with more items it is so too
pub within-more : (n k : ℕ) (own : List OwnEntry) → n ≤ k → are_within n own ≡ true → are_within k own ≡ true
within-more n k [] more h = refl
within-more n k (o ∷ own) more h =
    let parts : (is_within n o ≡ true) × (are_within n own ≡ true) = and_parts _ _ h in
    and_from (is_within k o) (are_within k own) (within-one n k o more parts.0) (within-more n k own more parts.1)

-- the own entry of an event
quiet-head : (s : Site) (past : List Happening) (e : RoomEvent) (n count : ℕ) (member : List ℕ)
    → nat_lt (opened_count (record_of past)) n ≡ true
    → are_quiet (option_to_list (own_by n member count (happening s past e).event (happening s past e).answer)) ≡ true
quiet-head s past (AsksTodo moment) n count member above = refl
quiet-head s past (Notes moment notice) n count member above = refl
quiet-head s past (Call e) n count member above = pick (e.table == n && bytes_eq member e.member) refl
  where
    t : Table
    t = with_items (timeout (table_of s past) (table_of s past).game (event_moment (Call e))) (table_of s past)

    reply : Reply
    reply = reply_on t (own_entries t.latest e.member past) e

    same-table : (a b : ℕ) → (a == b) ≡ true → a ≡ b
    same-table a b h = grind arith

    pick : (b : Bool) → (e.table == n && bytes_eq member e.member) ≡ b
        → are_quiet (option_to_list (if b then Some (record { entry = e; reply = reply; count = count }) else None)) ≡ true
    pick false other = refl
    pick true here =
        let parts : ((e.table == n) ≡ true) × (bytes_eq member e.member ≡ true) = and_parts _ _ here in
        let over : nat_lt t.latest e.table ≡ true =
        subst (λ (k : ℕ). nat_lt (opened_count (record_of past)) k ≡ true) (sym (same-table e.table n parts.0)) above in
        let quiet : is_quiet reply e.command ≡ true = quiet-above t (own_entries t.latest e.member past) e e.command over in
        rw quiet refl

same-count : (n : ℕ) → nat_le n n ≡ true
same-count n = grind arith

within-head : (s : Site) (past : List Happening) (e : RoomEvent) (n count : ℕ) (member : List ℕ)
    → are_within count (option_to_list (own_by n member count (happening s past e).event (happening s past e).answer)) ≡ true
within-head s past (AsksTodo moment) n count member = refl
within-head s past (Notes moment notice) n count member = refl
within-head s past (Call e) n count member = pick (e.table == n && bytes_eq member e.member)
  where
    t : Table
    t = with_items (timeout (table_of s past) (table_of s past).game (event_moment (Call e))) (table_of s past)

    reply : Reply
    reply = reply_on t (own_entries t.latest e.member past) e

    pick : (b : Bool) → are_within count (option_to_list (if b then Some
        (record { entry = e; reply = reply; count = count }) else None)) ≡ true
    pick false = refl
    pick true = rw (same-count count) (and_from _ _ (or-true (is_quiet reply e.command)) refl)

fewer-tables : (a b n : ℕ) → nat_lt (a + b) n ≡ true → nat_lt b n ≡ true
fewer-tables a b n h = grind arith

next-table : (k a b : ℕ) → a ≡ suc k + b → nat_lt b a ≡ true
next-table k a b is = grind arith

-- at tables that are not opened yet all entries are quiet
pub own_entries-quiet : (s : Site) (events : List RoomEvent) (n : ℕ) (member : List ℕ)
    → nat_lt (opened_count (record_of (past_of s events))) n ≡ true → are_quiet (own_entries n member (past_of s events)) ≡ true
own_entries-quiet s [] n member above = refl
own_entries-quiet s (e ∷ events) n member above =
    let past : List Happening = past_of s events in
    let h : Happening = happening s past e in
    let before : nat_lt (opened_count (record_of past)) n ≡ true = fewer-tables (opened_count h.added) (opened_count (record_of past)) n
    (subst (λ (k : ℕ). nat_lt k n ≡ true) (opened_count-append h.added (record_of past)) above) in
    quiet-append (option_to_list (own_by n member (length (latest_items (record_of (h ∷ past)))) h.event h.answer))
    (own_entries n member past)
    (quiet-head s past e n (length (latest_items (record_of (h ∷ past)))) member before) (own_entries-quiet s events n member before)

-- and at the latest table none makes a load pending with more items than there are
pub own_entries-within : (s : Site) (events : List RoomEvent) (member : List ℕ)
    → are_within (length (latest_items (record_of (past_of s events))))
    (own_entries (opened_count (record_of (past_of s events))) member (past_of s events)) ≡ true
own_entries-within s [] member = refl
own_entries-within s (e ∷ events) member =
    within-append count (option_to_list (own_by n member count h.event h.answer)) (own_entries n member past)
    (within-head s past e n count member) (pick (opened_count h.added) refl (own_entries-within s events member))
  where
    past : List Happening
    past = past_of s events

    h : Happening
    h = happening s past e

    n : ℕ
    n = opened_count (record_of (h ∷ past))

    count : ℕ
    count = length (latest_items (record_of (h ∷ past)))

    no-table : (k a b : ℕ) → a ≡ k + b → k ≡ 0 → a ≡ b
    no-table k a b is none = omega (arith, is, none)

    pick : (k : ℕ) → opened_count h.added ≡ k
        → are_within (length (latest_items (record_of past))) (own_entries (opened_count (record_of past)) member past) ≡ true
        → are_within count (own_entries n member past) ≡ true
    pick zero none ih =
        let same : n ≡ opened_count (record_of past) =
        no-table (opened_count h.added) n (opened_count (record_of past)) (opened_count-append h.added (record_of past)) none in
        let grown : count ≡ length h.added + length (latest_items (record_of past)) =
        ap (λ (items : List Item). length items) (latest_items-append h.added (record_of past) none)
        ∙ length-append h.added (latest_items (record_of past)) in
        within-more (length (latest_items (record_of past))) count (own_entries n member past) (omega (arith, grown))
        (subst (λ (k : ℕ). are_within (length (latest_items (record_of past))) (own_entries k member past) ≡ true) (sym same) ih)
    pick (suc k) some ih =
        let more : n ≡ suc k + opened_count (record_of past) =
        opened_count-append h.added (record_of past) ∙ ap (λ (k : ℕ). k + opened_count (record_of past)) some in
        within-quiet count (own_entries n member past)
        (own_entries-quiet s events n member (next-table k n (opened_count (record_of past)) more))

-- and where a table was just opened all entries there are quiet
pub own_entries-new : (s : Site) (events : List RoomEvent) (e : RoomEvent) (k n : ℕ) (member : List ℕ)
    → opened_count (happening s (past_of s events) e).added ≡ suc k
    → n ≡ opened_count (record_of (happening s (past_of s events) e ∷ past_of s events))
    → are_quiet (own_entries n member (happening s (past_of s events) e ∷ past_of s events)) ≡ true
own_entries-new s events e k n member some is =
    quiet-append (option_to_list (own_by n member count h.event h.answer)) (own_entries n member past)
    (quiet-head s past e n count member above) (own_entries-quiet s events n member above)
  where
    past : List Happening
    past = past_of s events

    h : Happening
    h = happening s past e

    count : ℕ
    count = length (latest_items (record_of (h ∷ past)))

    later : (a b c d : ℕ) → a ≡ b → b ≡ c + d → c ≡ suc k → a ≡ suc k + d
    later a b c d one two three = omega (arith, one, two, three)

    above : nat_lt (opened_count (record_of past)) n ≡ true
    above = next-table k n (opened_count (record_of past)) (later n (opened_count (record_of (h ∷ past))) (opened_count h.added)
        (opened_count (record_of past)) is (opened_count-append h.added (record_of past)) some)
