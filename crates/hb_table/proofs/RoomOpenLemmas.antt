-- For which list does a room stand after an opening of its next table, and after a start?
use Rattle.std.proofs.Common.{◌≡◌, ℕ, ◌+◌, ◌≤◌, Bool, true, false, List, [], ◌∷◌, ◌++◌, refl, ap, arith, sym, subst, ◌∙◌, length, max, Some, None, Option}
use Rattle.std.specs.Prelude.{◌==◌, is_some, min, not, option_map, if◌then◌else◌}
use Rattle.std.specs.Option.{option_to_list}
use Rattle.std.proofs.lemmas.Bool.{and_parts}
use Rattle.std.proofs.lemmas.List.{reverse-append}
use Rattle.hb_rules.specs.declared.acts.Act.{Act}
use Rattle.hb_rules.specs.declared.acts.Options.{Options}
use Rattle.hb_rules.specs.declared.limits.TheConstants.{FEWEST_PLAYERS}
use Rattle.hb_rules.specs.declared.setups.Setup.{Setup}
use Rattle.hb_rules.specs.declared.variants.Variant.{Variant}
use Rattle.hb_rules.specs.Setup.{Position}
use Rattle.hb_suits.specs.VariantNames.{variant_of}
use Rattle.hb_timer.specs.declared.timing.TheConstants.{MOMENT_LIMIT}
use Rattle.hb_timer.specs.Banks.{deadline, is_stopped}
use Rattle.hb_timer.specs.Timer.{History}
use Rattle.hb_sight.proofs.Beginning.{start-runs}
use Rattle.hb_club.specs.declared.commands.Command.{Command}
use Rattle.hb_club.specs.declared.commands.Entry.{Entry}
use Rattle.hb_club.specs.declared.items.Item.{Item}
use Rattle.hb_club.specs.declared.items.What.TheVariants as what
use Rattle.hb_club.specs.declared.replies.Reply.{Reply}
use Rattle.hb_club.specs.declared.replies.Reply.TheVariants.{Done, Refused}
use Rattle.hb_club.specs.CommandKinds.{asked_id, is_start}
use Rattle.hb_club.specs.EndedReplays.{Finished}
use Rattle.hb_club.specs.OwnEntries.{OwnEntry, is_done}
use Rattle.hb_club.specs.NewItems.{by_seat}
use Rattle.hb_club.specs.RoomEvents.{Call, Replied, Site, event_moment, in_time}
use Rattle.hb_club.specs.Rooms.{past_of}
use Rattle.hb_club.specs.Seating.{seated_names}
use Rattle.hb_club.specs.Table.{Table}
use Rattle.hb_club.specs.TableFacts.{opening_by, own_entries, setup_for, setup_when, table_of}
use Rattle.hb_club.specs.TableItems.{is_standing, is_started, steps}
use Rattle.hb_club.specs.TableReview.{reviewed_game}
use Rattle.hb_club.proofs.OwnEntriesLemmas.{own_entries-quiet}
use Rattle.hb_refusals.specs.declared.kept_replies.KeptReplies.{KeptReplies}
use Rattle.hb_refusals.specs.ReplyLaws.{StandsForOwn}
use Rattle.hb_playing.specs.RoomClocks.{new_timer, timer_of}
use Rattle.hb_playing.specs.Games.{ended_by}
use Rattle.hb_playing.specs.RoomReviews.{walk_of}
use Rattle.hb_table.specs.declared.room.Room.{Room}
use Rattle.hb_table.specs.State.{State, history_in, position_in, reviewed_by}
use Rattle.hb_table.specs.StateMoves.{accepts, item_at, reply_in, stamp_in, started_table, timed_state, with_entry, with_start, with_table}
use Rattle.hb_table.specs.Keeps.{HaltsAtEnd, IsTimely, Keeps, site_in, walk_in}
use Rattle.hb_table.specs.Changes.{KeepsEntry, OpensTable, SameFacts, StartsGame, due_in}
use Rattle.hb_table.specs.NewTables.{IsOpening}
use Rattle.hb_table.specs.Starts.{IsDealtFor, IsStarting, timer_when}
use Rattle.hb_table.specs.Steps.{Steps, Timed, stamp_for}
use Rattle.hb_table.specs.Verdicts.{opens_in}
use Rattle.hb_table.proofs.ClerkStateLemmas.{answer_to-call}
use Rattle.hb_table.proofs.RoomKeepsLemmas.{entry-keeps, open-keeps}
use Rattle.hb_table.proofs.KeptEntriesLemmas.{next-above, opens_table, own_entries-unkept}
use Rattle.hb_table.proofs.PendingStateLemmas.{host_load-item}
use Rattle.hb_table.proofs.SoundLemmas.{Sound, not-some, unstarted-position}
use Rattle.hb_table.proofs.StateLemmas.{state_of-open, state_of-start}
use Rattle.hb_table.proofs.StepLemmas.{Finding, Finds, goes-answers, taken-finding, timed-finds}
use Rattle.hb_table.proofs.TableFactsLemmas.{AreIdle}
use Rattle.hb_table.proofs.TableGamesLemmas.{reviewed_game-by}
use Rattle.hb_table.proofs.TimedLemmas.{timed-bare, timed-none}
use Rattle.hb_table.proofs.VerdictLemmas.{opening-may, opening-taken, taken-gathering, taken-two}

none-some : {A : Type 0} {v : A} → None ≡ Some v → ⊥
none-some e = cc

some-same : {A : Type 0} {u v : A} → Some u ≡ Some v → u ≡ v
some-same e = cc

-- an opening of the next table

accepted-done : (x : State) (e : Entry) → accepts x e ≡ true → reply_in x e ≡ Done
accepted-done x e taken = done (reply_in x e) (and_parts _ _ (and_parts _ _ taken).0).1
  where
    done : (r : Reply) → is_done r ≡ true → r ≡ Done
    done Done is = refl
    done (Refused why) is = cc

not-standing : (c : Room) (e : Entry) → opens_in c e ≡ true → c.standing ≡ false
not-standing c e opens = not-true c.standing (and_parts _ _ opens).1
  where
    not-true : (b : Bool) → not b ≡ true → b ≡ false
    not-true false is = refl
    not-true true is = cc

same-serial : (a b : ℕ) → (a == b) ≡ true → a ≡ b
same-serial a b same = grind arith

-- a room stands for the list with the opening
pub open-steps : (a c d b : Room) (e : Entry) (name : List ℕ) (options : Options) → SameFacts a c → IsOpening e name options c
    → OpensTable (in_time e.moment) e.table e.member (opening_by e.command) c d → KeepsEntry e Done d b → Steps e Done a b
open-steps a c d b e name options facts opening opens keeps =
    goes-answers a b (Call e) (Replied Done) (keeps.site ∙ (opens.site ∙ facts.site)) tt (λ events stands.
    let s : Site = site_in a in
    let x : State = timed_state s (past_of s events) (Call e) in
    let closed : c.standing ≡ false = not-standing c e opening.opens in
    let no-time : due_in c (event_moment (Call e)) ≡ None = rw closed refl in
    let found : Finds s events (Call e) c = timed-finds a c (Call e) events (timed-none (Call e) a c facts no-time) stands in
    let is : (accepts x e ≡ true) × ((e.table == x.table.latest + 1) ≡ true) × (is_standing x.table.items ≡ false) =
    opening-taken x c e found.keeps opening.opens in
    let done : reply_in x e ≡ Done = accepted-done x e is.0 in
    let own : List ℕ → List OwnEntry = λ (m : List ℕ). own_entries ((table_of s (past_of s events)).latest + 1) m (past_of s events) in
    let serial : e.table ≡ x.table.latest + 1 = same-serial e.table (x.table.latest + 1) is.1 in
    let new : OpensTable (in_time e.moment) (x.table.latest + 1) e.member (opening_by e.command) c d =
    subst (λ (n : ℕ). OpensTable (in_time e.moment) n e.member (opening_by e.command) c d) serial opens in
    let may : opens_table x.table e ≡ true = opening-may x c e found.keeps opening.opens in
    let fresh : Keeps (with_table (in_time e.moment) e.member (opening_by e.command) own x) d =
    open-keeps x c d (in_time e.moment) e.member (opening_by e.command) own
    (λ m. own_entries-unkept s events ((table_of s (past_of s events)).latest + 1) m (next-above (table_of s (past_of s events)).latest))
    (λ m. own_entries-quiet s events ((table_of s (past_of s events)).latest + 1) m (next-above (table_of s (past_of s events)).latest))
    (omega arith) new in
    record {
      answer = answer_to-call s events e ∙ ap Replied done;
      state = with_entry e (reply_in x e) (with_table (in_time e.moment) e.member (opening_by e.command) own x);
      same = state_of-open s events e name options opening.command_is may;
      keeps = rw done (entry-keeps (with_table (in_time e.moment) e.member (opening_by e.command) own x) d b e Done
          (λ load kept-done kept. let never : false ≡ true = sym (ap (λ (c : Command). is_some (asked_id c)) opening.command_is)
          ∙ load in cc)
          keeps fresh);
    })

-- a start

setup-variant : (s : Site) (serial : ℕ) (opened : List ℕ × Options) (count : ℕ) (g : Setup) → setup_when true s serial opened count ≡ Some g
    → (g.options ≡ opened.1) × (g.players ≡ count)
setup-variant s serial opened count g made = pick (variant_of opened.0) refl made
  where
    pick : (v : Option Variant) → variant_of opened.0 ≡ v → option_map (setup_for s serial opened.1 count) v ≡ Some g
        → (g.options ≡ opened.1) × (g.players ≡ count)
    pick None is made = cc
    pick (Some v) is made = let same : setup_for s serial opened.1 count v ≡ g = some-same made in
        (sym (ap (λ (h : Setup). h.options) same), sym (ap (λ (h : Setup). h.players) same))

-- what is known of a game at its start
pub record MayStart (moment : ℕ) (game : Option Position) (a : Room) : Type 0 where
  pub dealt : IsDealtFor a game
  pub unloaded : a.loaded ≡ None
  pub two : FEWEST_PLAYERS ≤ length a.seats.items
  pub later : a.stamp ≤ moment
  pub in_range : moment ≤ MOMENT_LIMIT

dealt-setup : (s : Site) (a : Room) (game : Option Position) → s ≡ site_in a → IsDealtFor a game
    → setup_when true s a.latest (a.name, a.options) (length a.seats.items) ≡ option_map (λ (p : Position). p.setup) game
dealt-setup s a None site none = rw none refl
dealt-setup s a (Some p) site dealt = rw site dealt.setup

-- the game, the clock and the review of the table at the start
record Begins (s : Site) (x : State) (a : Room) (moment : ℕ) (game : Option Position) : Type 0 where
  game_is : game ≡ position_in (started_table s moment a.seats.items x.table)
  timer : timer_when moment game ≡ history_in (started_table s moment a.seats.items x.table)
  runs : ended_by game ≡ false
  halts : HaltsAtEnd game (timer_when moment game)
  on_time : IsTimely moment (timer_when moment game)

no-timer : (timed : Bool) (none : Option History) → none ≡ None → (if timed then none else None) ≡ None
no-timer true nothing is = is
no-timer false nothing is = refl

begins : (s : Site) (x : State) (a : Room) (moment : ℕ) (game : Option Position) → s ≡ site_in a → AreIdle x.table.items
    → MayStart moment game a → Keeps x a → Begins s x a moment game
begins s x a moment None site idle may k = record {
  game_is = rw setup refl;
  timer = rw setup (sym (no-timer x.table.options.timed None refl));
  runs = refl;
  halts = λ t is. absurd (none-some is);
  on_time = λ t is end ends. absurd (none-some is);
}
  where
    setup : setup_when true s x.table.latest (x.table.name, x.table.options) (length a.seats.items) ≡ None
    setup = rw (sym k.latest, sym k.name, sym k.options) (dealt-setup s a None site may.dealt)
begins s x a moment (Some p) site idle may k = record {
  game_is = rw (setup, idle.acts) (ap (λ (past : List Act). Some (record { setup = p.setup; past = past })) may.dealt.past);
  timer = rw (setup, idle.calls p.setup, sym k.options, sym parts.0) refl;
  runs = runs;
  halts = halts p.setup.options.timed;
  on_time = on-time p.setup.options.timed;
}
  where
    setup : setup_when true s x.table.latest (x.table.name, x.table.options) (length a.seats.items) ≡ Some p.setup
    setup = rw (sym k.latest, sym k.name, sym k.options) (dealt-setup s a (Some p) site may.dealt)

    parts : (p.setup.options ≡ a.options) × (p.setup.players ≡ length a.seats.items)
    parts = setup-variant (site_in a) a.latest (a.name, a.options) (length a.seats.items) p.setup may.dealt.setup

    runs : ended_by (Some p) ≡ false
    runs = rw may.dealt.past (start-runs p.setup (rw parts.1 may.two))

    halts : (timed : Bool) → HaltsAtEnd (Some p) (timer_of timed moment p)
    halts true t is = subst (λ (u : History). is_stopped u.calls ≡ ended_by (Some p)) (some-same is) (sym runs)
    halts false t is = absurd (none-some is)

    on-time : (timed : Bool) → IsTimely moment (timer_of timed moment p)
    on-time true t is end ends =
        let from_start : deadline (new_timer moment p).timing (new_timer moment p).calls ≡ Some end =
        ap (λ (u : History). deadline u.timing u.calls) (some-same is) ∙ ends in omega (arith, some-same from_start)
    on-time false t is end ends = absurd (none-some is)

no-review : (s : Site) (x : State) (a : Room) (moment : ℕ) (game : Option Position) → Begins s x a moment game → Keeps x a
    → x.table.loaded ≡ None → position_in x.table ≡ None → a.review ≡ walk_in (started_table s moment a.seats.items x.table)
no-review s x a moment game begun k unloaded bare = before ∙ sym after
  where
    before : a.review ≡ None
    before =
        let none : reviewed_game x.table.loaded x.table.game x.table.items ≡ None = reviewed_game-by x.table ∙ rw (unloaded, bare) refl in
        k.review ∙ ap (λ (o : Option Position). walk_of o (steps x.table.items)) none

    not-over : (p : Option Position) → ended_by p ≡ false → reviewed_by None p ≡ None
    not-over None runs = refl
    not-over (Some p) runs = rw runs refl

    after : walk_in (started_table s moment a.seats.items x.table) ≡ None
    after =
        let t : Table = started_table s moment a.seats.items x.table in
        let none : reviewed_game t.loaded t.game t.items ≡ None = reviewed_game-by t
        ∙ (ap (λ (l : Option Finished). reviewed_by l (position_in t)) unloaded
        ∙ (ap (reviewed_by None) (sym begun.game_is) ∙ not-over game begun.runs)) in
        ap (λ (o : Option Position). walk_of o (steps t.items)) none

-- a room keeps the state with the start
pub start-keeps : (s : Site) (x : State) (a b : Room) (moment : ℕ) (game : Option Position) → s ≡ site_in a → Sound s x
    → is_some a.names ≡ false → MayStart moment game a → StartsGame moment (by_seat a.seats.items) game (timer_when moment game) a b
    → Keeps x a
    → Keeps (with_start s moment a.seats.items x) b
start-keeps s x a b moment game site sound bare may starts k =
    let off : is_started x.table.items ≡ false = sym (ap is_some k.names) ∙ bare in
    let begun : Begins s x a moment game = begins s x a moment game site (sound.idle off) may k in
    let i : Item = item_at moment (what.Started (by_seat a.seats.items)) in
    record {
      latest = starts.latest ∙ k.latest;
      name = starts.name ∙ k.name;
      options = starts.options ∙ k.options;
      items = starts.items ∙ ap (λ (l : List Item). l ++ i ∷ []) k.items ∙ sym (reverse-append (i ∷ []) x.table.items);
      hosts = ap option_to_list starts.host ∙ k.hosts;
      standing = starts.standing ∙ k.standing;
      seats = starts.same_seats ∙ k.seats;
      watchers = starts.watchers ∙ k.watchers;
      kept = λ m. subst (λ (r : KeptReplies). StandsForOwn m r (x.own m)) (sym starts.kept) (k.kept m);
      load = starts.load ∙ k.load ∙ sym (host_load-item x i sound.within refl);
      stamp = starts.stamp ∙ omega (arith, k.stamp, may.later);
      names = starts.names;
      game = starts.game_is ∙ begun.game_is;
      timer = starts.timer_is ∙ begun.timer;
      saved = starts.saved ∙ k.saved;
      notes = ap (λ b. b.notes) starts.notes ∙ k.notes;
      loaded = starts.loaded ∙ k.loaded;
      review = starts.review ∙ no-review s x a moment game begun k (sym k.loaded
          ∙ may.unloaded) (unstarted-position s x.table sound.table off);
      halts = subst (λ (p : Option Position). HaltsAtEnd p b.timer) (sym starts.game_is)
          (subst (HaltsAtEnd game) (sym starts.timer_is) begun.halts);
      on_time = subst (λ (n : ℕ). IsTimely n b.timer) (sym starts.stamp) (subst (IsTimely moment) (sym starts.timer_is) begun.on_time);
      in_range = subst (λ (n : ℕ). n ≤ MOMENT_LIMIT) (sym starts.stamp) may.in_range;
    }

-- the moment of a start is not above the greatest one in any room that stands for a list
start-moment : (x : State) (c : Room) (moment : ℕ) → Keeps x c → min (stamp_for c moment) MOMENT_LIMIT ≡ stamp_in x moment
start-moment x c moment k = let stamp : stamp_for c moment ≡ stamp_in x moment = ap (λ (n : ℕ). max (in_time moment) n) k.stamp in
    omega (arith, stamp, k.in_range)

-- a room stands for the list with a start
pub start-steps : (a c d b : Room) (e : Entry) (game : Option Position) → IsStarting e c → SameFacts a c → IsDealtFor c game
    → StartsGame (min (stamp_for c e.moment) MOMENT_LIMIT) (by_seat c.seats.items) game (timer_when (min (stamp_for c e.moment)
    MOMENT_LIMIT) game) c d
    → KeepsEntry e Done d b → Steps e Done a b
start-steps a c d b e game starting facts dealt starts keeps =
    goes-answers a b (Call e) (Replied Done) (keeps.site ∙ (starts.site ∙ facts.site)) tt (λ events stands.
    let s : Site = site_in a in
    let x : State = timed_state s (past_of s events) (Call e) in
    let time : Timed (Call e) a c = timed-bare (Call e) a c facts starting.start.bare in
    let finds : Finding s events e c = taken-finding a c e events time starting.taken stands in
    let k : Keeps x c = finds.found.keeps in
    let moment : ℕ = min (stamp_for c e.moment) MOMENT_LIMIT in
    let is : moment ≡ stamp_in x e.moment = start-moment x c e.moment k in
    let command_is : is_start e.command ≡ true = ap is_start starting.start.command_is in
    let may : MayStart moment game c = record {
      dealt = dealt;
      unloaded = not-some c.loaded (taken-gathering c e starting.taken.none (rw starting.start.command_is refl)).1;
      two = taken-two c e starting.taken.none command_is;
      later = omega (arith, k.in_range);
      in_range = omega arith;
    } in
    let begun : Keeps (with_start s moment c.seats.items x) d =
    start-keeps s x c d moment game (sym facts.site) finds.found.sound starting.start.bare may starts k in
    let at_stamp : Keeps (with_start s (stamp_in x e.moment) (seated_names x.table.items) x) d =
    subst (λ (n : ℕ). Keeps (with_start s n (seated_names x.table.items) x) d) is
    (subst (λ (names : List (List ℕ)). Keeps (with_start s moment names x) d) k.seats begun) in
    record {
      answer = answer_to-call s events e ∙ ap Replied finds.taken_is.reply;
      state = with_entry e (reply_in x e) (with_start s (stamp_in x e.moment) (seated_names x.table.items) x);
      same = state_of-start s (past_of s events) e starting.start.command_is finds.taken_is.accepted;
      keeps = rw (finds.taken_is.reply) (entry-keeps (with_start s (stamp_in x e.moment) (seated_names x.table.items) x) d b e Done
          (λ load done kept. let never : false ≡ true = sym (ap (λ (c : Command). is_some (asked_id c)) starting.start.command_is)
          ∙ load in cc)
          keeps at_stamp);
    })
