-- May a load be pending where a game was started or loaded, behind an accepted command? No.
use Rattle.std.proofs.Common.{◌≡◌, ℕ, ◌+◌, Bool, true, false, List, [], ◌∷◌, ◌++◌, suc, refl, ap, arith, sym, subst, ◌∙◌, length, Some, None, Option}
use Rattle.std.specs.Prelude.{◌&&◌, ◌||◌, ◌==◌, bytes_eq, is_none, is_some}
use Rattle.std.specs.List.{list_any}
use Rattle.std.specs.Option.{option_to_list}
use Rattle.std.proofs.lemmas.Bool.{and_parts}
use Rattle.std.proofs.lemmas.List.{append-nil}
use Rattle.hb_rules.specs.declared.acts.Action.TheVariants as action
use Rattle.hb_rules.specs.declared.acts.EndHow.TheVariants.{Terminated}
use Rattle.hb_rules.specs.declared.acts.Options.{Options}
use Rattle.hb_rules.specs.Setup.{by}
use Rattle.hb_club.specs.declared.commands.Command.{Command}
use Rattle.hb_club.specs.declared.commands.Command.TheVariants as command
use Rattle.hb_club.specs.declared.commands.Entry.{Entry}
use Rattle.hb_club.specs.declared.items.Item.{Item}
use Rattle.hb_club.specs.declared.items.What.TheVariants as what
use Rattle.hb_club.specs.CommandKinds.{asked_id, is_look}
use Rattle.hb_club.specs.OwnEntries.{OwnEntry, is_done, kept_entry, pending_id}
use Rattle.hb_club.specs.NewItems.{by_seat, entry_stamp, item_of, review_item, stamped_item}
use Rattle.hb_club.specs.RoomEvents.{Call, Happening, RoomEvent, Site, event_moment}
use Rattle.hb_club.specs.Rooms.{happening, past_of}
use Rattle.hb_club.specs.Seating.{seated_names}
use Rattle.hb_club.specs.Table.{Table, seat_of}
use Rattle.hb_club.specs.TableFacts.{loaded_game, own_by, own_entries, record_of, table_of}
use Rattle.hb_club.specs.TableItems.{host, is_host, is_started, latest_items, opened_count, steps}
use Rattle.hb_club.specs.TableRefusals.{is_accepted, own_for, reply_by}
use Rattle.hb_club.specs.TableReview.{reviewed_game, step_of}
use Rattle.hb_club.specs.TimeFirst.{timeout}
use Rattle.hb_club.proofs.RoomsLemmas.{latest_items-append, opened_count-append}
use Rattle.hb_club.proofs.TableRefusalsLemmas.{done-here, done-host, done-no-game, done-not-loading}
use Rattle.hb_club.proofs.TimeFirstLemmas.{item_at}
use Rattle.hb_club.proofs.PlainItemsLemmas.{AreKept, are-kept, timeout-plain}
use Rattle.hb_club.proofs.TableLoadsLemmas.{AreApart, call-quiet, false-true, new-apart, own_of, pending-head, pending_at, plain-apart, same-name, table_for, plain-item}

-- what an accepted command leaves
abbrev pub IsTaken : Site → List Happening → Entry → Type 0
IsTaken s past e = is_accepted (table_for s past e) (own_of s past e) e ≡ true

-- the stamp of an accepted command
abbrev pub stamp_for : Site → List Happening → Entry → ℕ
stamp_for s past e = entry_stamp (table_for s past e) past e

taken-parts : (s : Site) (past : List Happening) (e : Entry) → IsTaken s past e → is_look e.command ≡ false
    → (is_done (reply_by (table_for s past e) (own_for (table_for s past e) (own_of s past e) e) e) ≡ true)
    × (is_none (kept_entry (own_for (table_for s past e) (own_of s past e) e) e.number) ≡ true)
taken-parts s past e taken no-look = and_parts _ _ (rw no-look at taken)

-- a load that is accepted comes where nothing was started or loaded
load-apart : (s : Site) (past : List Happening) (e : Entry) (id : ℕ) → e.command ≡ command.Load id → IsTaken s past e
    → AreApart (happening s past (Call e) ∷ past)
load-apart s past e id is taken = record {
  waits = λ h. (free, unloaded);
  apart = λ on. absurd (false-true (sym free ∙ on));
}
  where
    t : Table
    t = table_for s past e

    own : List OwnEntry
    own = own_for t (own_of s past e) e

    late : List Item
    late = timeout (table_of s past) (table_of s past).game (event_moment (Call e))

    items : List Item
    items = latest_items (record_of past)

    added : (happening s past (Call e)).added ≡ late
    added = rw (taken, is) refl

    fresh : (is_done (reply_by t own e) ≡ true) × (is_none (kept_entry own e.number) ≡ true)
    fresh = taken-parts s past e taken (rw is refl)

    none : (is_started t.items ≡ false) × (is_some t.loaded ≡ false)
    none = done-no-game t own e (rw is refl) fresh.0 fresh.1

    kept : AreKept late items
    kept = are-kept late items (timeout-plain (table_of s past) (table_of s past).game (event_moment (Call e)))

    free : is_started (latest_items (record_of (happening s past (Call e) ∷ past))) ≡ false
    free = ap (λ (xs : List Item). is_started (latest_items (xs ++ record_of past))) added
        ∙ (ap is_started (latest_items-append late (record_of past) kept.count) ∙ none.0)

    unloaded : is_some (loaded_game (happening s past (Call e) ∷ past)) ≡ false
    unloaded = rw (added, kept.opened, kept.loaded) none.1

host-is : (by : Option (List ℕ)) (name member : List ℕ) → by ≡ Some name → list_any (bytes_eq member) (option_to_list by) ≡ true
    → member ≡ name
host-is by name member is h =
    same-name member name (either (bytes_eq member name)
    (subst (λ (o : Option (List ℕ)). list_any (bytes_eq member) (option_to_list o) ≡ true) is h))
  where
    either : (b : Bool) → (b || false) ≡ true → b ≡ true
    either true h = refl
    either false h = h

-- a start that is accepted comes where nothing was loaded and no load is pending
start-apart : (s : Site) (past : List Happening) (e : Entry) → e.command ≡ command.Start → IsTaken s past e
    → AreApart (happening s past (Call e) ∷ past)
start-apart s past e is taken = record {
  waits = λ h. absurd (never (host items) refl (moved h));
  apart = λ on. rw (added, kept.opened, kept.loaded) none.1;
}
  where
    t : Table
    t = table_for s past e

    own : List OwnEntry
    own = own_for t (own_of s past e) e

    late : List Item
    late = timeout (table_of s past) (table_of s past).game (event_moment (Call e))

    items : List Item
    items = latest_items (record_of past)

    start : Item
    start = item_at (entry_stamp t past e) (what.Started (by_seat (seated_names t.items)))

    added : (happening s past (Call e)).added ≡ start ∷ late
    added = rw (taken, is) refl

    kept : AreKept late items
    kept = are-kept late items (timeout-plain (table_of s past) (table_of s past).game (event_moment (Call e)))

    fresh : (is_done (reply_by t own e) ≡ true) × (is_none (kept_entry own e.number) ≡ true)
    fresh = taken-parts s past e taken (rw is refl)

    none : (is_started t.items ≡ false) × (is_some t.loaded ≡ false)
    none = done-no-game t own e (rw is refl) fresh.0 fresh.1

    here : (e.table == opened_count (record_of past)) ≡ true
    here = done-here t (own_of s past e) e (rw is refl) fresh.0

    mine : own ≡ own_of s past e
    mine = rw here refl

    quiet : is_some (pending_id (own_of s past e) (late ++ items)) ≡ false
    quiet = ap (λ (xs : List OwnEntry). is_some (pending_id xs (late ++ items))) (sym mine)
        ∙ done-not-loading t own e (rw is refl) fresh.0 fresh.1

    n : ℕ
    n = opened_count (record_of past)

    all : List Item
    all = latest_items (record_of (happening s past (Call e) ∷ past))

    same-all : all ≡ start ∷ (late ++ items)
    same-all = ap (λ (xs : List Item). latest_items (xs ++ record_of past)) added ∙ latest_items-append (start ∷ late)
        (record_of past) kept.count

    no-table : (k a b : ℕ) → a ≡ k + b → k ≡ 0 → a ≡ b
    no-table k a b is none = omega (arith, is, none)

    same-n : opened_count (record_of (happening s past (Call e) ∷ past)) ≡ n
    same-n = no-table (opened_count (start ∷ late)) (opened_count (record_of (happening s past (Call e) ∷ past))) n
        (ap (λ (xs : List Item). opened_count (xs ++ record_of past)) added ∙ opened_count-append (start ∷ late)
        (record_of past)) kept.count

    at_list : List Item → ℕ → Type 0
    at_list xs k = is_some (pending_at (host xs) k (happening s past (Call e) ∷ past) xs) ≡ true

    moved : at_list all (opened_count (record_of (happening s past (Call e) ∷ past)))
        → is_some (pending_at (host items) n (happening s past (Call e) ∷ past) (start ∷ (late ++ items))) ≡ true
    moved h = subst (λ (by : Option (List ℕ)). is_some (pending_at by n (happening s past (Call e) ∷ past) (start ∷ (late ++ items)))
        ≡ true) kept.host
        (subst (λ (xs : List Item). at_list xs n) same-all (subst (λ (k : ℕ). at_list all k) same-n h))

    never : (by : Option (List ℕ)) → host items ≡ by
        → is_some (pending_at by n (happening s past (Call e) ∷ past) (start ∷ (late ++ items))) ≡ true → ⊥
    never None host-none h = false-true h
    never (Some name) host-some h =
        let hosts : is_host t.items e.member ≡ true = done-host t own e (rw is refl) fresh.0 fresh.1 in
        let member : e.member ≡ name = host-is (host (late ++ items)) name e.member (kept.host ∙ host-some) hosts in
        let count : ℕ = length (latest_items (record_of (happening s past (Call e) ∷ past))) in
        let head : Option OwnEntry = own_by n name count (happening s past (Call e)).event (happening s past (Call e)).answer in
        let free : (is_accepted t (own_of s past e) e && is_some (asked_id e.command)) ≡ false = rw (taken, is) refl in
        let h2 : is_some (pending_id (option_to_list head ++ own_entries n name past) (start ∷ (late ++ items))) ≡ true =
        subst (λ (xs : List OwnEntry). is_some (pending_id xs (start ∷ (late ++ items))) ≡ true)
        (append-nil (own_entries n name (happening s past (Call e) ∷ past))) h in
        let h3 : is_some (pending_id (own_entries n name past) (late ++ items)) ≡ true =
        pending-head head (own_entries n name past) (start ∷ []) (late ++ items) (call-quiet s past e free name count host-some) h2 in
        let h4 : is_some (pending_id (own_of s past e) (late ++ items)) ≡ true =
        subst (λ (m : List ℕ). is_some (pending_id (own_entries n m past) (late ++ items)) ≡ true) (sym member) h3 in
        false-true (sym quiet ∙ h4)

review-apart : (s : Site) (past : List Happening) (e : Entry) (c : Command) → e.command ≡ c → IsTaken s past e
    → item_of (table_for s past e) e.member c ≡ review_item (table_for s past e) c → asked_id c ≡ None → AreApart past
    → AreApart (happening s past (Call e) ∷ past)
review-apart s past e c is taken item asks before =
    plain-apart s past e (stamped_item (stamp_for s past e) (review_item (table_for s past e) c)) (rw (taken, is, item) refl)
    (plain-item (stamp_for s past e) (step_of (reviewed_game (table_for s past e).loaded (table_for s past e).game
    (table_for s past e).items) (steps (table_for s past e).items) c))
    (rw (taken, is, asks) refl) before

opens : (s : Site) (past : List Happening) (e : Entry) (name : List ℕ) (options : Options) → e.command ≡ command.Open name options
    → IsTaken s past e → opened_count (happening s past (Call e)).added ≡ suc 0
opens s past e name options is taken =
    let late : List Item = timeout (table_of s past) (table_of s past).game (event_moment (Call e)) in
    let first : Item = item_at (stamp_for s past e) (what.Opened e.member) in
    let added : (happening s past (Call e)).added ≡ first ∷ late = rw (taken, is) refl in
    let none : opened_count late ≡ 0 =
    (are-kept late [] (timeout-plain (table_of s past) (table_of s past).game (event_moment (Call e)))).count in
    ap opened_count added ∙ (opened_count-append (first ∷ []) late ∙ ap (λ (k : ℕ). 1 + k) none)

-- what an accepted command leaves, by its kind
pub taken-apart : (s : Site) (events : List RoomEvent) (e : Entry) (c : Command) → e.command ≡ c → IsTaken s (past_of s events) e
    → AreApart (past_of s events) → AreApart (happening s (past_of s events) (Call e) ∷ past_of s events)
taken-apart s events e (command.Open name options) is taken before = new-apart s events (Call e) 0
    (opens s (past_of s events) e name options is taken)
taken-apart s events e command.Start is taken before = start-apart s (past_of s events) e is taken
taken-apart s events e (command.Load id) is taken before = load-apart s (past_of s events) e id is taken
taken-apart s events e command.Sit is taken before =
    plain-apart s (past_of s events) e (item_at (stamp_for s (past_of s events) e) (what.Sat e.member) ∷ []) (rw (taken, is) refl)
    (refl, tt) (rw (taken, is) refl) before
taken-apart s events e command.Rise is taken before =
    plain-apart s (past_of s events) e (item_at (stamp_for s (past_of s events) e) (what.Rose e.member) ∷ []) (rw (taken, is) refl)
    (refl, tt) (rw (taken, is) refl) before
taken-apart s events e (command.Act a) is taken before =
    plain-apart s (past_of s events) e (item_at (stamp_for s (past_of s events) e)
    (what.Acted (by (seat_of (table_for s (past_of s events) e) e.member) a)) ∷ []) (rw (taken, is) refl) (refl, tt)
    (rw (taken, is) refl) before
taken-apart s events e (command.Note order text) is taken before =
    plain-apart s (past_of s events) e [] (rw (taken, is) refl) tt (rw (taken, is) refl) before
taken-apart s events e command.Pause is taken before =
    plain-apart s (past_of s events) e (item_at (stamp_for s (past_of s events) e) (what.Paused e.member) ∷ []) (rw (taken, is) refl)
    (refl, tt) (rw (taken, is) refl) before
taken-apart s events e command.Resume is taken before =
    plain-apart s (past_of s events) e (item_at (stamp_for s (past_of s events) e) (what.Resumed e.member) ∷ []) (rw (taken, is) refl)
    (refl, tt) (rw (taken, is) refl) before
taken-apart s events e command.Terminate is taken before =
    plain-apart s (past_of s events) e (item_at (stamp_for s (past_of s events) e)
    (what.Acted (by (seat_of (table_for s (past_of s events) e) e.member) (action.End Terminated))) ∷ []) (rw (taken, is) refl)
    (refl, tt) (rw (taken, is) refl) before
taken-apart s events e (command.Watch shadow) is taken before =
    plain-apart s (past_of s events) e (item_at (stamp_for s (past_of s events) e) (what.Watching e.member shadow) ∷ [])
    (rw (taken, is) refl) (refl, tt) (rw (taken, is) refl) before
taken-apart s events e command.Leave is taken before =
    plain-apart s (past_of s events) e (item_at (stamp_for s (past_of s events) e) (what.Left e.member) ∷ []) (rw (taken, is) refl)
    (refl, tt) (rw (taken, is) refl) before
taken-apart s events e (command.Go turn) is taken before = review-apart s (past_of s events) e (command.Go turn) is taken refl refl before
taken-apart s events e (command.Hypo a) is taken before = review-apart s (past_of s events) e (command.Hypo a) is taken refl refl before
taken-apart s events e command.Undo is taken before = review-apart s (past_of s events) e command.Undo is taken refl refl before
taken-apart s events e command.Close is taken before =
    plain-apart s (past_of s events) e (item_at (stamp_for s (past_of s events) e) what.Closed ∷ []) (rw (taken, is) refl) (refl, tt)
    (rw (taken, is) refl) before
taken-apart s events e command.Look is taken before =
    plain-apart s (past_of s events) e [] (rw (taken, is) refl) tt (rw (taken, is) refl) before
