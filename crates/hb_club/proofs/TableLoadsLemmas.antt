-- May a load be pending at a table where a game was started or loaded? Not behind an event that adds plain items, or opens a table.
use Rattle.std.proofs.Common.{◌≡◌, ℕ, ◌+◌, Bool, true, false, List, [], ◌∷◌, ◌++◌, suc, refl, ap, arith, sym, subst, ◌∙◌, length, Some, None, Option}
use Rattle.std.specs.Prelude.{◌&&◌, ◌==◌, bytes_eq, flat_map, is_none, is_some, not, option_map, if◌then◌else◌}
use Rattle.std.specs.Option.{option_to_list}
use Rattle.std.proofs.lemmas.Bool.{and_parts, or_parts}
use Rattle.std.proofs.lemmas.Slice.Eq.{bytes_eq-Decides}
use Rattle.std.proofs.lemmas.List.{append-nil}
use Rattle.hb_review.specs.declared.steps.Step.{Step}
use Rattle.hb_rules.specs.Setup.{by}
use Rattle.hb_club.specs.declared.commands.Command.{Command}
use Rattle.hb_club.specs.declared.commands.Command.TheVariants as command
use Rattle.hb_club.specs.declared.commands.Entry.{Entry}
use Rattle.hb_club.specs.declared.items.Item.{Item}
use Rattle.hb_club.specs.declared.replies.Reply.{Reply}
use Rattle.hb_club.specs.CommandKinds.{asked_id, is_look}
use Rattle.hb_club.specs.EndedReplays.{Finished}
use Rattle.hb_club.specs.OwnEntries.{OwnEntry, accepted_load, is_done, kept_entry, pending_id, still_pending}
use Rattle.hb_club.specs.NewItems.{stamped_item, step_item}
use Rattle.hb_club.specs.RoomEvents.{AsksTodo, Call, Happening, RoomEvent, Site, event_moment}
use Rattle.hb_club.specs.Rooms.{happening, past_of}
use Rattle.hb_club.specs.Table.{Table}
use Rattle.hb_club.specs.TableFacts.{loaded_game, own_by, own_entries, record_of, table_of}
use Rattle.hb_club.specs.TableItems.{has, host, is_opened, is_started, latest_items, opened_count}
use Rattle.hb_club.specs.TableRefusals.{is_accepted, own_for, reply_on}
use Rattle.hb_club.specs.TimeFirst.{timeout, with_items}
use Rattle.hb_club.proofs.OwnEntriesLemmas.{own_entries-new}
use Rattle.hb_club.proofs.PendingLemmas.{pending_id-more, pending_id-quiet}
use Rattle.hb_club.proofs.RoomsLemmas.{latest_items-append, opened_count-append}
use Rattle.hb_club.proofs.PlainItemsLemmas.{AreKept, ArePlain, are-kept, plain-append, timeout-plain}

-- the load that is pending at a table with this host
abbrev pub pending_at : Option (List ℕ) → ℕ → List Happening → List Item → Option ℕ
pending_at by n past items = pending_id (flat_map (λ (name : List ℕ). own_entries n name past) (option_to_list by)) items

-- what holds of loads in a room
pub record AreApart (past : List Happening) : Type 0 where
  pub waits : is_some (pending_at (host (latest_items (record_of past))) (opened_count (record_of past)) past
      (latest_items (record_of past))) ≡ true
      → (is_started (latest_items (record_of past)) ≡ false) × (is_some (loaded_game past) ≡ false)
  pub apart : is_started (latest_items (record_of past)) ≡ true → is_some (loaded_game past) ≡ false

-- an own entry that asks for no load
abbrev pub QuietHead : Option OwnEntry → List OwnEntry → Type 0
QuietHead None own = Unit {0}
QuietHead (Some o) own = accepted_load own o ≡ None

-- behind such an entry, what is pending was pending before
pub pending-head : (head : Option OwnEntry) (own : List OwnEntry) (extra items : List Item) → QuietHead head own
    → is_some (pending_id (option_to_list head ++ own) (extra ++ items)) ≡ true → is_some (pending_id own items) ≡ true
pending-head None own extra items quiet h = pending_id-more own extra items h
pending-head (Some o) own extra items quiet h =
    pending_id-more own extra items
    (subst (λ (a : Option ℕ). is_some (still_pending (extra ++ items) o.count a (pending_id own (extra ++ items))) ≡ true) quiet h)

-- what an event leaves that opens no table
abbrev pub HeadsAreQuiet : Site → List Happening → RoomEvent → Type 0
HeadsAreQuiet s past e = (name : List ℕ) (count : ℕ) → host (latest_items (record_of past)) ≡ Some name
    → QuietHead (own_by (opened_count (record_of past)) name count (happening s past e).event (happening s past e).answer)
    (own_entries (opened_count (record_of past)) name past)

pending-before : (s : Site) (past : List Happening) (e : RoomEvent) (by : Option (List ℕ)) → HeadsAreQuiet s past e
    → host (latest_items (record_of past)) ≡ by
    → is_some (pending_at by (opened_count (record_of past)) (happening s past e ∷ past)
    ((happening s past e).added ++ latest_items (record_of past))) ≡ true
    → is_some (pending_at by (opened_count (record_of past)) past (latest_items (record_of past))) ≡ true
pending-before s past e None quiet is h = cc
pending-before s past e (Some name) quiet is h =
    let n : ℕ = opened_count (record_of past) in
    let items : List Item = latest_items (record_of past) in
    let added : List Item = (happening s past e).added in
    let count : ℕ = length (latest_items (record_of (happening s past e ∷ past))) in
    let head : Option OwnEntry = own_by n name count (happening s past e).event (happening s past e).answer in
    let h2 : is_some (pending_id (option_to_list head ++ own_entries n name past) (added ++ items)) ≡ true =
    subst (λ (own : List OwnEntry). is_some (pending_id own (added ++ items)) ≡ true)
    (append-nil (own_entries n name (happening s past e ∷ past))) h in
    subst (λ (own : List OwnEntry). is_some (pending_id own items) ≡ true) (sym (append-nil (own_entries n name past)))
    (pending-head head (own_entries n name past) added items (quiet name count is) h2)

-- the facts of the latest table when an event opens none, and adds plain items
pub keeps-apart : (s : Site) (past : List Happening) (e : RoomEvent)
    → AreKept (happening s past e).added (latest_items (record_of past)) → HeadsAreQuiet s past e → AreApart past
    → AreApart (happening s past e ∷ past)
keeps-apart s past e kept quiet before = record {
  waits = λ h. (
    started ∙ (before.waits (pending-before s past e (host items) quiet refl (moved h))).0,
    ap (λ (o : Option Finished). is_some o) game ∙ (before.waits (pending-before s past e (host items) quiet refl (moved h))).1,
  );
  apart = λ on. ap (λ (o : Option Finished). is_some o) game ∙ before.apart (sym started ∙ on);
}
  where
    items : List Item
    items = latest_items (record_of past)

    added : List Item
    added = (happening s past e).added

    n : ℕ
    n = opened_count (record_of past)

    same-items : latest_items (record_of (happening s past e ∷ past)) ≡ added ++ items
    same-items = latest_items-append added (record_of past) kept.count

    no-table : (k a b : ℕ) → a ≡ k + b → k ≡ 0 → a ≡ b
    no-table k a b is none = omega (arith, is, none)

    same-table : opened_count (record_of (happening s past e ∷ past)) ≡ n
    same-table = no-table (opened_count added) (opened_count (added ++ record_of past)) n
        (opened_count-append added (record_of past)) kept.count

    started : is_started (latest_items (record_of (happening s past e ∷ past))) ≡ is_started items
    started = ap is_started same-items ∙ kept.started

    game : loaded_game (happening s past e ∷ past) ≡ loaded_game past
    game = rw (kept.opened, kept.loaded) refl

    at_list : List Item → ℕ → Type 0
    at_list all k = is_some (pending_at (host all) k (happening s past e ∷ past) all) ≡ true

    moved : at_list (latest_items (record_of (happening s past e ∷ past))) (opened_count (record_of (happening s past e ∷ past)))
        → is_some (pending_at (host items) n (happening s past e ∷ past) (added ++ items)) ≡ true
    moved h = subst (λ (by : Option (List ℕ)). is_some (pending_at by n (happening s past e ∷ past) (added ++ items)) ≡ true) kept.host
        (subst (λ (all : List Item). at_list all n) same-items
        (subst (λ (k : ℕ). at_list (latest_items (record_of (happening s past e ∷ past))) k) same-table h))

-- where a table is opened, nothing was started or loaded, and nothing is pending
opened-has : (items : List Item) → has is_opened items ≡ false → opened_count items ≡ 0
opened-has [] none = refl
opened-has (i ∷ items) none =
    let parts : (is_opened i.what ≡ false) × (has is_opened items ≡ false) = or_parts (is_opened i.what) (has is_opened items) none in
    opened_count-append (i ∷ []) items ∙ rw (opened-one i parts.0, opened-has items parts.1) refl
  where
    opened-one : (i : Item) → is_opened i.what ≡ false → opened_count (i ∷ []) ≡ 0
    opened-one i no-table = rw no-table refl

-- no two tests differ
pub false-true : false ≡ true → ⊥
false-true h = grind (arith, h)

-- what is none is not some
pub none-some : (o : Option ℕ) → o ≡ None → is_some o ≡ true → ⊥
none-some o none some = false-true (sym (ap (λ (p : Option ℕ). is_some p) none) ∙ some)

none-either : (b : Bool) (a : Option ℕ) → a ≡ None → (if b then a else None) ≡ None
none-either true a none = none
none-either false a none = refl

-- so loads are apart at a new table
pub new-apart : (s : Site) (events : List RoomEvent) (e : RoomEvent) (k : ℕ) → opened_count (happening s (past_of s events) e).added ≡ suc k
    → AreApart (happening s (past_of s events) e ∷ past_of s events)
new-apart s events e k some = record { waits = λ h. absurd (none (host items) h); apart = λ on. rw opened refl }
  where
    past : List Happening
    past = happening s (past_of s events) e ∷ past_of s events

    items : List Item
    items = latest_items (record_of past)

    n : ℕ
    n = opened_count (record_of past)

    opened : has is_opened (happening s (past_of s events) e).added ≡ true
    opened = pick (has is_opened (happening s (past_of s events) e).added) refl
      where
        pick : (b : Bool) → has is_opened (happening s (past_of s events) e).added ≡ b → b ≡ true
        pick true is = refl
        pick false is = let zero-tables : opened_count (happening s (past_of s events) e).added ≡ 0 = opened-has
            (happening s (past_of s events) e).added is in
            absurd (omega (arith, zero-tables, some))

    none : (by : Option (List ℕ)) → is_some (pending_at by n past items) ≡ true → ⊥
    none None h = false-true h
    none (Some name) h =
        let quiet : pending_id (own_entries n name past) items ≡ None =
        pending_id-quiet (own_entries n name past) items (own_entries-new s events e k n name some refl) in
        let h2 : is_some (pending_id (own_entries n name past) items) ≡ true =
        subst (λ (own : List OwnEntry). is_some (pending_id own items) ≡ true) (append-nil (own_entries n name past)) h in
        none-some (pending_id (own_entries n name past) items) quiet h2

-- the own entry of a command that is not accepted, or asks for no load, is quiet
asks-no-look : (c : Command) (id : ℕ) → asked_id c ≡ Some id → is_look c ≡ false
asks-no-look (command.Load id) other h = refl
asks-no-look (command.Open name options) other h = refl
asks-no-look command.Sit other h = refl
asks-no-look command.Rise other h = refl
asks-no-look command.Start other h = refl
asks-no-look (command.Act a) other h = refl
asks-no-look (command.Note order text) other h = refl
asks-no-look command.Pause other h = refl
asks-no-look command.Resume other h = refl
asks-no-look command.Terminate other h = refl
asks-no-look (command.Watch shadow) other h = refl
asks-no-look command.Leave other h = refl
asks-no-look (command.Go turn) other h = refl
asks-no-look (command.Hypo a) other h = refl
asks-no-look command.Undo other h = refl
asks-no-look command.Close other h = refl
asks-no-look command.Look other h = cc

-- the table that an entry finds
abbrev pub table_for : Site → List Happening → Entry → Table
table_for s past e = with_items (timeout (table_of s past) (table_of s past).game (event_moment (Call e))) (table_of s past)

-- and the own entries of its member there
abbrev pub own_of : Site → List Happening → Entry → List OwnEntry
own_of s past e = own_entries (opened_count (record_of past)) e.member past

-- names that are compared as equal are one
pub same-name : (a b : List ℕ) → bytes_eq a b ≡ true → a ≡ b
same-name a b h = (bytes_eq-Decides a b).0 h

-- the own entry of such a command is quiet
pub call-quiet : (s : Site) (past : List Happening) (e : Entry)
    → (is_accepted (table_for s past e) (own_of s past e) e && is_some (asked_id e.command)) ≡ false → HeadsAreQuiet s past (Call e)
call-quiet s past e free name count is = pick (e.table == n && bytes_eq name e.member) refl
  where
    n : ℕ
    n = opened_count (record_of past)

    t : Table
    t = table_for s past e

    reply : Reply
    reply = reply_on t (own_of s past e) e

    own : List OwnEntry
    own = own_entries n name past

    asked : (a : Option ℕ) → asked_id e.command ≡ a → (e.table == n) ≡ true → own_of s past e ≡ own
        → (is_accepted t (own_of s past e) e && is_some a) ≡ false
        → (if is_done reply && is_none (kept_entry own e.number) then a else None) ≡ None
    asked None is here mine free = none-either (is_done reply && is_none (kept_entry own e.number)) None refl
    asked (Some id) is here mine free =
        let test : (is_done reply && is_none (kept_entry own e.number)) ≡ false = refused id is here mine free in
        rw test refl
      where
        refused : (id : ℕ) → asked_id e.command ≡ Some id → (e.table == n) ≡ true → own_of s past e ≡ own
            → (is_accepted t (own_of s past e) e && true) ≡ false → (is_done reply && is_none (kept_entry own e.number)) ≡ false
        refused id is here mine free = plain (is_look e.command) (is_done reply)
            (is_none (kept_entry (own_for t (own_of s past e) e) e.number))
            (is_none (kept_entry own e.number)) (asks-no-look e.command id is)
            (rw here (ap (λ (mine : List OwnEntry). is_none (kept_entry mine e.number)) mine)) free
          where
            plain : (look done fresh other : Bool) → look ≡ false → fresh ≡ other → ((not look && done && fresh) && true) ≡ false
                → (done && other) ≡ false
            plain look done fresh other no-look same h = grind (arith, no-look, same, h)

    pick : (b : Bool) → (e.table == n && bytes_eq name e.member) ≡ b
        → QuietHead (if b then Some (record { entry = e; reply = reply; count = count }) else None) own
    pick false other = tt
    pick true here =
        let parts : ((e.table == n) ≡ true) × (bytes_eq name e.member ≡ true) = and_parts _ _ here in
        asked (asked_id e.command) refl parts.0
        (ap (λ (member : List ℕ). own_entries n member past) (sym (same-name name e.member parts.1))) free

-- what an event of the clerk leaves, and an entry that is not accepted
pub todo-apart : (s : Site) (past : List Happening) (moment : ℕ) → AreApart past → AreApart (happening s past (AsksTodo moment) ∷ past)
todo-apart s past moment before = keeps-apart s past (AsksTodo moment)
    (are-kept (timeout (table_of s past) (table_of s past).game (event_moment (AsksTodo moment))) (latest_items (record_of past))
    (timeout-plain (table_of s past) (table_of s past).game (event_moment (AsksTodo moment)))) (λ name count is. tt) before

-- what a command leaves that adds plain items and asks for no load
pub plain-apart : (s : Site) (past : List Happening) (e : Entry) (news : List Item)
    → (happening s past (Call e)).added ≡ news ++ timeout (table_of s past) (table_of s past).game (event_moment (Call e)) → ArePlain news
    → (is_accepted (table_for s past e) (own_of s past e) e && is_some (asked_id e.command)) ≡ false → AreApart past
    → AreApart (happening s past (Call e) ∷ past)
plain-apart s past e news is plain free before = keeps-apart s past (Call e)
    (subst (λ (added : List Item). AreKept added (latest_items (record_of past))) (sym is)
    (are-kept (news ++ late) (latest_items (record_of past)) (both news plain)))
    (call-quiet s past e free) before
  where
    late : List Item
    late = timeout (table_of s past) (table_of s past).game (event_moment (Call e))

    both : (xs : List Item) → ArePlain xs → ArePlain (xs ++ late)
    both xs plain = plain-append xs late plain (timeout-plain (table_of s past) (table_of s past).game (event_moment (Call e)))

-- what a step of a review adds is plain
pub plain-item : (moment : ℕ) (o : Option Step) → ArePlain (stamped_item moment (option_map step_item o))
plain-item moment None = tt
plain-item moment (Some step) = (refl, tt)
