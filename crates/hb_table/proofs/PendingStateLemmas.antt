-- Which load is pending in a state after each kind of event?
use Rattle.std.proofs.Common.{◌≡◌, ℕ, ◌-◌, ◌⊎◌, inl, inr, Bool, true, false, List, [], ◌∷◌, ◌++◌, suc, refl, ap, arith, sym, subst, ◌∙◌, length, length-append, take, Some, None, Option}
use Rattle.std.specs.Prelude.{◌&&◌, ◌||◌, ◌==◌, IsSome, bytes_eq, flat_map, is_none, is_some, nat_le, not, if◌then◌else◌}
use Rattle.std.specs.List.{list_any}
use Rattle.std.specs.Option.{option_to_list}
use Rattle.std.proofs.lemmas.Bool.{and_parts, or_cases}
use Rattle.std.proofs.lemmas.List.{append-nil}
use Rattle.std.proofs.lemmas.Slice.Eq.{bytes_eq-Decides}
use Rattle.hb_rules.specs.declared.acts.Options.{Options}
use Rattle.hb_rules.specs.declared.setups.Setup.{Setup}
use Rattle.hb_club.specs.declared.commands.Command.{Command}
use Rattle.hb_club.specs.declared.commands.Command.TheVariants as command
use Rattle.hb_club.specs.declared.commands.Entry.{Entry}
use Rattle.hb_club.specs.declared.items.Item.{Item}
use Rattle.hb_club.specs.declared.items.What.TheVariants as what
use Rattle.hb_club.specs.declared.replies.Reply.{Reply}
use Rattle.hb_club.specs.CommandKinds.{asked_id, is_look}
use Rattle.hb_club.specs.OwnEntries.{OwnEntry, accepted_load, is_done, kept_entry, pending_id, still_pending}
use Rattle.hb_club.specs.RoomEvents.{RoomEvent, Site, event_moment}
use Rattle.hb_club.specs.Rooms.{past_of}
use Rattle.hb_club.specs.Table.{Table}
use Rattle.hb_club.specs.TableFacts.{table_of}
use Rattle.hb_club.specs.TableInvariant.{IsApart, IsTable}
use Rattle.hb_club.specs.TableItems.{ends_load, has, host, host_in, is_started}
use Rattle.hb_club.specs.TableRefusals.{own_for}
use Rattle.hb_club.specs.TimeFirst.{timeout}
use Rattle.hb_club.specs.WholeGames.{BringWhole}
use Rattle.hb_club.proofs.NotedLoadsLemmas.{past_of-apart}
use Rattle.hb_club.proofs.OwnEntriesLemmas.{own_entries-within, within-more}
use Rattle.hb_club.proofs.PendingLemmas.{accepted_load-quiet, are_quiet, are_within, is_quiet, is_within, pending_id-ended, pending_id-quiet}
use Rattle.hb_club.proofs.TableInvariantLemmas.{past_of-facts, table_of-is, timed_table-is}
use Rattle.hb_club.proofs.TableLoadsLemmas.{AreApart, same-name}
use Rattle.hb_club.proofs.TableRefusalsLemmas.{done-host}
use Rattle.hb_club.proofs.TimeFirstLemmas.{timeout-all}
use Rattle.hb_table.specs.State.{State, host_load, state_at}
use Rattle.hb_table.specs.StateMoves.{accepts, item_at, late_items, own_with, reply_in, timed_state, with_entry, with_table}
use Rattle.hb_table.proofs.StateLemmas.{IsAccepted, accepts-here, is-accepted}

-- one item more

has-same : (i : Item) (items : List Item) (count : ℕ) → nat_le count (length items) ≡ true → ends_load i.what ≡ false
    → has ends_load (take (length (i ∷ items) - count) (i ∷ items)) ≡ has ends_load (take (length items - count) items)
has-same i items count low stays =
    let size : length (i ∷ items) - count ≡ suc (length items - count) = grind arith in
    rw (size, stays) refl

-- an item that ends no load leaves what is pending
pub pending_id-stays : (own : List OwnEntry) (i : Item) (items : List Item) → are_within (length items) own ≡ true
    → ends_load i.what ≡ false → pending_id own (i ∷ items) ≡ pending_id own items
pending_id-stays [] i items within stays = refl
pending_id-stays (o ∷ own) i items within stays =
    let parts : (is_within (length items) o ≡ true) × (are_within (length items) own ≡ true) = and_parts _ _ within in
    pick (or_cases (is_quiet o.reply o.entry.command) (nat_le o.count (length items)) parts.0) (pending_id-stays own i items parts.1 stays)
  where
    rest : Option ℕ
    rest = pending_id own (i ∷ items)

    asked : (a : Option ℕ) → nat_le o.count (length items) ≡ true → rest ≡ pending_id own items
        → still_pending (i ∷ items) o.count a rest ≡ still_pending items o.count a (pending_id own items)
    asked None low ih = ih
    asked (Some id) low ih = rw (has-same i items o.count low stays) refl

    pick : (is_quiet o.reply o.entry.command ≡ true) ⊎ (nat_le o.count (length items) ≡ true) → rest ≡ pending_id own items
        → still_pending (i ∷ items) o.count (accepted_load own o) rest
        ≡ still_pending items o.count (accepted_load own o) (pending_id own items)
    pick (inl quiet) ih = rw (accepted_load-quiet own o quiet) ih
    pick (inr low) ih = asked (accepted_load own o) low ih

-- what is pending behind one item more
pub pending_id-one : (own : List OwnEntry) (i : Item) (items : List Item) → are_within (length items) own ≡ true
    → pending_id own (i ∷ items) ≡ (if ends_load i.what then None else pending_id own items)
pending_id-one own i items within = pick (ends_load i.what) refl
  where
    pick : (b : Bool) → ends_load i.what ≡ b → pending_id own (i ∷ items) ≡ (if b then None else pending_id own items)
    pick true ends = pending_id-ended own i items within ends
    pick false stays = pending_id-stays own i items within stays

-- no entry of a state that makes a load pending names more items than there are
abbrev pub LoadsAreWithin : State → Type 0
LoadsAreWithin x = (member : List ℕ) → are_within (length x.table.items) (x.own member) ≡ true

-- a state with one item more, which opens no table, and the same entries: what ends a load leaves none pending, and else it stays
pub host_load-item : (x : State) (i : Item) → LoadsAreWithin x → host_in i.what ≡ None
    → pending_id (flat_map x.own (option_to_list (host (i ∷ x.table.items)))) (i ∷ x.table.items)
    ≡ (if ends_load i.what then None else host_load x)
host_load-item x i within none = rw none (pick (host x.table.items))
  where
    nothing : (b : Bool) (o : Option ℕ) → o ≡ None → o ≡ (if b then None else o)
    nothing true o none = none
    nothing false o none = refl

    pick : (h : Option (List ℕ)) → pending_id (flat_map x.own (option_to_list h)) (i ∷ x.table.items)
        ≡ (if ends_load i.what then None else pending_id (flat_map x.own (option_to_list h)) x.table.items)
    pick None = nothing (ends_load i.what) None refl
    pick (Some name) = rw (append-nil (x.own name)) (pending_id-one (x.own name) i x.table.items (within name))

-- one entry more

abbrev entry_now : State → Entry → Reply → OwnEntry
entry_now x e reply = record { entry = e; reply = reply; count = length x.table.items }

own_with-other : (x : State) (e : Entry) (reply : Reply) (member : List ℕ) → (e.table == x.table.latest && bytes_eq member e.member) ≡ false
    → own_with e reply x member ≡ x.own member
own_with-other x e reply member other = rw other refl

own_with-same : (x : State) (e : Entry) (reply : Reply) (member : List ℕ) → (e.table == x.table.latest && bytes_eq member e.member) ≡ true
    → own_with e reply x member ≡ entry_now x e reply ∷ x.own member
own_with-same x e reply member here = rw here refl

-- an entry that asks for no load leaves what is pending
pub host_load-entry : (x : State) (e : Entry) (reply : Reply)
    → ((e.table == x.table.latest) ≡ true → accepted_load (x.own e.member) (entry_now x e reply) ≡ None)
    → host_load (with_entry e reply x) ≡ host_load x
host_load-entry x e reply none = pick (host x.table.items)
  where
    each : (name : List ℕ) (b : Bool) → (e.table == x.table.latest && bytes_eq name e.member) ≡ b
        → pending_id (own_with e reply x name) x.table.items ≡ pending_id (x.own name) x.table.items
    each name false other = ap (λ (own : List OwnEntry). pending_id own x.table.items) (own_with-other x e reply name other)
    each name true here =
        let parts : ((e.table == x.table.latest) ≡ true) × (bytes_eq name e.member ≡ true) = and_parts _ _ here in
        let same : name ≡ e.member = same-name name e.member parts.1 in
        let asks : accepted_load (x.own name) (entry_now x e reply) ≡ None =
        subst (λ (m : List ℕ). accepted_load (x.own m) (entry_now x e reply) ≡ None) (sym same) (none parts.0) in
        ap (λ (own : List OwnEntry). pending_id own x.table.items) (own_with-same x e reply name here) ∙ rw asks refl

    pick : (h : Option (List ℕ)) → pending_id (flat_map (own_with e reply x) (option_to_list h)) x.table.items
        ≡ pending_id (flat_map x.own (option_to_list h)) x.table.items
    pick None = refl
    pick (Some name) = rw (append-nil (own_with e reply x name), append-nil (x.own name))
        (each name (e.table == x.table.latest && bytes_eq name e.member) refl)

none-either : (b : Bool) (o : Option ℕ) → o ≡ None → (if b then o else None) ≡ None
none-either true o none = none
none-either false o none = refl

-- so does each command but a load
pub host_load-other : (x : State) (e : Entry) (reply : Reply) → asked_id e.command ≡ None → host_load (with_entry e reply x) ≡ host_load x
host_load-other x e reply asks = host_load-entry x e reply
    (λ here. none-either (is_done reply && is_none (kept_entry (x.own e.member) e.number)) (asked_id e.command) asks)

asks-no-look : (c : Command) (id : ℕ) → asked_id c ≡ Some id → is_look c ≡ false
asks-no-look (command.Load other) id is = refl
asks-no-look (command.Open name options) id is = refl
asks-no-look command.Sit id is = refl
asks-no-look command.Rise id is = refl
asks-no-look command.Start id is = refl
asks-no-look (command.Act a) id is = refl
asks-no-look (command.Note order text) id is = refl
asks-no-look command.Pause id is = refl
asks-no-look command.Resume id is = refl
asks-no-look command.Terminate id is = refl
asks-no-look (command.Watch shadow) id is = refl
asks-no-look command.Leave id is = refl
asks-no-look (command.Go turn) id is = refl
asks-no-look (command.Hypo a) id is = refl
asks-no-look command.Undo id is = refl
asks-no-look command.Close id is = refl
asks-no-look command.Look id is = cc

-- and so does an entry that is not accepted
pub host_load-refused : (x : State) (e : Entry) → accepts x e ≡ false → host_load (with_entry e (reply_in x e) x) ≡ host_load x
host_load-refused x e refused = host_load-entry x e (reply_in x e) (λ here. pick (asked_id e.command) refl here)
  where
    plain : (look done fresh : Bool) → look ≡ false → (not look && done && fresh) ≡ false → (done && fresh) ≡ false
    plain look done fresh no-look h = grind (arith, no-look, h)

    pick : (a : Option ℕ) → asked_id e.command ≡ a → (e.table == x.table.latest) ≡ true
        → (if is_done (reply_in x e) && is_none (kept_entry (x.own e.member) e.number) then a else None) ≡ None
    pick None is here = none-either (is_done (reply_in x e) && is_none (kept_entry (x.own e.member) e.number)) None refl
    pick (Some id) is here =
        let mine : own_for x.table (x.own e.member) e ≡ x.own e.member = rw here refl in
        let test : (not (is_look e.command) && is_done (reply_in x e) && is_none (kept_entry (x.own e.member) e.number)) ≡ false =
        subst (λ (own : List OwnEntry). (not (is_look e.command) && is_done (reply_in x e) && is_none (kept_entry own e.number)) ≡ false)
        mine refused in
        let no : (is_done (reply_in x e) && is_none (kept_entry (x.own e.member) e.number)) ≡ false =
        plain (is_look e.command) (is_done (reply_in x e)) (is_none (kept_entry (x.own e.member) e.number))
        (asks-no-look e.command id is) test in
        rw no refl

host-member : (by : Option (List ℕ)) (member : List ℕ) → list_any (bytes_eq member) (option_to_list by) ≡ true → by ≡ Some member
host-member None member is = cc
host-member (Some name) member is = ap (λ (n : List ℕ). Some n) (sym (same-name member name (either (bytes_eq member name) is)))
  where
    either : (b : Bool) → (b || false) ≡ true → b ≡ true
    either true h = refl
    either false h = h

-- an accepted load is of the host, and is pending behind it
pub host_load-load : (x : State) (e : Entry) (id : ℕ) → e.command ≡ command.Load id → accepts x e ≡ true
    → host_load (with_entry e (reply_in x e) x) ≡ Some id
host_load-load x e id is taken =
    ap (λ (h : Option (List ℕ)). pending_id (flat_map (own_with e (reply_in x e) x) (option_to_list h)) x.table.items) by_host
    ∙ (ap (λ (own : List OwnEntry). pending_id own x.table.items)
    (append-nil (own_with e (reply_in x e) x e.member) ∙ own_with-same x e (reply_in x e) e.member mine)
    ∙ (ap (λ (a : Option ℕ). still_pending x.table.items (length x.table.items) a (pending_id (x.own e.member) x.table.items)) asked
    ∙ rw no-items refl))
  where
    are : IsAccepted x e
    are = is-accepted x e taken

    here : (e.table == x.table.latest) ≡ true
    here = accepts-here x e taken (rw is refl)

    by_host : host x.table.items ≡ Some e.member
    by_host = host-member (host x.table.items) e.member
        (done-host x.table (own_for x.table (x.own e.member) e) e (rw is refl) are.done are.fresh)

    mine : (e.table == x.table.latest && bytes_eq e.member e.member) ≡ true
    mine = rw (here, (bytes_eq-Decides e.member e.member).1 refl) refl

    own-is : own_for x.table (x.own e.member) e ≡ x.own e.member
    own-is = rw here refl

    fresh : is_none (kept_entry (x.own e.member) e.number) ≡ true
    fresh = subst (λ (own : List OwnEntry). is_none (kept_entry own e.number) ≡ true) own-is are.fresh

    done : is_done (reply_in x e) ≡ true
    done = rw are.no_look are.done

    asked : accepted_load (x.own e.member) (entry_now x e (reply_in x e)) ≡ Some id
    asked = rw (done, fresh, is) refl

    no-items : length x.table.items - length x.table.items ≡ 0
    no-items = omega arith

-- at a new table nothing is pending, if the entries that count there make nothing pending
pub host_load-table : (moment : ℕ) (host : List ℕ) (opened : List ℕ × Options) (own : List ℕ → List OwnEntry) (x : State)
    → ((member : List ℕ) → are_quiet (own member) ≡ true) → host_load (with_table moment host opened own x) ≡ None
host_load-table moment host opened own x quiet =
    rw (append-nil (own host)) (pending_id-quiet (own host) (item_at moment (what.Opened host) ∷ []) (quiet host))

-- what holds of the state of each list of events, and when time was applied

-- no entry that makes a load pending names more items than there are
pub state_at-within : (s : Site) (events : List RoomEvent) → LoadsAreWithin (state_at s events)
state_at-within s events = own_entries-within s events

-- nor when time was applied
pub timed_state-within : (s : Site) (events : List RoomEvent) (e : RoomEvent) → LoadsAreWithin (timed_state s (past_of s events) e)
timed_state-within s events e = λ member.
    within-more (length (state_at s events).table.items) (length (timed_state s (past_of s events) e).table.items)
    ((state_at s events).own member)
    (omega (arith, length-append (late_items s (past_of s events) e) (state_at s events).table.items)) (own_entries-within s events member)

-- time ends no load
pub host_load-timed : (s : Site) (events : List RoomEvent) (e : RoomEvent)
    → host_load (timed_state s (past_of s events) e) ≡ host_load (state_at s events)
host_load-timed s events e =
    let x : State = state_at s events in
    timeout-all (λ late. pending_id (flat_map x.own (option_to_list (host (late ++ x.table.items)))) (late ++ x.table.items) ≡ host_load x)
    refl (λ m act. host_load-item x (item_at m (what.Acted act)) (state_at-within s events) refl) x.table x.table.game (event_moment e)

-- time starts no game
pub is_started-late : (t : Table) (g : Option Setup) (moment : ℕ) (items : List Item)
    → is_started (timeout t g moment ++ items) ≡ is_started items
is_started-late t g moment items = timeout-all (λ late. is_started (late ++ items) ≡ is_started items) refl (λ m act. refl) t g moment

-- a load is pending only where no game was started or loaded, and no table has both
pub state_at-apart : (s : Site) (events : List RoomEvent) → IsApart (state_at s events).table (host_load (state_at s events))
state_at-apart s events =
    let are : AreApart (past_of s events) = past_of-apart s events in record { waits = are.waits; apart = are.apart }

-- nor has one when time was applied
pub timed_state-apart : (s : Site) (events : List RoomEvent) (e : RoomEvent)
    → IsApart (timed_state s (past_of s events) e).table (host_load (timed_state s (past_of s events) e))
timed_state-apart s events e = record {
  waits = λ some. (same ∙ (waits some).0, (waits some).1);
  apart = λ on. are.apart (sym same ∙ on);
}
  where
    t : Table
    t = table_of s (past_of s events)

    are : AreApart (past_of s events)
    are = past_of-apart s events

    same : is_started (timed_state s (past_of s events) e).table.items ≡ is_started t.items
    same = is_started-late t t.game (event_moment e) t.items

    waits : IsSome (host_load (timed_state s (past_of s events) e)) → (is_started t.items ≡ false) × (is_some t.loaded ≡ false)
    waits some = are.waits (subst (λ (o : Option ℕ). is_some o ≡ true) (host_load-timed s events e) some)

-- the table of each state is one, if the games that came are whole
pub state_at-table : (s : Site) (events : List RoomEvent) → BringWhole events → IsTable s (state_at s events).table
state_at-table s events whole = table_of-is s (past_of s events) (past_of-facts s events whole)

-- so it is when time was applied
pub timed_state-table : (s : Site) (events : List RoomEvent) (e : RoomEvent) → BringWhole events
    → IsTable s (timed_state s (past_of s events) e).table
timed_state-table s events e whole = timed_table-is s (past_of s events) (event_moment e) (past_of-facts s events whole)
