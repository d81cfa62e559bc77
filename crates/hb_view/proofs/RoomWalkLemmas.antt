-- How does the latest table of a room walk on with each event?
use Rattle.std.proofs.Common.{◌≡◌, ℕ, ◌+◌, Bool, true, false, List, [], ◌∷◌, ◌++◌, refl, ap, arith, sym, subst, ◌∙◌, append_assoc, length, Some, None, Option}
use Rattle.std.specs.Prelude.{◌&&◌, ◌==◌, if◌then◌else◌, is_some, option_map}
use Rattle.hb_rules.specs.declared.setups.Setup.{Setup}
use Rattle.hb_review.specs.declared.steps.Step.{Step}
use Rattle.hb_club.specs.declared.clerks.Noted.{Noted}
use Rattle.hb_club.specs.declared.clerks.Noted.TheVariants as noted
use Rattle.hb_club.specs.declared.commands.Command.{Command}
use Rattle.hb_club.specs.declared.commands.Command.TheVariants as command
use Rattle.hb_club.specs.declared.commands.Entry.{Entry}
use Rattle.hb_club.specs.declared.items.Item.{Item}
use Rattle.hb_club.specs.declared.items.What.TheVariants as what
use Rattle.hb_club.specs.ClerkCalls.{is_due, is_pending, noted_by, notice_id, pending_load}
use Rattle.hb_club.specs.CommandKinds.{is_open}
use Rattle.hb_club.specs.EndedReplays.{Finished}
use Rattle.hb_club.specs.OwnEntries.{OwnEntry}
use Rattle.hb_club.specs.NewItems.{entry_stamp, item_of, stamp_at, stamped_item, step_item}
use Rattle.hb_club.specs.RoomEvents.{AsksTodo, Call, Happening, Loaded, Notes, Notice, RoomEvent, Saved, Site, event_moment, in_time}
use Rattle.hb_club.specs.Rooms.{entry_item, happening, past_of}
use Rattle.hb_club.specs.Seating.{players}
use Rattle.hb_club.specs.Table.{Table}
use Rattle.hb_club.specs.TableFacts.{brought_game, loaded_game, opening, own_entries, record_of, setup_when, table_of}
use Rattle.hb_club.specs.TableItems.{has, is_loaded, is_opened, is_started, latest_items, opened_count, steps}
use Rattle.hb_club.specs.TableRecord.{AreInOrder}
use Rattle.hb_club.specs.TableRefusals.{is_accepted}
use Rattle.hb_club.specs.TableReview.{reviewed_game, step_of}
use Rattle.hb_club.specs.TimeFirst.{timeout, with_items}
use Rattle.hb_club.proofs.NotedLoadsLemmas.{noted-free, past_of-apart}
use Rattle.hb_club.proofs.PlainItemsLemmas.{AreKept, are-kept, timeout-plain}
use Rattle.hb_club.proofs.RoomsLemmas.{items_of, latest_items-append, opened_count-append, record_of-more}
use Rattle.hb_club.proofs.TableRecordLemmas.{latest_items-record}
use Rattle.hb_club.proofs.TimeFirstLemmas.{item_at, timeout-all}
use Rattle.hb_view.proofs.ShownGameLemmas.{not-both, some-none}
use Rattle.hb_view.proofs.TableWalkLemmas.{Walks, entry-walks, none-walks, setup_at, stays-walks, timeout-walks}

-- what holds at the latest table
abbrev pub WalksAt : Site → List Happening → Type 0
WalksAt s past = Walks (table_of s past).loaded (table_of s past).game (table_of s past).items

-- items that open no table and load no game
record AreAtTable (added : List Item) : Type 0 where
  opened : has is_opened added ≡ false
  count : opened_count added ≡ 0
  loaded : has is_loaded added ≡ false

-- what time adds before an event
abbrev late_of : Site → List Happening → RoomEvent → List Item
late_of s past e = timeout (table_of s past) (table_of s past).game (event_moment e)

late-kept : (s : Site) (past : List Happening) (e : RoomEvent) → AreKept (late_of s past e) (latest_items (record_of past))
late-kept s past e = are-kept (late_of s past e) (latest_items (record_of past))
    (timeout-plain (table_of s past) (table_of s past).game (event_moment e))

late-at : (s : Site) (past : List Happening) (e : RoomEvent) → AreAtTable (late_of s past e)
late-at s past e = let kept : AreKept (late_of s past e) (latest_items (record_of past)) = late-kept s past e in
    record { opened = kept.opened; count = kept.count; loaded = kept.loaded }

-- what an entry adds loads no game, and opens no table unless it asks for that
step-at : (moment : ℕ) (o : Option Step) (late : List Item) → AreAtTable late
    → AreAtTable (stamped_item moment (option_map step_item o) ++ late)
step-at moment None late are = are
step-at moment (Some step) late are = record { opened = are.opened; count = are.count; loaded = are.loaded }

entry-at : (t : Table) (member : List ℕ) (c : Command) (moment : ℕ) (late : List Item) → is_open c ≡ false → AreAtTable late
    → AreAtTable (stamped_item moment (item_of t member c) ++ late)
entry-at t member (command.Open name options) moment late opens are = absurd (not-both refl opens)
entry-at t member command.Sit moment late opens are = record { opened = are.opened; count = are.count; loaded = are.loaded }
entry-at t member command.Rise moment late opens are = record { opened = are.opened; count = are.count; loaded = are.loaded }
entry-at t member command.Start moment late opens are = record { opened = are.opened; count = are.count; loaded = are.loaded }
entry-at t member (command.Act a) moment late opens are = record { opened = are.opened; count = are.count; loaded = are.loaded }
entry-at t member command.Pause moment late opens are = record { opened = are.opened; count = are.count; loaded = are.loaded }
entry-at t member command.Resume moment late opens are = record { opened = are.opened; count = are.count; loaded = are.loaded }
entry-at t member command.Terminate moment late opens are = record { opened = are.opened; count = are.count; loaded = are.loaded }
entry-at t member (command.Watch shadow) moment late opens are = record { opened = are.opened; count = are.count; loaded = are.loaded }
entry-at t member command.Leave moment late opens are = record { opened = are.opened; count = are.count; loaded = are.loaded }
entry-at t member command.Close moment late opens are = record { opened = are.opened; count = are.count; loaded = are.loaded }
entry-at t member (command.Note order text) moment late opens are = are
entry-at t member (command.Load id) moment late opens are = are
entry-at t member command.Look moment late opens are = are
entry-at t member (command.Go turn) moment late opens are =
    step-at moment (step_of (reviewed_game t.loaded t.game t.items) (steps t.items) (command.Go turn)) late are
entry-at t member (command.Hypo a) moment late opens are =
    step-at moment (step_of (reviewed_game t.loaded t.game t.items) (steps t.items) (command.Hypo a)) late are
entry-at t member command.Undo moment late opens are =
    step-at moment (step_of (reviewed_game t.loaded t.game t.items) (steps t.items) command.Undo) late are

-- an opening adds that the table is open
open-item : (t : Table) (member : List ℕ) (c : Command) → is_open c ≡ true → item_of t member c ≡ Some (what.Opened member)
open-item t member (command.Open name options) opens = refl
open-item t member command.Sit opens = absurd (not-both opens refl)
open-item t member command.Rise opens = absurd (not-both opens refl)
open-item t member command.Start opens = absurd (not-both opens refl)
open-item t member (command.Act a) opens = absurd (not-both opens refl)
open-item t member (command.Note order text) opens = absurd (not-both opens refl)
open-item t member command.Pause opens = absurd (not-both opens refl)
open-item t member command.Resume opens = absurd (not-both opens refl)
open-item t member command.Terminate opens = absurd (not-both opens refl)
open-item t member (command.Watch shadow) opens = absurd (not-both opens refl)
open-item t member command.Leave opens = absurd (not-both opens refl)
open-item t member (command.Load id) opens = absurd (not-both opens refl)
open-item t member (command.Go turn) opens = absurd (not-both opens refl)
open-item t member (command.Hypo a) opens = absurd (not-both opens refl)
open-item t member command.Undo opens = absurd (not-both opens refl)
open-item t member command.Close opens = absurd (not-both opens refl)
open-item t member command.Look opens = absurd (not-both opens refl)

-- the table after an event that opens none

no-more : (k a b : ℕ) → a ≡ k + b → k ≡ 0 → a ≡ b
no-more k a b is none = omega (arith, is, none)

abbrev moved : Site → Happening → Table → Table
moved s h t = record {
  latest = t.latest;
  name = t.name;
  options = t.options;
  items = h.added ++ t.items;
  game = setup_at s t (h.added ++ t.items);
  loaded = if has is_loaded h.added then brought_game h.event else t.loaded;
}

table_of-moved : (s : Site) (h : Happening) (past : List Happening) → has is_opened h.added ≡ false → opened_count h.added ≡ 0
    → table_of s (h ∷ past) ≡ moved s h (table_of s past)
table_of-moved s h past opened count =
    let same : opened_count (h.added ++ record_of past) ≡ opened_count (record_of past) =
    no-more (opened_count h.added) (opened_count (h.added ++ record_of past)) (opened_count (record_of past))
    (opened_count-append h.added (record_of past)) count in
    let items : latest_items (h.added ++ record_of past) ≡ h.added ++ latest_items (record_of past) =
    latest_items-append h.added (record_of past) count in
    rw (same, items, opened) refl

-- the items that an event adds in front of those of time
walks-news : (s : Site) (past : List Happening) (h : Happening) (news late : List Item) (loaded : Option Finished)
    → h.added ≡ news ++ late → has is_opened (news ++ late) ≡ false → opened_count (news ++ late) ≡ 0
    → (if has is_loaded (news ++ late) then brought_game h.event else (table_of s past).loaded) ≡ loaded
    → Walks loaded (setup_at s (table_of s past) (news ++ (late ++ (table_of s past).items))) (news ++ (late ++ (table_of s past).items))
    → WalksAt s (h ∷ past)
walks-news s past h news late loaded added opened count is walks =
    let t : Table = table_of s past in
    let items : h.added ++ t.items ≡ news ++ (late ++ t.items) =
    ap (λ (xs : List Item). xs ++ t.items) added ∙ append_assoc news late t.items in
    let given : Walks (moved s h t).loaded (moved s h t).game (moved s h t).items =
    subst (λ (xs : List Item). Walks (moved s h t).loaded (setup_at s t xs) xs) (sym items)
    (subst (λ (l : Option Finished). Walks l (setup_at s t (news ++ (late ++ t.items))) (news ++ (late ++ t.items)))
    (sym (ap (λ (xs : List Item). if has is_loaded xs then brought_game h.event else t.loaded) added ∙ is)) walks) in
    subst (λ (u : Table). Walks u.loaded u.game u.items)
    (sym (table_of-moved s h past (ap (has is_opened) added ∙ opened) (ap opened_count added ∙ count))) given

-- the table after an event that opens one
walks-opened : (s : Site) (past : List Happening) (h : Happening) (moment : ℕ) (host : List ℕ) (late : List Item)
    → h.added ≡ item_at moment (what.Opened host) ∷ late → WalksAt s (h ∷ past)
walks-opened s past h moment host late added =
    let start : Walks None None (item_at moment (what.Opened host) ∷ []) = record {
      stopped = λ g e over. absurd (some-none (sym e));
      runs = λ g e. (tt, tt);
      walks = refl;
      came = λ on. absurd (not-both on refl);
    } in
    let none : loaded_game (h ∷ past) ≡ None = rw added refl in
    let items : latest_items (record_of (h ∷ past)) ≡ item_at moment (what.Opened host) ∷ [] =
    ap (λ (xs : List Item). latest_items (xs ++ record_of past)) added in
    rw (none, items) start

-- the setup when time was applied
setup_at-late : (s : Site) (past : List Happening) (e : RoomEvent)
    → setup_at s (table_of s past) (late_of s past e ++ (table_of s past).items) ≡ (table_of s past).game
setup_at-late s past e = timeout-all (λ late. setup_at s (table_of s past) (late ++ (table_of s past).items) ≡ (table_of s past).game)
    refl (λ m act. refl) (table_of s past) (table_of s past).game (event_moment e)

-- the table when time was applied
timed-walks : (s : Site) (past : List Happening) (e : RoomEvent) → WalksAt s past
    → Walks (table_of s past).loaded (setup_at s (table_of s past) (late_of s past e ++ (table_of s past).items))
    (late_of s past e ++ (table_of s past).items)
timed-walks s past e before = let t : Table = table_of s past in
    subst (λ (g : Option Setup). Walks t.loaded g (late_of s past e ++ t.items)) (sym (setup_at-late s past e))
    (timeout-walks t t.loaded t.game (event_moment e) before)

-- time adds acts in order
timed-order : (s : Site) (past : List Happening) (e : RoomEvent) → AreInOrder (table_of s past).items
    → AreInOrder (late_of s past e ++ (table_of s past).items)
timed-order s past e order = pick (is_started t.items) refl refl
  where
    t : Table
    t = table_of s past

    pick : (b : Bool) → is_started t.items ≡ b → t.game ≡ setup_when b s t.latest (t.name, t.options) (length (players t.items))
        → AreInOrder (late_of s past e ++ t.items)
    pick true on game = timeout-all (λ late. AreInOrder (late ++ t.items)) order (λ m act. (on, order)) t t.game (event_moment e)
    pick false off game = subst (λ (g : Option Setup). AreInOrder (timeout t g (event_moment e) ++ t.items)) (sym game) order

-- an entry

call-walks : (s : Site) (past : List Happening) (e : Entry) → AreInOrder (table_of s past).items → WalksAt s past
    → WalksAt s (happening s past (Call e) ∷ past)
call-walks s past e order before = pick (is_accepted t mine e) refl
  where
    late : List Item
    late = late_of s past (Call e)

    t : Table
    t = with_items late (table_of s past)

    mine : List OwnEntry
    mine = own_entries t.latest e.member past

    h : Happening
    h = happening s past (Call e)

    timed : Walks t.loaded (setup_at s t t.items) t.items
    timed = timed-walks s past (Call e) before

    by_open : (b : Bool) → is_open e.command ≡ b → is_accepted t mine e ≡ true → WalksAt s (h ∷ past)
    by_open true opens taken = walks-opened s past h (entry_stamp t past e) e.member late
        (rw (taken, open-item t e.member e.command opens) refl)
    by_open false other taken =
        let at : AreAtTable (stamped_item (entry_stamp t past e) (item_of t e.member e.command) ++ late) =
        entry-at t e.member e.command (entry_stamp t past e) late other (late-at s past (Call e)) in
        walks-news s past h (entry_item t e (entry_stamp t past e)) late t.loaded (rw taken refl) at.opened at.count (rw at.loaded refl)
        (entry-walks s t mine e e.command (entry_stamp t past e) (sym (setup_at-late s past (Call e))) other
        (timed-order s past (Call e) order) timed taken)

    pick : (b : Bool) → is_accepted t mine e ≡ b → WalksAt s (h ∷ past)
    pick true taken = by_open (is_open e.command) refl taken
    pick false refused =
        let at : AreAtTable late = late-at s past (Call e) in
        walks-news s past h [] late t.loaded (rw refused refl) at.opened at.count (rw at.loaded refl) timed

-- a note of the clerk

-- a game that is noted as loaded was brought
noted-brings : (t : Table) (load : Option ℕ) (moment : ℕ) (notice : Notice) → noted_by t load notice ≡ noted.Loaded
    → is_some (brought_game (Notes moment notice)) ≡ true
noted-brings t load moment (Saved table id) h = pick (table == t.latest && is_due t) h
  where
    pick : (b : Bool) → (if b then noted.Saved else noted.Nothing) ≡ noted.Loaded
        → is_some (brought_game (Notes moment (Saved table id))) ≡ true
    pick true e = cc
    pick false e = cc
noted-brings t load moment (Loaded table id (Some r)) h = refl
noted-brings t load moment (Loaded table id None) h = pick (is_pending t.latest table id load) h
  where
    pick : (b : Bool) → (if b then noted.NoGame else noted.Nothing) ≡ noted.Loaded → false ≡ true
    pick true e = cc
    pick false e = cc

-- what a loaded game leaves
loaded-walks : (s : Site) (t : Table) (moment id : ℕ) (loaded : Option Finished) → is_some loaded ≡ true → is_started t.items ≡ false
    → is_some t.loaded ≡ false → Walks t.loaded (setup_at s t t.items) t.items
    → Walks loaded (setup_at s t (item_at moment (what.Loaded id) ∷ t.items)) (item_at moment (what.Loaded id) ∷ t.items)
loaded-walks s t moment id loaded some off unloaded before = record {
  stopped = before.stopped;
  runs = λ g e. (tt, before.runs g e);
  walks = none-walks _ (steps t.items) (unreviewed t.loaded refl);
  came = λ on. some;
}
  where
    unreviewed : (l : Option Finished) → t.loaded ≡ l → steps t.items ≡ []
    unreviewed (Some r) e = absurd (not-both (ap is_some e) unloaded)
    unreviewed None e = rw (e, off) at before.walks

note-walks : (s : Site) (events : List RoomEvent) (moment : ℕ) (notice : Notice) → WalksAt s (past_of s events)
    → WalksAt s (happening s (past_of s events) (Notes moment notice) ∷ past_of s events)
note-walks s events moment notice before =
    pick (noted_by t (pending_load t past) notice) refl
  where
    past : List Happening
    past = past_of s events

    late : List Item
    late = late_of s past (Notes moment notice)

    t : Table
    t = with_items late (table_of s past)

    stamp : ℕ
    stamp = stamp_at t past (in_time moment)

    h : Happening
    h = happening s past (Notes moment notice)

    at : AreAtTable late
    at = late-at s past (Notes moment notice)

    timed : Walks t.loaded (setup_at s t t.items) t.items
    timed = timed-walks s past (Notes moment notice) before

    pick : (which : Noted) → noted_by t (pending_load t past) notice ≡ which → WalksAt s (h ∷ past)
    pick noted.Nothing is = walks-news s past h [] late t.loaded (rw is refl) at.opened at.count (rw at.loaded refl) timed
    pick noted.Saved is = walks-news s past h (item_at stamp (what.Saved (notice_id notice)) ∷ []) late t.loaded (rw is refl)
        at.opened at.count (rw at.loaded refl) (record {
          stopped = timed.stopped;
          runs = λ g e. (tt, timed.runs g e);
          walks = stays-walks t.loaded (setup_at s t t.items) (item_at stamp (what.Saved (notice_id notice))) t.items (steps t.items) refl
              timed.walks;
          came = timed.came;
        })
    pick noted.NoGame is = walks-news s past h (item_at stamp (what.NoGame (notice_id notice)) ∷ []) late t.loaded (rw is refl)
        at.opened at.count (rw at.loaded refl) (record {
          stopped = timed.stopped;
          runs = λ g e. (tt, timed.runs g e);
          walks = stays-walks t.loaded (setup_at s t t.items) (item_at stamp (what.NoGame (notice_id notice))) t.items
              (steps t.items) refl
              timed.walks;
          came = timed.came;
        })
    pick noted.Loaded is =
        let free : (is_started (latest_items (record_of past)) ≡ false) × (is_some (loaded_game past) ≡ false) =
        noted-free s past moment notice is (past_of-apart s events) in
        walks-news s past h (item_at stamp (what.Loaded (notice_id notice)) ∷ []) late (brought_game (Notes moment notice)) (rw is refl)
        at.opened at.count refl
        (loaded-walks s t stamp (notice_id notice) (brought_game (Notes moment notice)) (noted-brings t
        (pending_load t past) moment notice is)
        ((late-kept s past (Notes moment notice)).started ∙ free.0) free.1 timed)

-- so it is in each room
pub past_of-walks : (s : Site) (events : List RoomEvent) → WalksAt s (past_of s events)
past_of-walks s [] = record {
  stopped = λ g e over. absurd (some-none (sym e));
  runs = λ g e. tt;
  walks = refl;
  came = λ on. absurd (not-both on refl);
}
past_of-walks s (Call e ∷ events) =
    call-walks s (past_of s events) e (latest_items-record s events).order (past_of-walks s events)
past_of-walks s (AsksTodo moment ∷ events) =
    let past : List Happening = past_of s events in
    let at : AreAtTable (late_of s past (AsksTodo moment)) = late-at s past (AsksTodo moment) in
    walks-news s past (happening s past (AsksTodo moment)) [] (late_of s past (AsksTodo moment)) (table_of s past).loaded refl
    at.opened at.count (rw at.loaded refl) (timed-walks s past (AsksTodo moment) (past_of-walks s events))
past_of-walks s (Notes moment notice ∷ events) = note-walks s events moment notice (past_of-walks s events)

-- what stays while no table is opened

-- an event loads no game where one is loaded
loads-none : (s : Site) (events : List RoomEvent) (e : RoomEvent) → is_some (loaded_game (past_of s events)) ≡ true
    → has is_loaded (happening s (past_of s events) e).added ≡ false
loads-none s events (AsksTodo moment) some = (late-at s (past_of s events) (AsksTodo moment)).loaded
loads-none s events (Call e) some = pick (is_accepted t mine e) refl
  where
    past : List Happening
    past = past_of s events

    late : List Item
    late = late_of s past (Call e)

    t : Table
    t = with_items late (table_of s past)

    mine : List OwnEntry
    mine = own_entries t.latest e.member past

    at : AreAtTable late
    at = late-at s past (Call e)

    by_open : (b : Bool) → is_open e.command ≡ b
        → has is_loaded (stamped_item (entry_stamp t past e) (item_of t e.member e.command) ++ late) ≡ false
    by_open true opens = rw (open-item t e.member e.command opens) at.loaded
    by_open false other = (entry-at t e.member e.command (entry_stamp t past e) late other at).loaded

    pick : (b : Bool) → is_accepted t mine e ≡ b → has is_loaded (happening s past (Call e)).added ≡ false
    pick true taken = rw taken (by_open (is_open e.command) refl)
    pick false refused = rw refused at.loaded
loads-none s events (Notes moment notice) some = pick (noted_by t (pending_load t past) notice) refl
  where
    past : List Happening
    past = past_of s events

    late : List Item
    late = late_of s past (Notes moment notice)

    t : Table
    t = with_items late (table_of s past)

    at : AreAtTable late
    at = late-at s past (Notes moment notice)

    pick : (which : Noted) → noted_by t (pending_load t past) notice ≡ which
        → has is_loaded (happening s past (Notes moment notice)).added ≡ false
    pick noted.Nothing is = rw is at.loaded
    pick noted.Saved is = rw is at.loaded
    pick noted.NoGame is = rw is at.loaded
    pick noted.Loaded is = absurd (not-both some (noted-free s past moment notice is (past_of-apart s events)).1)

-- items that open no table
count-none : (items : List Item) → opened_count items ≡ 0 → has is_opened items ≡ false
count-none [] none = refl
count-none (i ∷ items) none = pick (is_opened i.what) refl (λ less. count-none items less)
  where
    split : opened_count (i ∷ items) ≡ opened_count (i ∷ []) + opened_count items
    split = opened_count-append (i ∷ []) items

    one : is_opened i.what ≡ true → opened_count (i ∷ []) ≡ 1
    one is = rw is refl

    pick : (b : Bool) → is_opened i.what ≡ b → (opened_count items ≡ 0 → has is_opened items ≡ false)
        → has is_opened (i ∷ items) ≡ false
    pick true is rest = absurd (omega (arith, none, split, one is))
    pick false is rest = rw is (rest (omega (arith, none, split)))

-- what a table was opened with, and the game that was loaded
pub record Stays (old new : List Happening) : Type 0 where
  pub opening : opening new ≡ opening old
  pub loaded : is_some (loaded_game old) ≡ true → loaded_game new ≡ loaded_game old

-- a table's opening and its loaded game stay while no other table is opened
pub past_of-stays : (s : Site) (more events : List RoomEvent)
    → opened_count (record_of (past_of s (more ++ events))) ≡ opened_count (record_of (past_of s events))
    → Stays (past_of s events) (past_of s (more ++ events))
past_of-stays s [] events same = record { opening = refl; loaded = λ some. refl }
past_of-stays s (e ∷ more) events same =
    let past : List Happening = past_of s (more ++ events) in
    let h : Happening = happening s past e in
    let grown : opened_count (record_of past) ≡ opened_count (items_of s more events) + opened_count (record_of (past_of s events)) =
    ap opened_count (record_of-more s more events) ∙ opened_count-append (items_of s more events) (record_of (past_of s events)) in
    let split : opened_count (h.added ++ record_of past) ≡ opened_count h.added + opened_count (record_of past) =
    opened_count-append h.added (record_of past) in
    let none : opened_count h.added ≡ 0 = omega (arith, same, grown, split) in
    let before : Stays (past_of s events) past = past_of-stays s more events (omega (arith, same, grown, split)) in
    let opened : has is_opened h.added ≡ false = count-none h.added none in
    record {
      opening = rw opened before.opening;
      loaded = λ some.
          let still : loaded_game past ≡ loaded_game (past_of s events) = before.loaded some in
          let quiet : has is_loaded h.added ≡ false = loads-none s (more ++ events) e (ap is_some still ∙ some) in
          rw (opened, quiet) still;
    }
