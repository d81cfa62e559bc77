-- Does the clock of each table stand still for good when its game has ended? Yes, whatever happened in the room.
use Rattle.std.proofs.Common.{◌≡◌, ℕ, ◌≤◌, Bool, true, false, List, [], ◌∷◌, ◌++◌, refl, ap, sym, subst, ◌∙◌, append_assoc, length, Some, None, Option}
use Rattle.std.specs.Prelude.{is_some, option_map}
use Rattle.hb_rules.specs.declared.acts.Act.{Act}
use Rattle.hb_rules.specs.declared.limits.TheConstants.{FEWEST_PLAYERS}
use Rattle.hb_rules.specs.declared.acts.Options.{Options}
use Rattle.hb_rules.specs.declared.setups.Setup.{Setup}
use Rattle.hb_rules.specs.declared.variants.Variant.{Variant}
use Rattle.hb_rules.specs.Result.{ended}
use Rattle.hb_sight.proofs.Beginning.{start-runs}
use Rattle.hb_suits.specs.VariantNames.{variant_of}
use Rattle.hb_timer.specs.declared.timing.TimerCall.{TimerCall}
use Rattle.hb_timer.specs.declared.timing.TimerCall.TheVariants.{TurnEnds, Pauses, Resumes, Stops}
use Rattle.hb_timer.specs.Banks.{deadline, is_running, is_stopped, turn_seat}
use Rattle.hb_club.specs.declared.items.Item.{Item}
use Rattle.hb_club.specs.declared.items.What.{What}
use Rattle.hb_club.specs.declared.items.What.TheVariants as what
use Rattle.hb_club.specs.NewItems.{stamped_item}
use Rattle.hb_club.specs.RoomEvents.{Happening, RoomEvent, Site}
use Rattle.hb_club.specs.Rooms.{happening, past_of}
use Rattle.hb_club.specs.Seating.{players, some_names}
use Rattle.hb_club.specs.Table.{Table, game_calls}
use Rattle.hb_club.specs.TableClock.{timer_calls, timing_of}
use Rattle.hb_club.specs.TableFacts.{opening, record_of, setup_for, setup_when, table_of}
use Rattle.hb_club.specs.TableItems.{acts, is_started, latest_items}
use Rattle.hb_club.specs.TableRecord.{AreInOrder}
use Rattle.hb_club.specs.TableReview.{game_end}
use Rattle.hb_club.specs.TimeFirst.{timed_table, timeout, timeout_at, timeout_when}
use Rattle.hb_club.proofs.TableRecordLemmas.{latest_items-record}
use Rattle.hb_club.proofs.TimeFirstLemmas.{item_at, latest_items-timeout, timeout-all}
use Rattle.hb_house.proofs.CalmItemsLemmas.{calm-event, is_calm_if}
use Rattle.hb_house.proofs.MayComeLemmas.{Adds, MayCome, MayComeIf, event-adds}

-- if the game has ended, its clock has stopped
abbrev pub HasStopped : Option Setup → List Item → Type 0
HasStopped g items = is_some (game_end g items) ≡ true → is_stopped (game_calls g items) ≡ true

-- an item comes

act-stopped : (g : Setup) (moment : ℕ) (act : Act) (items : List Item) → HasStopped (Some g) (item_at moment (what.Acted act) ∷ items)
act-stopped g moment act items over = rw over refl

item-stopped : (g : Option Setup) (items : List Item) (moment : ℕ) (w : What) → MayCome g items w → HasStopped g items
    → HasStopped g (item_at moment w ∷ items)
item-stopped None items moment w may before = λ over. absurd cc
item-stopped (Some g) items moment (what.Acted act) may before = act-stopped g moment act items
item-stopped (Some g) items moment (what.Paused by) may before = λ over. let runs = may.1 in absurd cc
item-stopped (Some g) items moment (what.Resumed by) may before = λ over.
    let stopped = before over in
    let goes = may.1 in
    absurd cc
item-stopped (Some g) items moment _ may before = before

-- time comes

time-stopped : (t : Table) (g : Option Setup) (moment : ℕ) (items : List Item) → HasStopped g items
    → HasStopped g (timeout t g moment ++ items)
time-stopped t None moment items before = before
time-stopped t (Some g) moment items before =
    timeout-all (λ late. HasStopped (Some g) (late ++ items)) before (λ m act. act-stopped g m act items) t (Some g) moment

stopped-running : (calls : List TimerCall) → is_stopped calls ≡ true → is_running calls ≡ false
stopped-running [] is = absurd cc
stopped-running (TurnEnds moment ∷ calls) is = absurd cc
stopped-running (Pauses moment ∷ calls) is = refl
stopped-running (Resumes moment ∷ calls) is = absurd cc
stopped-running (Stops moment ∷ calls) is = refl

-- behind the end of a game time adds nothing
pub time-over : (t : Table) (g : Option Setup) (moment : ℕ) → HasStopped g t.items → is_some (game_end g t.items) ≡ true
    → timeout t g moment ≡ []
time-over t None moment before over = refl
time-over t (Some g) moment before over = by _
  where
    calls : List TimerCall
    calls = timer_calls g t.items

    still : is_running calls ≡ false
    still = stopped-running calls (before over)

    none : deadline (timing_of g t.items) calls ≡ None
    none = rw still refl

    by : (b : Bool) → timeout_when b g t.items moment ≡ []
    by true = ap (timeout_at (turn_seat (timing_of g t.items) calls) moment) none
    by false = refl

-- a game starts

-- before the start nobody acts
quiet-more : (moment : ℕ) (w : What) (items : List Item) → AreInOrder (item_at moment w ∷ items)
    → is_started (item_at moment w ∷ items) ≡ false → (is_started items ≡ false → acts items ≡ []) → acts (item_at moment w ∷ items) ≡ []
quiet-more moment (what.Started names) items order none before = absurd cc
quiet-more moment (what.Acted act) items order none before =
    let started = order.0 in
    let unstarted : is_started items ≡ false = none in
    absurd cc
quiet-more moment _ items order none before = before none

acts-unstarted : (items : List Item) → AreInOrder items → is_started items ≡ false → acts items ≡ []
acts-unstarted [] order none = refl
acts-unstarted (i ∷ items) order none = quiet-more i.moment i.what items order none (acts-unstarted items order.1)

-- if nothing was started, there is no game
pub unstarted-game : (s : Site) (n : ℕ) (o : List ℕ × Options) (count : ℕ) (b : Bool) → b ≡ false → setup_when b s n o count ≡ None
unstarted-game s n o count true none = absurd cc
unstarted-game s n o count false none = refl

-- a game that starts with two players or more has not ended
start-stopped : (s : Site) (n : ℕ) (o : List ℕ × Options) (count : ℕ) (v : Option Variant) (items : List Item)
    → FEWEST_PLAYERS ≤ count → acts items ≡ [] → HasStopped (option_map (setup_for s n o.1 count) v) items
start-stopped s n o count None items two none = λ over. absurd cc
start-stopped s n o count (Some v) items two none = λ over.
    let g : Setup = setup_for s n o.1 count v in
    let runs : is_some (ended g []) ≡ false = start-runs g two in
    let same : is_some (ended g (acts items)) ≡ is_some (ended g []) = ap (λ (past : List Act). is_some (ended g past)) none in
    let bad : false ≡ true = sym runs ∙ (sym same ∙ over) in absurd cc

-- each event

-- what is so of the latest table of a room before an event comes
pub record Before (s : Site) (past : List Happening) : Type 0 where
  pub order : AreInOrder (table_of s past).items
  pub stopped : HasStopped (table_of s past).game (table_of s past).items

items-after : (s : Site) (past : List Happening) (h : Happening) (adds : Adds s past h)
    → (table_of s (h ∷ past)).items ≡ latest_items (stamped_item adds.stamp adds.item
    ++ (timeout (table_of s past) (table_of s past).game adds.moment ++ record_of past))
items-after s past h adds =
    let late : List Item = timeout (table_of s past) (table_of s past).game adds.moment in
    ap (λ (l : List Item). latest_items (l ++ record_of past)) adds.added
    ∙ ap latest_items (append_assoc (stamped_item adds.stamp adds.item) late (record_of past))

-- at a calm event the game stays, and at most one item comes
calm-stopped : (s : Site) (past : List Happening) (h : Happening) (adds : Adds s past h) (o : Option What) → adds.item ≡ o
    → is_calm_if o ≡ true → MayComeIf (timed_table s past adds.moment).game (timed_table s past adds.moment).items o → Before s past
    → HasStopped (table_of s (h ∷ past)).game (table_of s (h ∷ past)).items
calm-stopped s past h adds o is calm may before =
    let t : Table = table_of s past in
    let kept = calm-event s past h adds (ap is_calm_if is ∙ calm) in
    let timed : HasStopped t.game (timed_table s past adds.moment).items = time-stopped t t.game adds.moment t.items before.stopped in
    let items : (table_of s (h ∷ past)).items ≡ stamped_item adds.stamp o ++ (timed_table s past adds.moment).items =
    kept.items ∙ ap (λ (x : Option What). stamped_item adds.stamp x ++ (timed_table s past adds.moment).items) is in
    subst (λ (g : Option Setup). HasStopped g (table_of s (h ∷ past)).items) (sym kept.game)
    (subst (HasStopped t.game) (sym items) (more o may timed))
  where
    more : (x : Option What) → MayComeIf (table_of s past).game (timed_table s past adds.moment).items x
        → HasStopped (table_of s past).game (timed_table s past adds.moment).items
        → HasStopped (table_of s past).game (stamped_item adds.stamp x ++ (timed_table s past adds.moment).items)
    more None may timed = timed
    more (Some w) may timed = item-stopped (table_of s past).game (timed_table s past adds.moment).items adds.stamp w may timed

-- a new table has one item
pub opened-items : (s : Site) (past : List Happening) (h : Happening) (adds : Adds s past h) (host : List ℕ)
    → adds.item ≡ Some (what.Opened host) → (table_of s (h ∷ past)).items ≡ item_at adds.stamp (what.Opened host) ∷ []
opened-items s past h adds host is =
    let late : List Item = timeout (table_of s past) (table_of s past).game adds.moment in
    items-after s past h adds
    ∙ ap (λ (o : Option What). latest_items (stamped_item adds.stamp o ++ (late ++ record_of past))) is

-- and no game
pub opened-after : (s : Site) (past : List Happening) (h : Happening) (adds : Adds s past h) (host : List ℕ)
    → adds.item ≡ Some (what.Opened host) → (table_of s (h ∷ past)).game ≡ None
opened-after s past h adds host is =
    unstarted-game s _ _ _ (is_started (table_of s (h ∷ past)).items) (ap is_started (opened-items s past h adds host is))

-- the start of a game comes on top of what was there, once time was applied
pub started-after : (s : Site) (past : List Happening) (h : Happening) (adds : Adds s past h) (names : List (Option (List ℕ)))
    → adds.item ≡ Some (what.Started names)
    → (table_of s (h ∷ past)).items ≡ item_at adds.stamp (what.Started names) ∷ (timed_table s past adds.moment).items
started-after s past h adds names is =
    let t : Table = table_of s past in
    let late : List Item = timeout t t.game adds.moment in
    items-after s past h adds
    ∙ ap (λ (o : Option What). latest_items (stamped_item adds.stamp o ++ (late ++ record_of past))) is
    ∙ ap (λ (l : List Item). item_at adds.stamp (what.Started names) ∷ l) (latest_items-timeout t t.game adds.moment (record_of past))

event-stopped : (s : Site) (past : List Happening) (h : Happening) (adds : Adds s past h) (o : Option What) → adds.item ≡ o
    → MayComeIf (timed_table s past adds.moment).game (timed_table s past adds.moment).items o → Before s past
    → HasStopped (table_of s (h ∷ past)).game (table_of s (h ∷ past)).items
event-stopped s past h adds (Some (what.Opened host)) is may before =
    subst (λ (g : Option Setup). HasStopped g (table_of s (h ∷ past)).items) (sym (opened-after s past h adds host is)) (λ over. absurd cc)
event-stopped s past h adds (Some (what.Started names)) is may before =
    let t : Table = table_of s past in
    let late : List Item = timeout t t.game adds.moment in
    let unstarted : is_started t.items ≡ false =
    sym (timeout-all (λ l. is_started (l ++ t.items) ≡ is_started t.items) refl (λ m act. refl) t t.game adds.moment) ∙ may.1 in
    let no_game : t.game ≡ None = unstarted-game s _ _ _ (is_started t.items) unstarted in
    let no_time : late ≡ [] = ap (λ (g : Option Setup). timeout t g adds.moment) no_game in
    let plain : (table_of s (h ∷ past)).items ≡ item_at adds.stamp (what.Started names) ∷ t.items =
    started-after s past h adds names is
    ∙ ap (λ (l : List Item). item_at adds.stamp (what.Started names) ∷ (l ++ t.items)) no_time in
    let quiet : acts (table_of s (h ∷ past)).items ≡ [] = ap acts plain ∙ acts-unstarted t.items before.order unstarted in
    let n : ℕ = (table_of s (h ∷ past)).latest in
    let o : List ℕ × Options = opening (h ∷ past) in
    let count : ℕ = length (some_names (Some names)) in
    let begun : (table_of s (h ∷ past)).game ≡ option_map (setup_for s n o.1 count) (variant_of o.0) =
    ap (λ (l : List Item). setup_when (is_started l) s n o (length (players l))) plain in
    subst (λ (g : Option Setup). HasStopped g (table_of s (h ∷ past)).items) (sym begun)
    (start-stopped s n o count (variant_of o.0) (table_of s (h ∷ past)).items may.2 quiet)
event-stopped s past h adds None is may before = calm-stopped s past h adds None is refl may before
event-stopped s past h adds (Some w) is may before = calm-stopped s past h adds (Some w) is refl may before

-- whatever happened in a room
pub past_of-before : (s : Site) (events : List RoomEvent) → Before s (past_of s events)
past_of-before s [] = record { order = (latest_items-record s []).order; stopped = λ over. absurd cc }
past_of-before s (e ∷ events) =
    let past : List Happening = past_of s events in
    let adds : Adds s past (happening s past e) = event-adds s past e in record {
      order = (latest_items-record s (e ∷ events)).order;
      stopped = event-stopped s past (happening s past e) adds adds.item refl adds.may (past_of-before s events);
    }
