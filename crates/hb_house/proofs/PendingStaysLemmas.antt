-- Is a load that was pending ended behind the round of its room? Yes, by its note or by a closing.
use Rattle.std.proofs.Common.{◌≡◌, ℕ, ◌+◌, ◌≤◌, ◌⊎◌, inl, inr, Bool, true, false, List, [], ◌∷◌, ◌++◌, refl, ap, arith, sym, subst, ◌∙◌, append_assoc, length, length-append, Some, None, Option}
use Rattle.std.specs.Prelude.{◌==◌, is_some, not, option_map, if◌then◌else◌}
use Rattle.std.proofs.lemmas.Bool.{and_from, and_parts, not-true, or_cases, or_parts}
use Rattle.std.proofs.lemmas.Bool.Decides.{Decides-eqb}
use Rattle.std.proofs.lemmas.List.Folds.{list_any-append}
use Rattle.hb_club.specs.declared.clerks.ClerkNote.TheVariants as note
use Rattle.hb_club.specs.declared.clerks.Noted.{Noted}
use Rattle.hb_club.specs.declared.clerks.Noted.TheVariants as noted
use Rattle.hb_club.specs.declared.clerks.Todo.{Todo}
use Rattle.hb_club.specs.declared.items.Item.{Item}
use Rattle.hb_club.specs.declared.items.What.{What}
use Rattle.hb_club.specs.declared.items.What.TheVariants as what
use Rattle.hb_club.specs.ClerkCalls.{found_or_not, is_pending, noted_by, noted_item, pending_load}
use Rattle.hb_club.specs.EndedReplays.{Finished}
use Rattle.hb_club.specs.Fronts.{GoesOn}
use Rattle.hb_club.specs.OwnEntries.{OwnEntry, pending_id}
use Rattle.hb_club.specs.NewItems.{stamp_at, stamped_item}
use Rattle.hb_club.specs.RoomEvents.{AsksTodo, Due, Happening, Loaded, Notes, RoomEvent, Site, event_moment, in_time, read_text}
use Rattle.hb_club.specs.Rooms.{answer_to, happening, past_of}
use Rattle.hb_club.specs.Table.{Table}
use Rattle.hb_club.specs.TableFacts.{own_by, own_entries, record_of, table_of}
use Rattle.hb_club.specs.TableItems.{ends_load, has, host, is_closed, is_opened, is_standing, latest_items, opened_count}
use Rattle.hb_club.specs.TimeFirst.{timed_table, timeout}
use Rattle.hb_club.proofs.OwnEntriesLemmas.{own_entries-within, within-more}
use Rattle.hb_club.proofs.PendingLemmas.{are_within, pending_id-ended}
use Rattle.hb_club.proofs.RoomsLemmas.{latest_items-append, opened_count-append}
use Rattle.hb_club.proofs.TableLoadsLemmas.{HeadsAreQuiet}
use Rattle.hb_club.proofs.TimeFirstLemmas.{item_at}
use Rattle.hb_house.specs.ClerkRounds.{Loads, LoadsGame, text_in}
use Rattle.hb_house.specs.RoundLaws.{DueAreLoaded, LoadEnded}
use Rattle.hb_house.proofs.DueTablesLemmas.{standing-time, two-tests}
use Rattle.hb_house.proofs.GoesOnLemmas.{goes_on-same, goes_on-trans, saves-on}
use Rattle.hb_house.proofs.KeptRoundsLemmas.{todo-is}
use Rattle.hb_house.proofs.MayComeLemmas.{Adds, MayComeIf, event-adds}
use Rattle.hb_house.proofs.PendingRoomsLemmas.{LoadComes, OpenNone, PendingOf, event-asks, opens-none, pending-at, pending-of, pending_id-behind, quiet-head, time-ends-none, time-opens-none}
use Rattle.hb_house.proofs.StoppedClockLemmas.{opened-items}

-- behind an event that opens no table

record Behind (s : Site) (past : List Happening) (h : Happening) : Type 0 where
  items : (table_of s (h ∷ past)).items ≡ h.added ++ (table_of s past).items
  latest : (table_of s (h ∷ past)).latest ≡ (table_of s past).latest
  hosts : host (table_of s (h ∷ past)).items ≡ host (table_of s past).items

none-more : (k a b : ℕ) → a ≡ k + b → k ≡ 0 → a ≡ b
none-more k a b is none = omega (arith, is, none)

behind : (s : Site) (past : List Happening) (h : Happening) → OpenNone h.added → Behind s past h
behind s past h none =
    let all : List Item = record_of past in
    let items : latest_items (h.added ++ all) ≡ h.added ++ latest_items all = latest_items-append h.added all none.count in
    record {
      items = items;
      latest = none-more (opened_count h.added) (opened_count (h.added ++ all)) (opened_count all) (opened_count-append h.added all)
          none.count;
      hosts = ap host items ∙ none.host (latest_items all);
    }

-- what is pending then, by the entries of the host before
pending-then : (s : Site) (past : List Happening) (e : RoomEvent) (name : List ℕ) → HeadsAreQuiet s past e
    → OpenNone (happening s past e).added → host (table_of s past).items ≡ Some name
    → pending_load (table_of s (happening s past e ∷ past)) (happening s past e ∷ past)
    ≡ pending_id (own_entries (table_of s past).latest name past) ((happening s past e).added ++ (table_of s past).items)
pending-then s past e name quiet none at =
    let h : Happening = happening s past e in
    let n : ℕ = (table_of s past).latest in
    let new : Table = table_of s (h ∷ past) in
    let b = behind s past h none in
    let count : ℕ = length (latest_items (record_of (h ∷ past))) in
    let own : List OwnEntry = own_entries n name past in
    pending-at new (h ∷ past) name (b.hosts ∙ at)
    ∙ ap (λ (k : ℕ). pending_id (own_entries k name (h ∷ past)) new.items) b.latest
    ∙ quiet-head (own_by n name count h.event h.answer) own new.items (quiet name count at)
    ∙ ap (pending_id own) b.items

-- a load is pending only at a table that stands

host-one : (moment : ℕ) (w : What) (items : List Item) (name : List ℕ) → host (item_at moment w ∷ items) ≡ Some name
    → (host items ≡ Some name → has is_opened items ≡ true) → has is_opened (item_at moment w ∷ items) ≡ true
host-one moment (what.Opened by) items name at before = refl
host-one moment _ items name at before = before at

host-opened : (items : List Item) (name : List ℕ) → host items ≡ Some name → has is_opened items ≡ true
host-opened [] name at = absurd cc
host-opened (i ∷ items) name at = host-one i.moment i.what items name at (host-opened items name)

closed-one : (w : What) → ends_load w ≡ false → is_closed w ≡ false
closed-one what.Closed none = cc
closed-one _ none = refl

closed-ends : (items : List Item) → has ends_load items ≡ false → has is_closed items ≡ false
closed-ends [] none = refl
closed-ends (i ∷ items) none =
    let parts : (ends_load i.what ≡ false) × (has ends_load items ≡ false) = or_parts (ends_load i.what) (has ends_load items) none in
    rw (closed-one i.what parts.0, closed-ends items parts.1) refl

record SomeId (o : Option ℕ) : Type 0 where
  id : ℕ
  is : o ≡ Some id

some-id : (o : Option ℕ) → is_some o ≡ true → SomeId o
some-id None some = absurd cc
some-id (Some id) some = record { id = id; is = refl }

IsOpenIfPending : Site → List Happening → Type 0
IsOpenIfPending s past = is_some (pending_load (table_of s past) past) ≡ true → has is_closed (table_of s past).items ≡ false

-- an item that ends loads leaves none
none-pending : (own : List OwnEntry) (stamp : ℕ) (o : Option What) (late items : List Item) (id : ℕ)
    → are_within (length (late ++ items)) own ≡ true → has ends_load late ≡ false → has ends_load (stamped_item stamp o ++ late) ≡ true
    → pending_id own ((stamped_item stamp o ++ late) ++ items) ≡ Some id → ⊥
none-pending own stamp None late items id within none ends is = two-tests (has ends_load late) ends none
none-pending own stamp (Some w) late items id within none ends is = by (or_cases (ends_load w) (has ends_load late) ends)
  where
    by : (ends_load w ≡ true) ⊎ (has ends_load late ≡ true) → ⊥
    by (inl here) =
        let gone : pending_id own (item_at stamp w ∷ (late ++ items)) ≡ None =
        pending_id-ended own (item_at stamp w) (late ++ items) within here in
        let bad : ◌≡◌ {A = Option ℕ} None (Some id) = sym gone ∙ is in cc
    by (inr there) = two-tests (has ends_load late) there none

-- what an event adds opens no table, if its item opens none
added-opens-none : (s : Site) (past : List Happening) (h : Happening) (adds : Adds s past h) (o : Option What) → adds.item ≡ o
    → ((name : List ℕ) → o ≡ Some (what.Opened name) → ⊥) → OpenNone h.added
added-opens-none s past h adds o is other = subst OpenNone (sym adds.added)
    (subst (λ (o : Option What). OpenNone (stamped_item adds.stamp o ++ late)) (sym is)
    (opens-none adds.stamp o late other (time-opens-none t t.game adds.moment)))
  where
    t : Table
    t = table_of s past

    late : List Item
    late = timeout t t.game adds.moment

event-open : (s : Site) (events : List RoomEvent) (e : RoomEvent) → IsOpenIfPending s (past_of s events)
    → IsOpenIfPending s (past_of s (e ∷ events))
unfolding IsOpenIfPending
event-open s events e before some = by_asks (event-asks s past e)
  where
    past : List Happening
    past = past_of s events

    h : Happening
    h = happening s past e

    t : Table
    t = table_of s past

    adds : Adds s past h
    adds = event-adds s past e

    late : List Item
    late = timeout t t.game adds.moment

    quiet-open : HeadsAreQuiet s past e → OpenNone h.added → has is_closed (table_of s (h ∷ past)).items ≡ false
    quiet-open quiet none = by_end (has ends_load h.added) refl
      where
        b : Behind s past h
        b = behind s past h none

        found : SomeId (pending_load (table_of s (h ∷ past)) (h ∷ past))
        found = some-id (pending_load (table_of s (h ∷ past)) (h ∷ past)) some

        now : PendingOf (table_of s (h ∷ past)) (h ∷ past) found.id
        now = pending-of (table_of s (h ∷ past)) (h ∷ past) found.id found.is

        hosts : host t.items ≡ Some now.name
        hosts = sym b.hosts ∙ now.host

        own : List OwnEntry
        own = own_entries t.latest now.name past

        is : pending_id own (h.added ++ t.items) ≡ Some found.id
        is = sym (pending-then s past e now.name quiet none hosts) ∙ found.is

        within : are_within (length t.items) own ≡ true
        within = own_entries-within s events now.name

        longer : length t.items ≤ length (late ++ t.items)
        longer = omega (arith, length-append late t.items)

        by_end : (x : Bool) → has ends_load h.added ≡ x → has is_closed (table_of s (h ∷ past)).items ≡ false
        by_end true ends = absurd (none-pending own adds.stamp adds.item late t.items found.id
            (within-more (length t.items) (length (late ++ t.items)) own longer within) (time-ends-none t t.game adds.moment)
            (ap (has ends_load) (sym adds.added) ∙ ends) (ap (λ (l : List Item). pending_id own (l ++ t.items)) (sym adds.added) ∙ is))
        by_end false none_ends =
            let was : pending_load t past ≡ Some found.id =
            pending-at t past now.name hosts ∙ sym (pending_id-behind own h.added t.items within none_ends) ∙ is in
            let unclosed : has is_closed t.items ≡ false = before (ap (λ (o : Option ℕ). is_some o) was) in
            ap (has is_closed) b.items ∙ list_any-append (λ (i : Item). is_closed i.what) h.added t.items
            ∙ rw (closed-ends h.added none_ends, unclosed) refl

    by_item : HeadsAreQuiet s past e → (o : Option What) → adds.item ≡ o → has is_closed (table_of s (h ∷ past)).items ≡ false
    by_item quiet (Some (what.Opened by)) is = ap (has is_closed) (opened-items s past h adds by is)
    by_item quiet None is = quiet-open quiet (added-opens-none s past h adds None is (λ name bad. absurd cc))
    by_item quiet (Some w) is = quiet-open quiet (added-opens-none s past h adds (Some w) is (λ name bad. absurd cc))

    by_asks : HeadsAreQuiet s past e ⊎ LoadComes s past e → has is_closed (table_of s (h ∷ past)).items ≡ false
    by_asks (inl quiet) = by_item quiet adds.item refl
    by_asks (inr comes) =
        let none : OpenNone h.added = subst OpenNone (sym comes.added) (time-opens-none t t.game (event_moment e)) in
        let b = behind s past h none in
        let stands = and_parts _ _ comes.stands in
        ap (has is_closed) (b.items ∙ ap (λ (l : List Item). l ++ t.items) comes.added)
        ∙ not-true (has is_closed (timed_table s past (event_moment e)).items) stands.1

open-if-pending : (s : Site) (events : List RoomEvent) → IsOpenIfPending s (past_of s events)
unfolding IsOpenIfPending
open-if-pending s [] some = absurd cc
open-if-pending s (e ∷ events) some = event-open s events e (open-if-pending s events) some

-- it stays until an item ends it

-- at the same table the load is pending still
record StaysPending (s : Site) (past later : List Happening) (id : ℕ) : Type 0 where
  pending : pending_load (table_of s later) later ≡ Some id
  latest : (table_of s later).latest ≡ (table_of s past).latest

event-pending : (s : Site) (events : List RoomEvent) (e : RoomEvent) (id : ℕ)
    → pending_load (table_of s (past_of s events)) (past_of s events) ≡ Some id
    → has ends_load (happening s (past_of s events) e).added ≡ false
    → StaysPending s (past_of s events) (past_of s (e ∷ events)) id
unfolding IsOpenIfPending
event-pending s events e id is none_ends = by_asks (event-asks s past e)
  where
    past : List Happening
    past = past_of s events

    h : Happening
    h = happening s past e

    t : Table
    t = table_of s past

    adds : Adds s past h
    adds = event-adds s past e

    was : PendingOf t past id
    was = pending-of t past id is

    own : List OwnEntry
    own = own_entries t.latest was.name past

    within : are_within (length t.items) own ≡ true
    within = own_entries-within s events was.name

    stands : is_standing t.items ≡ true
    stands = and_from (has is_opened t.items) (not (has is_closed t.items)) (host-opened t.items was.name was.host)
        (ap (λ (b : Bool). not b) (open-if-pending s events (ap (λ (o : Option ℕ). is_some o) is)))

    stays : HeadsAreQuiet s past e → OpenNone h.added → StaysPending s past (h ∷ past) id
    stays quiet none = record {
      pending = pending-then s past e was.name quiet none was.host ∙ pending_id-behind own h.added t.items within none_ends ∙ was.is;
      latest = (behind s past h none).latest;
    }

    by_item : HeadsAreQuiet s past e → (o : Option What) → adds.item ≡ o → MayComeIf t.game (timed_table s past adds.moment).items o
        → StaysPending s past (h ∷ past) id
    by_item quiet (Some (what.Opened by)) item may = absurd (two-tests (is_standing (timed_table s past adds.moment).items)
        (standing-time t t.game adds.moment t.items ∙ stands) may)
    by_item quiet None item may = stays quiet (added-opens-none s past h adds None item (λ name bad. absurd cc))
    by_item quiet (Some w) item may = stays quiet (added-opens-none s past h adds (Some w) item (λ name bad. absurd cc))

    by_asks : HeadsAreQuiet s past e ⊎ LoadComes s past e → StaysPending s past (h ∷ past) id
    by_asks (inl quiet) = by_item quiet adds.item refl adds.may
    by_asks (inr comes) = absurd (comes.free was.name id was.host
        (pending_id-behind own (timeout t t.game (event_moment e)) t.items within (time-ends-none t t.game (event_moment e)) ∙ was.is))

-- a load is pending at this table, or was ended since
abbrev StillPending : Site → ℕ → ℕ → List RoomEvent → List RoomEvent → Type 0
StillPending s n id older newer =
    ((pending_load (table_of s (past_of s newer)) (past_of s newer) ≡ Some id) × ((table_of s (past_of s newer)).latest ≡ n))
    ⊎ LoadEnded s older newer

still-pending : (s : Site) (n id : ℕ) (more older : List RoomEvent)
    → pending_load (table_of s (past_of s older)) (past_of s older) ≡ Some id → (table_of s (past_of s older)).latest ≡ n
    → StillPending s n id older (more ++ older)
still-pending s n id [] older is at = inl (is, at)
still-pending s n id (e ∷ more) older is at = by (still-pending s n id more older is at)
  where
    all : List RoomEvent
    all = more ++ older

    by : StillPending s n id older all → StillPending s n id older (e ∷ all)
    by (inl still) = by_end (has ends_load (happening s (past_of s all) e).added) refl
      where
        by_end : (x : Bool) → has ends_load (happening s (past_of s all) e).added ≡ x → StillPending s n id older (e ∷ all)
        by_end true ends = inr (record {
          before = all;
          event = e;
          behind = record { more = more; is = refl };
          within = goes_on-same refl;
          ends = ends;
        })
        by_end false none = let now = event-pending s all e id still.0 none in inl (now.pending, now.latest ∙ still.1)
    by (inr ended) = inr (record {
      before = ended.before;
      event = ended.event;
      behind = ended.behind;
      within = goes_on-trans ended.within (record { more = e ∷ []; is = refl });
      ends = ended.ends;
    })

-- its note ends it

found-ends : (stamp id : ℕ) (game : Option Finished) (late : List Item)
    → has ends_load (stamped_item stamp (noted_item id (found_or_not game)) ++ late) ≡ true
found-ends stamp id None late = refl
found-ends stamp id (Some game) late = refl

note-ends : (s : Site) (moment table id : ℕ) (game : Option Finished) (events : List RoomEvent)
    → pending_load (table_of s (past_of s events)) (past_of s events) ≡ Some id → (table_of s (past_of s events)).latest ≡ table
    → has ends_load (happening s (past_of s events) (Notes moment (Loaded table id game))).added ≡ true
note-ends s moment table id game events is at =
    let past : List Happening = past_of s events in
    let t : Table = table_of s past in
    let u : Table = timed_table s past (in_time moment) in
    let late : List Item = timeout t t.game (in_time moment) in
    let was = pending-of t past id is in
    let own : List OwnEntry = own_entries t.latest was.name past in
    let hosts : host u.items ≡ Some was.name = (time-opens-none t t.game (in_time moment)).host t.items ∙ was.host in
    let pends : pending_load u past ≡ Some id = pending-at u past was.name hosts
    ∙ pending_id-behind own late t.items (own_entries-within s events was.name) (time-ends-none t t.game (in_time moment)) ∙ was.is in
    let here : (table == u.latest) ≡ true = (Decides-eqb table u.latest).1 (sym at) in
    let same : (id == id) ≡ true = (Decides-eqb id id).1 refl in
    let does : noted_by u (pending_load u past) (Loaded table id game) ≡ found_or_not game =
    ap (λ (o : Option ℕ). if is_pending u.latest table id o then found_or_not game else noted.Nothing) pends ∙ rw (here, same) refl in
    ap (λ (w : Noted). has ends_load (stamped_item (stamp_at u past (in_time moment)) (noted_item id w) ++ late)) does
    ∙ found-ends (stamp_at u past (in_time moment)) id game late

-- a load is pending when the clerk is answered so
asked-load : (s : Site) (moment : ℕ) (events : List RoomEvent) (todo : Todo) (load : ℕ × ℕ)
    → answer_to s (AsksTodo moment ∷ events) ≡ Due todo → todo.load ≡ Some load
    → (pending_load (table_of s (past_of s (AsksTodo moment ∷ events))) (past_of s (AsksTodo moment ∷ events)) ≡ Some load.1)
    × ((table_of s (past_of s (AsksTodo moment ∷ events))).latest ≡ load.0)
asked-load s moment events todo load answer is =
    let past : List Happening = past_of s events in
    let t : Table = table_of s past in
    let u : Table = timed_table s past (in_time moment) in
    let late : List Item = timeout t t.game (in_time moment) in
    let h : Happening = happening s past (AsksTodo moment) in
    let loads : option_map (λ id. (u.latest, id)) (pending_load u past) ≡ Some load =
    ap (λ (x : Todo). x.load) (todo-is s moment events todo answer) ∙ is in
    let asks = load-of u.latest (pending_load u past) load loads in
    let none : OpenNone h.added = time-opens-none t t.game (in_time moment) in
    let b = behind s past h none in
    let found = pending-of u past load.1 asks.0 in
    let hosts : host t.items ≡ Some found.name = sym (none.host t.items) ∙ found.host in
    (pending-then s past (AsksTodo moment) found.name (λ name count at. tt) none hosts ∙ found.is, b.latest ∙ asks.1)
  where
    load-of : (n : ℕ) (o : Option ℕ) (load : ℕ × ℕ) → option_map (λ id. (n, id)) o ≡ Some load → (o ≡ Some load.1) × (n ≡ load.0)
    load-of n None load is = let bad : ◌≡◌ {A = Option (ℕ × ℕ)} None (Some load) = is in absurd cc
    load-of n (Some id) load is =
        let whole : ◌≡◌ {A = Option (ℕ × ℕ)} (Some (n, id)) (Some load) = is in
        let same : ◌≡◌ {A = ℕ × ℕ} (n, id) load = cc in
        (ap (λ (x : ℕ × ℕ). Some x.1) same, ap (λ (x : ℕ × ℕ). x.0) same)

-- the law of a round in which a load was pending
pub due-are-loaded : DueAreLoaded
due-are-loaded alone s moment old new c d r t round load is =
    let asked : List RoomEvent = AsksTodo moment ∷ round.asks.others ++ old in
    let asks = asked-load s moment (round.asks.others ++ old) round.asks.todo load round.asks.answer is in
    let all = round.settles in
    let on : GoesOn asked all.middle = saves-on alone s moment round.asks.todo.save asked all.middle c all.between r all.report all.saves in
    let loads : LoadsGame alone s moment load all.middle new all.between d all.report t =
    subst (λ (o : Option (ℕ × ℕ)). Loads alone s moment o all.middle new all.between d all.report t) is all.loads in
    let takes = loads.notes.takes in
    let game : Option Finished = read_text (text_in loads.row) in
    let more : List RoomEvent = takes.others ++ on.more in
    let came : takes.others ++ all.middle ≡ more ++ asked =
    ap (λ (l : List RoomEvent). takes.others ++ l) on.is ∙ sym (append_assoc takes.others on.more asked) in
    let front : new ≡ Notes moment (Loaded load.0 load.1 game) ∷ more ++ asked =
    takes.front ∙ ap (λ (l : List RoomEvent). Notes moment (Loaded load.0 load.1 game) ∷ l) came in
    ended more front (still-pending s load.0 load.1 more asked asks.0 asks.1)
  where
    ended : {asked : List RoomEvent} (more : List RoomEvent) {game : Option Finished}
        → new ≡ Notes moment (Loaded load.0 load.1 game) ∷ more ++ asked → StillPending s load.0 load.1 asked (more ++ asked)
        → LoadEnded s asked new
    ended {asked = asked} more {game = game} front (inl still) = record {
      before = more ++ asked;
      event = Notes moment (Loaded load.0 load.1 game);
      behind = record { more = more; is = refl };
      within = goes_on-same front;
      ends = note-ends s moment load.0 load.1 game (more ++ asked) still.0 still.1;
    }
    ended {asked = asked} more {game = game} front (inr was) = record {
      before = was.before;
      event = was.event;
      behind = was.behind;
      within = goes_on-trans was.within (record { more = Notes moment (Loaded load.0 load.1 game) ∷ []; is = front });
      ends = was.ends;
    }
