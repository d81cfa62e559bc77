-- Does a keeper that tells its content go on to tell it through the calls of the clerk? Yes.
use Rattle.std.proofs.Common.{◌≡◌, ℕ, Bool, true, false, zero, suc, List, ◌∷◌, ◌++◌, sym, ap, subst, inl, inr, Some, None, Ok}
use Rattle.std.specs.Prelude.{Option, Result, is_some}
use Rattle.hb_keeper.specs.declared.errors.KeepError.{KeepError}
use Rattle.hb_keeper.specs.declared.errors.KeepError.TheVariants as keep
use Rattle.hb_keeper.specs.declared.fails.When.{When}
use Rattle.hb_keeper.specs.declared.fails.When.TheVariants.{Before, After}
use Rattle.hb_keeper.specs.declared.rows.GameRow.{GameRow}
use Rattle.hb_keeper.specs.declared.rows.Key.{Key}
use Rattle.hb_keeper.specs.KeptGames.{Content, get_on, put_on}
use Rattle.hb_club.specs.declared.clerks.Todo.{Todo}
use Rattle.hb_club.specs.Fronts.{House, site_of}
use Rattle.hb_club.specs.RoomEvents.{AsksTodo, RoomEvent, Site}
use Rattle.hb_house.specs.declared.reports.ClerkError.{ClerkError}
use Rattle.hb_house.specs.declared.reports.Report.{Report}
use Rattle.hb_house.specs.ClerkRounds.{Loads, Place, Round, Rounds, Saves, StepAt, Then}
use Rattle.hb_house.specs.ClerkStops.{LoadStops, RoundStops, SaveStops, SettleStops}
use Rattle.hb_house.specs.KeeperSteps.{Failed, FailedOn, FaultLeaves, IsTold, Telling, Worked, WorkedOn, next_failure}

-- a call that does its work

told-worked_on : {A : Type 0} (work : Content → Result A KeepError × Content) (a : Result A KeepError) (c d : Option Content)
    → WorkedOn work c a d → is_some c ≡ true → is_some d ≡ true
told-worked_on work a None d is told = let never : false ≡ true = told in cc
told-worked_on work a (Some c) d is told = ap is_some is.1

-- a content that was told is told behind a call that did its work
pub told-worked : {A : Type 0} (work : Content → Result A KeepError × Content) (a : Result A KeepError) (c d : Telling)
    → Worked work c a d → IsTold c → IsTold d
told-worked work a c d is told = told-worked_on work a c.content d.content is.content told

-- a call that is refused

told-faulted : (how : Option When) (before worked : Content) (d : Option Content) → FaultLeaves how before worked d
    → is_some d ≡ true
told-faulted (Some Before) before worked d is = ap is_some is
told-faulted (Some After) before worked d is = ap is_some is
told-faulted None before worked d (inl is) = ap is_some is
told-faulted None before worked d (inr is) = ap is_some is

told-failed_on : {A : Type 0} (work : Content → Result A KeepError × Content) (why : KeepError) (how : Option When)
    (c d : Option Content) → FailedOn why how work c d → is_some c ≡ true → is_some d ≡ true
told-failed_on work why how None d is told = let never : false ≡ true = told in cc
told-failed_on work keep.Fault how (Some c) d is told = told-faulted how c (work c).1 d is
told-failed_on work (keep.KeyDiffers id) how (Some c) d is told = ap is_some is.1
told-failed_on work keep.UsedUp how (Some c) d is told = ap is_some is.1
told-failed_on work keep.NoMemory how (Some c) d is told = ap is_some is

told-failed : {A : Type 0} (work : Content → Result A KeepError × Content) (why : KeepError) (c d : Telling)
    → Failed why work c d → IsTold c → IsTold d
told-failed work why c d is told = told-failed_on work why (next_failure c.plan) c.content d.content is.content told

-- rounds

-- behind a save
pub saves-told : (alone : Bool) (s : Site) (moment : ℕ) (save : Option (Key × GameRow)) (old new : List RoomEvent)
    (c d : Telling) (r t : Report) → Saves alone s moment save old new c d r t → IsTold c → IsTold d
saves-told alone s moment None old new c d r t is told = subst IsTold (sym is.1) told
saves-told alone s moment (Some save) old new c d r t is told = told-worked (put_on save.0 save.1) (Ok is.id) c d is.put told

loads-told : (alone : Bool) (s : Site) (moment : ℕ) (load : Option (ℕ × ℕ)) (old new : List RoomEvent)
    (c d : Telling) (r t : Report) → Loads alone s moment load old new c d r t → IsTold c → IsTold d
loads-told alone s moment None old new c d r t is told = subst IsTold (sym is.1) told
loads-told alone s moment (Some load) old new c d r t is told = told-worked (get_on load.1) (Ok is.row) c d is.got told

round-told : (alone : Bool) (s : Site) (moment : ℕ) (old new : List RoomEvent) (c d : Telling) (r t : Report)
    → Round alone s moment old new c d r t → IsTold c → IsTold d
round-told alone s moment old new c d r t round told =
    let due = round.settles in
    loads-told alone s moment round.asks.todo.load due.middle new due.between d due.report t due.loads
    (saves-told alone s moment round.asks.todo.save (AsksTodo moment ∷ round.asks.others ++ old) due.middle c due.between r
    due.report due.saves told)

-- behind rounds of the clerk
pub rounds-told : (alone : Bool) (h : House) (moment : ℕ) (p : Place) (n : ℕ) (q : Place) → Rounds alone h moment p n q
    → IsTold p.keeper → IsTold q.keeper
rounds-told alone h moment p zero q same told = subst IsTold (sym same.keeper) told
rounds-told alone h moment p (suc n) q more told =
    let b : Place = more.before in
    round-told alone (site_of h (suc n)) moment (b.fronts.rooms (suc n)) (q.fronts.rooms (suc n)) b.keeper q.keeper b.report
    q.report more.last.step (rounds-told alone h moment p n b more.rounds told)

-- rounds in which the clerk stops

save_stops-told : (alone : Bool) (save : Option (Key × GameRow)) (why : ClerkError) (old new : List RoomEvent)
    (c d : Telling) (r t : Report) → SaveStops alone save why old new c d r t → IsTold c → IsTold d
save_stops-told alone None why old new c d r t is told = absurd is
save_stops-told alone (Some save) why old new c d r t (inl put) told =
    told-failed (put_on save.0 save.1) put.refusal c d put.failed told
save_stops-told alone (Some save) why old new c d r t (inr saved) told =
    told-worked (put_on save.0 save.1) (Ok saved.id) c d saved.put told

load_stops-told : (alone : Bool) (load : Option (ℕ × ℕ)) (why : ClerkError) (old new : List RoomEvent)
    (c d : Telling) (r t : Report) → LoadStops alone load why old new c d r t → IsTold c → IsTold d
load_stops-told alone None why old new c d r t is told = absurd is
load_stops-told alone (Some load) why old new c d r t (inl got) told =
    told-failed (get_on load.1) got.refusal c d got.failed told
load_stops-told alone (Some load) why old new c d r t (inr loaded) told =
    told-worked (get_on load.1) (Ok loaded.row) c d loaded.got told

settle_stops-told : (alone : Bool) (s : Site) (moment : ℕ) (todo : Todo) (why : ClerkError) (old new : List RoomEvent)
    (c d : Telling) (r t : Report) → SettleStops alone s moment todo why old new c d r t → IsTold c → IsTold d
settle_stops-told alone s moment todo why old new c d r t (inl save) told =
    save_stops-told alone todo.save why old new c d r t save told
settle_stops-told alone s moment todo why old new c d r t (inr load) told =
    load_stops-told alone todo.load why load.middle new load.between d load.report t load.stops
    (saves-told alone s moment todo.save old load.middle c load.between r load.report load.saves told)

round_stops-told : (alone : Bool) (s : Site) (moment : ℕ) (why : ClerkError) (old new : List RoomEvent)
    (c d : Telling) (r t : Report) → RoundStops alone s moment why old new c d r t → IsTold c → IsTold d
round_stops-told alone s moment why old new c d r t (inl refused) told = subst IsTold (sym refused.keeper) told
round_stops-told alone s moment why old new c d r t (inr refused) told =
    settle_stops-told alone s moment refused.asks.todo why (AsksTodo moment ∷ refused.asks.others ++ old) new c d r t
    refused.stops told

-- also if the clerk stops in one
pub stopped-told : (alone : Bool) (h : House) (moment : ℕ) (why : ClerkError) (p : Place) (n room : ℕ) (q : Place)
    → Then (Rounds alone h moment p n) (StepAt room (RoundStops alone (site_of h room) moment why)) q
    → IsTold p.keeper → IsTold q.keeper
stopped-told alone h moment why p n room q more told =
    let b : Place = more.before in
    round_stops-told alone (site_of h room) moment why (b.fronts.rooms room) (q.fronts.rooms room) b.keeper q.keeper b.report
    q.report more.last.step (rounds-told alone h moment p n b more.rounds told)
