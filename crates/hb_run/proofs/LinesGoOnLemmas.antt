-- What stays through the lines of a run? The lists of the rooms go on, and a content that is told can still be relied on.
use Rattle.std.proofs.Common.{◌≡◌, ℕ, Bool, true, false, zero, suc, List, [], ◌∷◌, ◌++◌, sym, ap, subst, inl, inr, Some, None}
use Rattle.std.specs.Prelude.{Option, Result}
use Rattle.hb_keeper.specs.declared.errors.KeepError.{KeepError}
use Rattle.hb_keeper.specs.declared.errors.KeepError.TheVariants as keep
use Rattle.hb_keeper.specs.declared.fails.When.{When}
use Rattle.hb_keeper.specs.declared.fails.When.TheVariants.{Before, After}
use Rattle.hb_keeper.specs.declared.rows.GameRow.{GameRow}
use Rattle.hb_keeper.specs.declared.rows.Key.{Key}
use Rattle.hb_keeper.specs.KeptGames.{Content, get_on, put_on}
use Rattle.hb_club.specs.declared.clerks.Todo.{Todo}
use Rattle.hb_club.specs.Fronts.{AllGoOn, ElseSame, Fronts, GoesOn, House, is_room, site_of}
use Rattle.hb_club.specs.RoomEvents.{AsksTodo, Call, RoomEvent, Site}
use Rattle.hb_house.specs.declared.reports.ClerkError.{ClerkError}
use Rattle.hb_house.specs.declared.reports.ClerkError.TheVariants as clerk
use Rattle.hb_house.specs.declared.reports.Report.{Report}
use Rattle.hb_house.specs.ClerkRounds.{Asks, Place, Round, Rounds, StepAt, begun}
use Rattle.hb_house.specs.ClerkStops.{LoadStops, RoundStops, SaveStops, SettleStops}
use Rattle.hb_house.specs.KeeperSteps.{Failed, FailedOn, FaultLeaves, IsSure, IsSureOf, Telling, next_failure}
use Rattle.hb_house.proofs.GoesOnLemmas.{all-on, asks-on, goes_on-same, goes_on-trans, others-on, settle_stops-on, settles-on}
use Rattle.hb_house.proofs.KeeperStepsLemmas.{worked_sure}
use Rattle.hb_house.proofs.RoundLemmas.{saves-sure}
use Rattle.hb_house.proofs.RoundsLemmas.{rounds-sure}
use Rattle.hb_talk.specs.declared.errands.Errand.{Errand}
use Rattle.hb_talk.specs.declared.errands.Errand.TheVariants as errand
use Rattle.hb_talk.specs.declared.scripts.ScriptLine.{ScriptLine}
use Rattle.hb_talk.specs.declared.scripts.ScriptLine.TheVariants as line
use Rattle.hb_talk.specs.Errands.{asked}
use Rattle.hb_talk.specs.Sessions.{RoomCalls, TurnCalls}
use Rattle.hb_run.specs.RunLines.{ClerkHalts, LineRuns, RunState, place_of}
use Rattle.hb_run.specs.ScriptRuns.{Runs}

-- lists that go on

all_on-trans : (f g k : Fronts) → AllGoOn f g → AllGoOn g k → AllGoOn f k
all_on-trans f g k first next = record {
  rooms = (λ room. goes_on-trans (first.rooms room) (next.rooms room));
  lobby = goes_on-trans first.lobby next.lobby;
}

all_on-same : (f g : Fronts) → g ≡ f → AllGoOn f g
all_on-same f g is = record {
  rooms = (λ room. goes_on-same (ap (λ (k : Fronts). k.rooms room) is));
  lobby = goes_on-same (ap (λ (k : Fronts). k.lobby) is);
}

-- through a turn's call

room_calls-on : (is : Bool) (alone : Bool) (room : ℕ) (event : RoomEvent) (f g : Fronts) → RoomCalls is alone room event f g
    → AllGoOn f g
room_calls-on true alone room event f g takes = all-on room f g takes.rest (record { more = event ∷ takes.others; is = takes.front })
room_calls-on false alone room event f g waits = all-on room f g waits.rest (record { more = waits.others; is = waits.front })

-- the lists of all rooms and of the lobby go on through the call of any errand
pub calls-on : (alone : Bool) (count : ℕ) (task : Errand) (f g : Fronts) → TurnCalls alone count task f g → AllGoOn f g
calls-on alone count errand.Nothing f g is = all_on-same f g is
calls-on alone count (errand.Bad why) f g is = all_on-same f g is
calls-on alone count (errand.Denied why) f g is = all_on-same f g is
calls-on alone count (errand.Enters entry) f g takes = record {
  rooms = (λ room. goes_on-same (takes.rooms room));
  lobby = record { more = entry ∷ takes.others; is = takes.front };
}
calls-on alone count (errand.Calls room e) f g calls = room_calls-on (is_room count room) alone room (Call e) f g calls

-- through rounds of the clerk

round-on : (alone : Bool) (h : House) (moment room : ℕ) (p q : Place) → StepAt room (Round alone (site_of h room) moment) p q
    → AllGoOn p.fronts q.fronts
round-on alone h moment room p q at =
    let f : Fronts = p.fronts in
    let g : Fronts = q.fronts in
    let s = site_of h room in
    let round : Round alone s moment (f.rooms room) (g.rooms room) p.keeper q.keeper p.report q.report = at.step in
    let asks : Asks alone s moment (f.rooms room) = round.asks in
    let asked = AsksTodo moment ∷ asks.others ++ f.rooms room in
    let settled : GoesOn asked (g.rooms room) =
    settles-on alone s moment asks.todo asked (g.rooms room) p.keeper q.keeper p.report q.report round.settles in
    all-on room f g at.others (goes_on-trans (asks-on alone s moment (f.rooms room) asks) settled)

-- the lists of all rooms and of the lobby go on through any number of rounds
pub rounds-on : (alone : Bool) (h : House) (moment : ℕ) (p : Place) (n : ℕ) (q : Place) → Rounds alone h moment p n q
    → AllGoOn p.fronts q.fronts
rounds-on alone h moment p zero q same =
    record { rooms = (λ room. goes_on-same (same.rooms room)); lobby = goes_on-same same.lobby }
rounds-on alone h moment p (suc n) q more =
    all_on-trans p.fronts more.before.fronts q.fronts (rounds-on alone h moment p n more.before more.rounds)
    (round-on alone h moment (suc n) more.before q more.last)

-- also if the clerk stops in one

stopped-on : (alone : Bool) (h : House) (moment room : ℕ) (why : ClerkError) (p q : Place) → ElseSame room p.fronts q.fronts
    → RoundStops alone (site_of h room) moment why (p.fronts.rooms room) (q.fronts.rooms room) p.keeper q.keeper p.report q.report
    → AllGoOn p.fronts q.fronts
stopped-on alone h moment room why p q others (inl refused) =
    all-on room p.fronts q.fronts others (others-on alone (p.fronts.rooms room) (q.fronts.rooms room) refused.came)
stopped-on alone h moment room why p q others (inr refused) =
    let f : Fronts = p.fronts in
    let g : Fronts = q.fronts in
    let s = site_of h room in
    let asks : Asks alone s moment (f.rooms room) = refused.asks in
    let asked = AsksTodo moment ∷ asks.others ++ f.rooms room in
    let settled : GoesOn asked (g.rooms room) =
    settle_stops-on alone s moment asks.todo why asked (g.rooms room) p.keeper q.keeper p.report q.report refused.stops in
    all-on room f g others (goes_on-trans (asks-on alone s moment (f.rooms room) asks) settled)

-- the lists of all rooms and of the lobby go on if the clerk stops at a room, whatever the cause
pub halts-on : (h : House) (count : ℕ) (alone : Bool) (moment : ℕ) (why : ClerkError) (s t : RunState)
    → ClerkHalts h count alone moment why s t → AllGoOn s.fronts t.fronts
halts-on h count alone moment why s t halts =
    let p = halts.rounds.before in
    let q = place_of t halts.report in
    all_on-trans s.fronts p.fronts t.fronts
    (rounds-on alone h moment (begun s.fronts s.keeper) halts.done p halts.rounds.rounds)
    (stopped-on alone h moment (suc halts.done) why p q halts.rounds.last.others halts.rounds.last.step)

-- what can be relied on

fault_sure : (sure : Type 0) (how : Option When) (before worked : Content) (d : Option Content) → FaultLeaves how before worked d → sure
    → IsSureOf sure d
fault_sure sure (Some Before) before worked d is at = subst (IsSureOf sure) (sym is) at
fault_sure sure (Some After) before worked d is at = subst (IsSureOf sure) (sym is) at
fault_sure sure None before worked d (inl is) at = subst (IsSureOf sure) (sym is) at
fault_sure sure None before worked d (inr is) at = subst (IsSureOf sure) (sym is) at

failed_sure_of : {A : Type 0} (sure : Type 0) (refusal : KeepError) (how : Option When) (work : Content → Result A KeepError × Content)
    (c d : Option Content) → FailedOn refusal how work c d → IsSureOf sure c → IsSureOf sure d
failed_sure_of sure refusal how work None d is at = subst (IsSureOf sure) (sym is) tt
failed_sure_of sure keep.Fault how work (Some c) d is at = fault_sure sure how c (work c).1 d is at
failed_sure_of sure (keep.KeyDiffers id) how work (Some c) d is at = subst (IsSureOf sure) (sym is.1) at
failed_sure_of sure keep.UsedUp how work (Some c) d is at = subst (IsSureOf sure) (sym is.1) at
failed_sure_of sure keep.NoMemory how work (Some c) d is at = subst (IsSureOf sure) (sym is) at

failed_sure : {A : Type 0} (sure : Type 0) (refusal : KeepError) (work : Content → Result A KeepError × Content) (c d : Telling)
    → Failed refusal work c d → IsSure sure c → IsSure sure d
failed_sure sure refusal work c d failed at =
    failed_sure_of sure refusal (next_failure c.plan) work c.content d.content failed.content at

save_stops-sure : (sure : Type 0) (alone : Bool) (save : Option (Key × GameRow)) (why : ClerkError) (old new : List RoomEvent)
    (c d : Telling) (r t : Report) → SaveStops alone save why old new c d r t → IsSure sure c → IsSure sure d
save_stops-sure sure alone None why old new c d r t is at = absurd is
save_stops-sure sure alone (Some save) why old new c d r t (inl put) at =
    failed_sure sure put.refusal (put_on save.0 save.1) c d put.failed at
save_stops-sure sure alone (Some save) why old new c d r t (inr saved) at =
    worked_sure sure (put_on save.0 save.1) c _ d saved.put at

load_stops-sure : (sure : Type 0) (alone : Bool) (load : Option (ℕ × ℕ)) (why : ClerkError) (old new : List RoomEvent)
    (c d : Telling) (r t : Report) → LoadStops alone load why old new c d r t → IsSure sure c → IsSure sure d
load_stops-sure sure alone None why old new c d r t is at = absurd is
load_stops-sure sure alone (Some load) why old new c d r t (inl got) at =
    failed_sure sure got.refusal (get_on load.1) c d got.failed at
load_stops-sure sure alone (Some load) why old new c d r t (inr loaded) at =
    worked_sure sure (get_on load.1) c _ d loaded.got at

settle_stops-sure : (sure : Type 0) (alone : Bool) (s : Site) (moment : ℕ) (todo : Todo) (why : ClerkError)
    (old new : List RoomEvent) (c d : Telling) (r t : Report) → SettleStops alone s moment todo why old new c d r t
    → IsSure sure c → IsSure sure d
settle_stops-sure sure alone s moment todo why old new c d r t (inl save) at =
    save_stops-sure sure alone todo.save why old new c d r t save at
settle_stops-sure sure alone s moment todo why old new c d r t (inr load) at =
    load_stops-sure sure alone todo.load why load.middle new load.between d load.report t load.stops
    (saves-sure sure alone s moment todo.save old load.middle c load.between r load.report load.saves at)

round_stops-sure : (sure : Type 0) (alone : Bool) (s : Site) (moment : ℕ) (why : ClerkError) (old new : List RoomEvent)
    (c d : Telling) (r t : Report) → RoundStops alone s moment why old new c d r t → IsSure sure c → IsSure sure d
round_stops-sure sure alone s moment why old new c d r t (inl refused) at = subst (IsSure sure) (sym refused.keeper) at
round_stops-sure sure alone s moment why old new c d r t (inr refused) at =
    settle_stops-sure sure alone s moment refused.asks.todo why (AsksTodo moment ∷ refused.asks.others ++ old) new c d r t
    refused.stops at

halts-sure : (sure : Type 0) (h : House) (count : ℕ) (alone : Bool) (moment : ℕ) (why : ClerkError) (s t : RunState)
    → ClerkHalts h count alone moment why s t → IsSure sure s.keeper → IsSure sure t.keeper
halts-sure sure h count alone moment why s t halts at =
    let p : Place = halts.rounds.before in
    let room = suc halts.done in
    round_stops-sure sure alone (site_of h room) moment why (p.fronts.rooms room) (t.fronts.rooms room) p.keeper t.keeper p.report
    halts.report halts.rounds.last.step
    (rounds-sure sure alone h moment (begun s.fronts s.keeper) halts.done p halts.rounds.rounds at)

-- through a line, and through lines
line-sure : (sure : Type 0) (h : House) (count : ℕ) (alone : Bool) (l : ScriptLine) (s t : RunState) (text : List ℕ)
    → LineRuns h count alone l s t text → IsSure sure s.keeper → IsSure sure t.keeper
line-sure sure h count alone (line.Clerk moment) s t text (inl ran) at =
    rounds-sure sure alone h moment (begun s.fronts s.keeper) count (place_of t ran.report) ran.rounds at
line-sure sure h count alone (line.Clerk moment) s t text (inr fault) at =
    halts-sure sure h count alone moment clerk.KeeperFault s t fault.halts at
line-sure sure h count alone (line.Says moment conn got) s t text turn at = subst (IsSure sure) (sym turn.keeper) at

-- if a content that the keeper tells can be relied on before lines, so can the one that it tells behind
pub runs-sure : (sure : Type 0) (h : House) (count : ℕ) (alone : Bool) (lines : List ScriptLine) (s t : RunState) (text : List ℕ)
    → Runs h count alone lines s t text → IsSure sure s.keeper → IsSure sure t.keeper
runs-sure sure h count alone [] s t text ran at = subst (λ (k : RunState). IsSure sure k.keeper) (sym ran.0) at
runs-sure sure h count alone (l ∷ lines) s t text ran at =
    runs-sure sure h count alone lines ran.between t ran.rest ran.others
    (line-sure sure h count alone l s ran.between ran.first ran.line at)
