-- How does the round of one room more come behind those of the rooms before it?
use Rattle.std.proofs.Common.{◌≡◌, ℕ, ◌+◌, ◌<◌, Bool, zero, suc, List, ◌∷◌, ◌++◌, sym, subst, add-one}
use Rattle.hb_club.specs.Fronts.{Fronts, House, site_of}
use Rattle.hb_club.specs.RoomEvents.{AsksTodo, RoomEvent, Site}
use Rattle.hb_house.specs.declared.reports.ClerkError.{ClerkError}
use Rattle.hb_house.specs.declared.reports.Report.{Report}
use Rattle.hb_house.specs.ClerkRounds.{AllRounds, Place, Round, Rounds, StepAt, begun}
use Rattle.hb_house.specs.ClerkStops.{RoundStops, Stopped}
use Rattle.hb_house.specs.KeeperSteps.{IsSure, Telling}
use Rattle.hb_house.specs.RoundSteps.{RoomStep}
use Rattle.hb_house.proofs.KeeperStepsLemmas.{sure_before}
use Rattle.hb_house.proofs.RoundLemmas.{loads-sure, saves-sure}

round-sure : (sure : Type 0) (alone : Bool) (s : Site) (moment : ℕ) (old new : List RoomEvent) (c d : Telling) (r t : Report)
    → Round alone s moment old new c d r t → IsSure sure c → IsSure sure d
round-sure sure alone s moment old new c d r t round at =
    let due = round.settles in
    loads-sure sure alone s moment round.asks.todo.load due.middle new due.between d due.report t due.loads
    (saves-sure sure alone s moment round.asks.todo.save (AsksTodo moment ∷ round.asks.others ++ old) due.middle c due.between r
    due.report due.saves at)

-- rounds leave a content told that was told
pub rounds-sure : (sure : Type 0) (alone : Bool) (h : House) (moment : ℕ) (p : Place) (n : ℕ) (q : Place) → Rounds alone h moment p n q
    → IsSure sure p.keeper → IsSure sure q.keeper
rounds-sure sure alone h moment p zero q same at = subst (IsSure sure) (sym same.keeper) at
rounds-sure sure alone h moment p (suc n) q more at =
    let b : Place = more.before in
    round-sure sure alone (site_of h (suc n)) moment (b.fronts.rooms (suc n)) (q.fronts.rooms (suc n)) b.keeper q.keeper b.report
    q.report more.last.step (rounds-sure sure alone h moment p n b more.rounds at)

-- one room more has had its round
pub next-round : (Before After : Fronts → Type 0) (before after : Telling → Type 0) (then done : Type 0) (alone other : Bool)
    (h h' : House) (n moment : ℕ) (f : Fronts) (c : Telling) (r t : Report)
    → (done → then) → IsSure done c
    → (IsSure then c → AllRounds Before before alone h n moment f c r)
    → other ≡ alone → h' ≡ h
    → ((g : Fronts) (d : Telling) → Before g → before d → IsSure done d
    → RoomStep After after (n + 1) g (λ new e. Round other (site_of h' (n + 1)) moment (g.rooms (n + 1)) new d e r t))
    → AllRounds After after alone h (n + 1) moment f c t
next-round Before After before after then done alone other h h' n moment f c r t back sure rounds same house visit =
    let all = rounds (sure_before c done then back sure) in
    let p : Place = record { fronts = all.after; keeper = all.keeper; report = r } in
    let still : IsSure done all.keeper = rounds-sure done alone h moment (begun f c) n p all.rounds sure in
    let step = visit all.after all.keeper all.stands_for all.told still in
    let q : Place = record { fronts = step.after; keeper = step.keeper; report = t } in
    let old = p.fronts.rooms (n + 1) in
    let new = q.fronts.rooms (n + 1) in
    let one : StepAt (n + 1) (Round alone (site_of h (n + 1)) moment) p q = record {
      others = step.others;
      step = subst (λ k. Round alone (site_of k (n + 1)) moment old new p.keeper q.keeper r t) house
          (subst (λ a. Round a (site_of h' (n + 1)) moment old new p.keeper q.keeper r t) same step.step);
    } in
    let last : StepAt (suc n) (Round alone (site_of h (suc n)) moment) p q =
    subst (λ k. StepAt k (Round alone (site_of h k) moment) p q) (add-one n) one in
    record {
      after = step.after;
      stands_for = step.stands_for;
      keeper = step.keeper;
      told = step.told;
      rounds = subst (λ k. Rounds alone h moment (begun f c) k q) (sym (add-one n))
          (record { before = p; rounds = all.rounds; last = last });
    }

-- the clerk stopped in the round of one room more
pub stopped : (Before After : Fronts → Type 0) (before after : Telling → Type 0) (then done : Type 0) (alone other : Bool)
    (h h' : House) (n count moment : ℕ) (why : ClerkError) (f : Fronts) (c : Telling) (r t : Report)
    → n < count → (done → then) → IsSure done c
    → (IsSure then c → AllRounds Before before alone h n moment f c r)
    → other ≡ alone → h' ≡ h
    → ((g : Fronts) (d : Telling) → Before g → before d → IsSure done d
    → RoomStep After after (n + 1) g (λ new e. RoundStops other (site_of h' (n + 1)) moment why (g.rooms (n + 1)) new d e r t))
    → Stopped After after alone h count moment f c t why
stopped Before After before after then done alone other h h' n count moment why f c r t within back sure rounds same house visit =
    let all = rounds (sure_before c done then back sure) in
    let p : Place = record { fronts = all.after; keeper = all.keeper; report = r } in
    let still : IsSure done all.keeper = rounds-sure done alone h moment (begun f c) n p all.rounds sure in
    let step = visit all.after all.keeper all.stands_for all.told still in
    let q : Place = record { fronts = step.after; keeper = step.keeper; report = t } in
    let old = p.fronts.rooms (n + 1) in
    let new = q.fronts.rooms (n + 1) in
    let one : StepAt (n + 1) (RoundStops alone (site_of h (n + 1)) moment why) p q = record {
      others = step.others;
      step = subst (λ k. RoundStops alone (site_of k (n + 1)) moment why old new p.keeper q.keeper r t) house
          (subst (λ a. RoundStops a (site_of h' (n + 1)) moment why old new p.keeper q.keeper r t) same step.step);
    } in
    let last : StepAt (suc n) (RoundStops alone (site_of h (suc n)) moment why) p q =
    subst (λ k. StepAt k (RoundStops alone (site_of h k) moment why) p q) (add-one n) one in
    record {
      done = n;
      within = within;
      after = step.after;
      stands_for = step.stands_for;
      keeper = step.keeper;
      told = step.told;
      rounds = record { before = p; rounds = all.rounds; last = last };
    }
