-- What does the clerk do on its way through the rooms, if nobody else comes to them, and the keeper tells what it contains and which of
-- its calls fail? What the definition of the lone clerk says.
use Rattle.std.proofs.Common.{◌≡◌, ◌≢◌, ℕ, ◌+◌, ◌-◌, ◌<◌, Bool, true, false, zero, suc, List, [], ◌∷◌, ◌++◌, refl, sym, ap, subst, ◌∙◌, arith, nat_eq, Some, None}
use Rattle.std.proofs.lemmas.Bool.{eqb-false}
use Rattle.std.proofs.lemmas.Bool.Decides.{nat_tests}
use Rattle.std.specs.Prelude.{Option}
use Rattle.std.specs.List.{range_with_len}
use Rattle.hb_keeper.specs.declared.errors.KeepError.{KeepError}
use Rattle.hb_keeper.specs.declared.errors.KeepError.TheVariants as keep
use Rattle.hb_club.specs.Fronts.{ElseSame, Fronts, House}
use Rattle.hb_house.specs.declared.reports.Report.{Report}
use Rattle.hb_house.specs.ClerkReports.{by_keeper}
use Rattle.hb_house.specs.ClerkRounds.{Place, Rounds, begun}
use Rattle.hb_talk.specs.Keeping.{Keeping}
use Rattle.hb_talk.specs.LoneClerk.{Round as LoneRound, clerk_round, new_round, visit_unless, visits}
use Rattle.hb_run.specs.LoneRuns.{telling}
use Rattle.hb_run.specs.RunLines.{ClerkHalts, RunState, place_of}
use Rattle.hb_run.proofs.ToldCallsLemmas.{HasNoPlan, IsKnown}
use Rattle.hb_run.proofs.LoneRoomsLemmas.{IsAtRoom, IsAtRoomBy, round-here, round-stops}

-- the lone clerk has come as far as a clerk has
pub record IsLone (planned : Bool) (p : Place) (r : LoneRound) : Type 0 where
  pub rooms : (room : ℕ) → p.fronts.rooms room ≡ r.fronts.rooms room
  pub lobby : p.fronts.lobby ≡ r.fronts.lobby
  pub keeper : p.keeper ≡ telling planned r.keeping
  pub plan : HasNoPlan planned r.keeping
  pub saved : p.report.saved ≡ r.saved
  pub loaded : p.report.loaded ≡ r.loaded
  pub missing : p.report.missing ≡ r.missing

-- and has not stopped, or was refused
pub record IsLoneBy (planned : Bool) (why : Option KeepError) (p : Place) (r : LoneRound) : Type 0 where
  pub lone : IsLone planned p r
  pub refused : r.refused ≡ why

-- one room

to-room : (planned : Bool) (room : ℕ) (p : Place) (r : LoneRound) → IsLone planned p r → IsAtRoom planned room r r
    (p.fronts.rooms room) p.keeper p.report
to-room planned room p r lone = record {
  here = lone.rooms room;
  rest = (λ other apart. refl);
  lobby = refl;
  keeper = lone.keeper;
  plan = lone.plan;
  saved = lone.saved;
  loaded = lone.loaded;
  missing = lone.missing;
}

from-room : (planned : Bool) (room : ℕ) (p q : Place) (start r : LoneRound) → IsLone planned p start → ElseSame room p.fronts q.fronts
    → IsAtRoom planned room start r (q.fronts.rooms room) q.keeper q.report → IsLone planned q r
from-room planned room p q start r lone others at = record {
  rooms = (λ other. by other (nat_eq other room) refl);
  lobby = others.lobby ∙ (lone.lobby ∙ sym at.lobby);
  keeper = at.keeper;
  plan = at.plan;
  saved = at.saved;
  loaded = at.loaded;
  missing = at.missing;
}
  where
    by : (other : ℕ) (b : Bool) → nat_eq other room ≡ b → q.fronts.rooms other ≡ r.fronts.rooms other
    by other true same = let place : other ≡ room = grind (arith, nat_tests) in rw place at.here
    by other false is =
        let apart : other ≢ room = eqb-false other room is in
        others.rooms other apart ∙ (lone.rooms other ∙ sym (at.rest other apart))

-- rooms in order

range-split : (a n m : ℕ) → range_with_len a (n + suc m) ≡ range_with_len a n ++ (a + n) ∷ range_with_len (a + n + 1) m
range-split a zero m =
    let here : a ≡ a + 0 = omega arith in
    let size : 0 + suc m ≡ suc m = omega arith in
    ap (range_with_len a) size ∙ ap (λ (k : ℕ). k ∷ range_with_len (k + 1) m) here
range-split a (suc n) m =
    let size : suc n + suc m ≡ suc (n + suc m) = omega arith in
    let next : a + 1 + n ≡ a + suc n = omega arith in
    ap (range_with_len a) size
    ∙ ap (λ (l : List ℕ). a ∷ l)
    (range-split (a + 1) n m ∙ ap (λ (k : ℕ). range_with_len (a + 1) n ++ k ∷ range_with_len (k + 1) m) next)

visits-append : (h : House) (moment : ℕ) (rooms others : List ℕ) (r : LoneRound)
    → visits h moment (rooms ++ others) r ≡ visits h moment others (visits h moment rooms r)
visits-append h moment [] others r = refl
visits-append h moment (room ∷ rooms) others r = visits-append h moment rooms others (visit_unless r.refused h moment room r)

-- the rooms behind a number of them, of which this is the next
visits-next : (h : House) (moment n m : ℕ) (r : LoneRound) → let done = visits h moment (range_with_len 1 n) r in
    visits h moment (range_with_len 1 (n + suc m)) r
    ≡ visits h moment (range_with_len (suc n + 1) m) (visit_unless done.refused h moment (suc n) done)
visits-next h moment n m r =
    let next : 1 + n ≡ suc n = omega arith in
    ap (λ (l : List ℕ). visits h moment l r) (range-split 1 n m)
    ∙ (visits-append h moment (range_with_len 1 n) ((1 + n) ∷ range_with_len (1 + n + 1) m) r
    ∙ ap (λ (k : ℕ). visits h moment (k ∷ range_with_len (k + 1) m) (visits h moment (range_with_len 1 n) r)) next)

-- the first rooms have had their rounds
pub rounds-lone : (planned : Bool) (h : House) (moment : ℕ) (p : Place) (n : ℕ) (q : Place) (r : LoneRound)
    → Rounds true h moment p n q → IsLone planned p r
    → r.refused ≡ None → IsLoneBy planned None q (visits h moment (range_with_len 1 n) r)
rounds-lone planned h moment p zero q r same lone free = record {
  lone = record {
    rooms = (λ room. same.rooms room ∙ lone.rooms room);
    lobby = same.lobby ∙ lone.lobby;
    keeper = same.keeper ∙ lone.keeper;
    plan = lone.plan;
    saved = ap (λ (t : Report). t.saved) same.report ∙ lone.saved;
    loaded = ap (λ (t : Report). t.loaded) same.report ∙ lone.loaded;
    missing = ap (λ (t : Report). t.missing) same.report ∙ lone.missing;
  };
  refused = free;
}
rounds-lone planned h moment p (suc n) q r more lone free =
    let b : Place = more.before in
    let done : LoneRound = visits h moment (range_with_len 1 n) r in
    let before : IsLoneBy planned None b done = rounds-lone planned h moment p n b r more.rounds lone free in
    let one : IsAtRoomBy planned None (suc n) done (visit_unless None h moment (suc n) done) (q.fronts.rooms (suc n)) q.keeper q.report =
    round-here planned h (suc n) moment done (b.fronts.rooms (suc n)) (q.fronts.rooms
    (suc n)) b.keeper q.keeper b.report q.report before.refused
    (to-room planned (suc n) b done before.lone) more.last.step in
    let size : suc n ≡ n + suc 0 = omega arith in
    let last : visits h moment (range_with_len 1 (suc n)) r ≡ visit_unless None h moment (suc n) done =
    ap (λ (k : ℕ). visits h moment (range_with_len 1 k) r) size
    ∙ (visits-next h moment n 0 r ∙ ap (λ (o : Option KeepError). visit_unless o h moment (suc n) done) before.refused) in
    subst (IsLoneBy planned None q) (sym last) (record {
      lone = from-room planned (suc n) b q done (visit_unless None h moment (suc n) done) before.lone more.last.others one.at;
      refused = one.refused;
    })

-- no room is visited behind a refusal

visit-stopped : (why : KeepError) (o : Option KeepError) (h : House) (moment room : ℕ) (r : LoneRound) → o ≡ Some why
    → visit_unless o h moment room r ≡ r
visit-stopped why o h moment room r is = ap (λ (x : Option KeepError). visit_unless x h moment room r) is

visits-stopped : (why : KeepError) (h : House) (moment : ℕ) (rooms : List ℕ) (r : LoneRound) → r.refused ≡ Some why
    → visits h moment rooms r ≡ r
visits-stopped why h moment [] r is = refl
visits-stopped why h moment (room ∷ rooms) r is =
    ap (visits h moment rooms) (visit-stopped why r.refused h moment room r is) ∙ visits-stopped why h moment rooms r is

-- the clerk stopped in the round of the next room
pub halts-lone : (planned : Bool) (h : House) (count moment : ℕ) (why : KeepError) (s t : RunState) (f : Fronts) (k : Keeping)
    → IsKnown planned why
    → IsLone planned (begun s.fronts s.keeper) (new_round f k) → (halts : ClerkHalts h count true moment (by_keeper why) s t)
    → IsLoneBy planned (Some why) (place_of t halts.report) (clerk_round h count moment f k)
halts-lone planned h count moment why s t f k known lone halts =
    let n : ℕ = halts.done in
    let m : ℕ = count - (n + 1) in
    let within : n < count = halts.within in
    let r : LoneRound = new_round f k in
    let b : Place = halts.rounds.before in
    let q : Place = place_of t halts.report in
    let done : LoneRound = visits h moment (range_with_len 1 n) r in
    let before : IsLoneBy planned None b done =
    rounds-lone planned h moment (begun s.fronts s.keeper) n b r halts.rounds.rounds lone refl in
    let next : LoneRound = visit_unless None h moment (suc n) done in
    let one : IsAtRoomBy planned (Some why) (suc n) done next (q.fronts.rooms (suc n)) q.keeper q.report =
    round-stops planned h (suc n) moment why done (b.fronts.rooms (suc n)) (q.fronts.rooms
    (suc n)) b.keeper q.keeper b.report q.report known
    before.refused (to-room planned (suc n) b done before.lone) halts.rounds.last.step in
    let size : count ≡ n + suc m = omega (arith, within) in
    let all : clerk_round h count moment f k ≡ next =
    ap (λ (x : ℕ). visits h moment (range_with_len 1 x) r) size
    ∙ (visits-next h moment n m r
    ∙ (ap (λ (o : Option KeepError). visits h moment (range_with_len (suc n + 1) m) (visit_unless o h moment (suc n) done)) before.refused
    ∙ visits-stopped why h moment (range_with_len (suc n + 1) m) next one.refused)) in
    subst (IsLoneBy planned (Some why) q) (sym all) (record {
      lone = from-room planned (suc n) b q done next before.lone halts.rounds.last.others one.at;
      refused = one.refused;
    })
