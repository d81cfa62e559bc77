-- What did a call of the clerk do, by its answer?
use Rattle.std.proofs.Common.{ℕ, Bool, Ok, Err}
use Rattle.std.specs.Prelude.{Result, OnOk, IfErr}
use Rattle.hb_club.specs.Fronts.{Fronts, House}
use Rattle.hb_house.specs.declared.reports.ClerkError.{ClerkError}
use Rattle.hb_house.specs.declared.reports.Report.{Report}
use Rattle.hb_house.specs.ClerkRounds.{AllRounds, AtEach}
use Rattle.hb_house.specs.ClerkStops.{Stopped}
use Rattle.hb_house.specs.KeeperSteps.{Telling}
use Rattle.hb_serve.specs.Clerking.{Tended}

-- it went through all rooms, or stopped at one
pub tended-by : (answer : Result (Unit {0}) ClerkError) (First Stands : Fronts → Type 0) (first Tells : Telling → Type 0)
    (sure : Type 0) (alone : Bool) (h : House) (n moment : ℕ) (report : Report)
    → OnOk answer (AtEach First first sure (λ f c. AllRounds Stands Tells alone h n moment f c report))
    → IfErr answer (λ why. AtEach First first sure (λ f c. Stopped Stands Tells alone h n moment f c report why))
    → AtEach First first sure (λ f c. Tended answer Stands Tells alone h n f c)
tended-by (Ok done) First Stands first Tells sure alone h n moment report ok err f c stood told is =
    record { moment = moment; report = report; rounds = ok f c stood told is }
tended-by (Err why) First Stands first Tells sure alone h n moment report ok err f c stood told is =
    record { moment = moment; report = report; rounds = err f c stood told is }
