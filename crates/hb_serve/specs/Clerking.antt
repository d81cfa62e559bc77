-- What did a call of the clerk do, at a moment of its own?
use Rattle.std.specs.Prelude.{ℕ, ⊤, Bool, Result, Ok, Err}
use Rattle.hb_club.specs.Fronts.{AllGoOn, Fronts, House}
use Rattle.hb_house.specs.declared.reports.ClerkError.{ClerkError}
use Rattle.hb_house.specs.declared.reports.Report.{Report}
use Rattle.hb_house.specs.ClerkRounds.{AllRounds}
use Rattle.hb_house.specs.ClerkStops.{Stopped}
use Rattle.hb_house.specs.KeeperSteps.{IsTold, Telling}
use Rattle.hb_house.specs.KeptOnce.{OwnIfTold}

-- it went through all rooms
pub record WentRound (Stands : Fronts → Type 0) (Tells : Telling → Type 0) (alone : Bool)
    (h : House) (n : ℕ) (f : Fronts) (c : Telling) : Type 0 where
  pub moment : ℕ
  pub report : Report
  pub rounds : AllRounds Stands Tells alone h n moment f c report

-- it stopped at a room
pub record StoppedRound (Stands : Fronts → Type 0) (Tells : Telling → Type 0) (alone : Bool)
    (h : House) (n : ℕ) (f : Fronts) (c : Telling) (why : ClerkError) : Type 0 where
  pub moment : ℕ
  pub report : Report
  pub rounds : Stopped Stands Tells alone h n moment f c report why

-- by what it answered
abbrev pub Tended : Result (Unit {0}) ClerkError → (Stands : Fronts → Type 0)
    → (Tells : Telling → Type 0) → Bool → House → ℕ → Fronts → Telling → Type 0
Tended (Ok done) Stands Tells alone h n f c = WentRound Stands Tells alone h n f c
Tended (Err why) Stands Tells alone h n f c = StoppedRound Stands Tells alone h n f c why

-- the lists went on from these, and so did what the keeper told, and then the clerk stopped at a
-- room
pub record StoppedLater (alone : Bool) (h : House) (n : ℕ) (f : Fronts) (c : Telling)
    (why : ClerkError) : Type 0 where
  pub before : Fronts
  pub on : AllGoOn f before
  pub keeper : Telling
  pub still : IsTold c → IsTold keeper
  pub own : OwnIfTold h f c → OwnIfTold h before keeper
  pub stopped : StoppedRound (λ after. ⊤) (λ left. ⊤) alone h n before keeper why
