-- What did a server do that served links over a hall, as the door, its links and the keeper tell
-- it?
use Rattle.std.specs.Prelude.{◌≡◌, ℕ, Bool, true, false, List, ◌++◌, Option, Some, None, Result, length}
use Rattle.hb_club.specs.Fronts.{AllGoOn, Fronts, House}
use Rattle.hb_edge.specs.Talk.{Talk}
use Rattle.hb_edge.specs.Telling.{Tells}
use Rattle.hb_house.specs.declared.reports.ClerkError.{ClerkError}
use Rattle.hb_house.specs.KeeperSteps.{IsTold, Telling}
use Rattle.hb_house.specs.KeptOnce.{OwnIfTold}
use Rattle.hb_serve.specs.declared.accepts.Closing.{Closing}
use Rattle.hb_serve.specs.declared.accepts.Closing.TheVariants as closing
use Rattle.hb_serve.specs.Clerking.{Tended}
use Rattle.hb_serve.specs.Explanations.{AreExplained}

-- the clerk goes through the rooms once more behind the last session, since the door said that it
-- is closed, or failed
abbrev pub has_last_round : Closing → Bool
has_last_round closing.Closed = true
has_last_round closing.DoorFault = true
has_last_round _ = false

-- what the last call of the clerk did, by its answer, or that there was none
abbrev pub ClosedBy : Option (Result (Unit {0}) ClerkError) → (Stands : Fronts → Type 0)
    → (Tells : Telling → Type 0) → Bool → House → ℕ → Fronts → Telling → Type 0
ClosedBy None Stands Tells alone h n f c = Stands f × Tells c
ClosedBy (Some answer) Stands Tells alone h n f c = Tended answer Stands Tells alone h n f c

-- Sessions were held in so many jobs, over a hall that stood for the lists `first` while the keeper
-- told `c`
pub record Served {S : Type 0} (Stands : Fronts → Type 0) (Tells' : Telling → Type 0)
    (talk : S → Option Talk) (faults : S → ℕ) (alone : Bool) (h : House) (n : ℕ)
    (start : Option (ℕ → ℕ)) (first : Fronts) (c : Telling) (jobs : ℕ) (refused : Bool)
    (last : Option (Result (Unit {0}) ClerkError)) (before now : Option (List S)) : Type 0 where
  -- the lists once every session has ended, and what the keeper told then
  pub seen : Fronts
  pub on : AllGoOn first seen
  pub keeper : Telling
  pub known : IsTold keeper → IsTold c
  pub still : IsTold c → IsTold keeper
  pub own : OwnIfTold h first c → OwnIfTold h seen keeper
  -- a stub was given back for each job, and what is told of it is explained over these lists,
  -- unless a turn of a session was refused
  pub stubs : List S
  pub given_back : Tells before now (λ old. old ++ stubs)
  pub counted : length stubs ≡ jobs
  pub explained : refused ≡ false → AreExplained talk faults h n seen start stubs
  -- the last call of the clerk goes on from these lists
  pub closed : ClosedBy last Stands Tells' alone h n seen keeper
