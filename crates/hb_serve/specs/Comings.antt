-- How do the lists of a hall, and what a keeper tells, come on while others call the hall?
use Rattle.std.specs.Prelude.{◌≡◌, ℕ, ◌+◌, ⊤, Option, Some, None}
use Rattle.hb_club.specs.Fronts.{AllGoOn, Fronts, House}
use Rattle.hb_house.specs.KeeperSteps.{IsTold, Telling}
use Rattle.hb_house.specs.KeptOnce.{OwnIfTold}

-- the lists of two halls begin those for which the hall stands into which they are joined
pub record JoinedLists (Stands : Fronts → Type 0) (own other : Fronts) : Type 0 where
  pub after : Fronts
  pub stands_for : Stands after
  pub own_on : AllGoOn own after
  pub other_on : AllGoOn other after

-- the lists went on from these, and so did what the keeper tells: it tells its content still, and
-- of the house's run it still has only games that were due, and each once
pub record ComesTo (Stands : Fronts → Type 0) (Tells : Telling → Type 0) (h : House)
    (f : Fronts) (c : Telling) : Type 0 where
  pub after : Fronts
  pub stands_for : Stands after
  pub on : AllGoOn f after
  pub keeper : Telling
  pub told : Tells keeper
  pub known : IsTold keeper → IsTold c
  pub still : IsTold c → IsTold keeper
  pub own : OwnIfTold h f c → OwnIfTold h after keeper

-- a clock's answers are those of another from some place on
abbrev pub IsFrom : Option (ℕ → ℕ) → Option (ℕ → ℕ) → Type 0
IsFrom None clock = ⊤
IsFrom (Some answers) None = ⊥
IsFrom (Some answers) (Some later) = (place : ℕ) × ((k : ℕ) → later k ≡ answers (place + k))

-- two clocks tell the same answers
abbrev pub SameAnswers : Option (ℕ → ℕ) → Option (ℕ → ℕ) → Type 0
SameAnswers None other = ⊤
SameAnswers (Some one) None = ⊥
SameAnswers (Some one) (Some other) = (k : ℕ) → other k ≡ one k

-- a clone of a clock tells what the clock then has still to give
abbrev pub ClonesTell : {C : Type 0} → (is_clone : C → C → Type 0) → (coming : C → Option (ℕ → ℕ))
    → Type 0
ClonesTell {C} is_clone coming =
    (clock clone : C) → is_clone clock clone → SameAnswers (coming clock) (coming clone)
