-- What do contracts see of a review, and what does it keep between calls?
use Rattle.std.specs.Prelude.{◌≡◌, ℕ, ◌≤◌, length, List}
use Rattle.hb_rules.specs.Setup.{Position}
use Rattle.hb_review.specs.declared.steps.Step.{Step}
use Rattle.hb_review.specs.Reviews.{turn_of, reviewed, AreTold}

-- a game, and the steps that its review took, the newest first
pub record Walk : Type 0 where
  pub game : Position
  pub steps : List Step

-- the game that is shown and the turn are what the steps came to
pub record IsKept (whole shown : Position) (turn : ℕ) (steps : List Step) : Type 0 where
  pub stands : turn ≡ turn_of whole steps
  pub within : turn ≤ length whole.past
  pub shows : shown ≡ reviewed whole steps
  pub told : AreTold steps
