-- Which game does a room review, and which steps did the review take?
use Rattle.std.specs.Prelude.{List, [], Option, Some, None, is_some}
use Rattle.hb_rules.specs.Positions.{ended}
use Rattle.hb_rules.specs.Setup.{Position}
use Rattle.hb_review.specs.declared.steps.Step.{Step}
use Rattle.hb_review.specs.ReviewModel.{Walk}
use Rattle.hb_club.specs.TableReview.{game_when}

-- the review of a game, if there is one, that took these steps
abbrev pub walk_of : Option Position → List Step → Option Walk
walk_of None steps = None
walk_of (Some game) steps = Some (record { game = game; steps = steps })

-- the game of a review
abbrev pub reviewed_by : Option Walk → Option Position
reviewed_by None = None
reviewed_by (Some w) = Some w.game

-- the steps that it took
abbrev pub steps_by : Option Walk → List Step
steps_by None = []
steps_by (Some w) = w.steps

-- the game, if it has ended
abbrev pub ended_game : Option Position → Option Position
ended_game None = None
ended_game (Some p) = game_when (is_some (ended p)) p
