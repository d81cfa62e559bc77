-- Which game does a room review, and what does the review of that game answer?
use Rattle.std.proofs.Common.{◌≡◌, List, refl, Some, None, Option}
use Rattle.std.specs.Prelude.{option_map}
use Rattle.hb_rules.specs.declared.setups.Setup.{Setup}
use Rattle.hb_rules.specs.Setup.{Position}
use Rattle.hb_review.specs.declared.steps.Step.{Step}
use Rattle.hb_review.specs.ReviewModel.{Walk}
use Rattle.hb_club.specs.declared.commands.Command.{Command}
use Rattle.hb_club.specs.declared.items.Item.{Item}
use Rattle.hb_club.specs.TableReview.{played_game, reviewed_game, step_of, step_refusal}
use Rattle.hb_playing.specs.RoomReviews.{ended_game, reviewed_by, steps_by, walk_of}

-- the game that was started is reviewed once it has ended, if none is loaded
pub reviewed_game-ended : (g : Option Setup) (items : List Item)
    → reviewed_game None g items ≡ ended_game (option_map (λ (h : Setup). played_game h items) g)
reviewed_game-ended None items = refl
reviewed_game-ended (Some g) items = refl

-- a review is that of its game, with its steps
pub walk_of-parts : (w : Option Walk) → walk_of (reviewed_by w) (steps_by w) ≡ w
walk_of-parts None = refl
walk_of-parts (Some w) = refl

-- the review of a game refuses what the definition refuses
pub step_refusal-walk : (game : Option Position) (steps : List Step) (c : Command)
    → step_refusal (reviewed_by (walk_of game steps)) (steps_by (walk_of game steps)) c ≡ step_refusal game steps c
step_refusal-walk None steps c = refl
step_refusal-walk (Some game) steps c = refl

-- and takes the definition's step
pub step_of-walk : (game : Option Position) (steps : List Step) (c : Command)
    → step_of (reviewed_by (walk_of game steps)) (steps_by (walk_of game steps)) c ≡ step_of game steps c
step_of-walk None steps c = refl
step_of-walk (Some game) steps c = refl
