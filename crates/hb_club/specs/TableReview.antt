-- Which game does a table review, and what does a step of the review do?
use Rattle.std.specs.Prelude.{Bool, true, false, List, Option, Some, None, is_some}
use Rattle.hb_rules.specs.declared.acts.EndHow.{EndHow}
use Rattle.hb_rules.specs.declared.setups.Setup.{Setup}
use Rattle.hb_rules.specs.Positions.{ended}
use Rattle.hb_rules.specs.Setup.{Position}
use Rattle.hb_review.specs.declared.error.ReviewError.{ReviewError}
use Rattle.hb_review.specs.declared.steps.Step.{Step}
use Rattle.hb_review.specs.Reviews.{go_refusal, hypo_refusal, undo_refusal, go_step, hypo_step, undo_step}
use Rattle.hb_club.specs.declared.commands.Command.{Command}
use Rattle.hb_club.specs.declared.commands.Command.TheVariants as command
use Rattle.hb_club.specs.declared.items.Item.{Item}
use Rattle.hb_club.specs.EndedReplays.{Finished}
use Rattle.hb_club.specs.TableItems.{acts}

-- the game that is played with a setup, after the acts of the items
abbrev pub played_game : Setup → List Item → Position
played_game g items = record { setup = g; past = acts items }

-- how the played game ended
abbrev pub game_end : Option Setup → List Item → Option EndHow
game_end None items = None
game_end (Some g) items = ended (played_game g items)

abbrev pub game_when : Bool → Position → Option Position
game_when true game = Some game
game_when false game = None

-- the game that is reviewed: the loaded one, else the played one if it has ended
abbrev pub reviewed_game : Option Finished → Option Setup → List Item → Option Position
reviewed_game (Some loaded) g items = Some loaded.game
reviewed_game None (Some g) items =
    game_when (is_some (ended (played_game g items))) (played_game g items)
reviewed_game None None items = None

-- why the review of a game refuses a command
abbrev pub step_refusal : Option Position → List Step → Command → Option ReviewError
step_refusal (Some game) steps (command.Go turn) = go_refusal game turn
step_refusal (Some game) steps (command.Hypo action) = hypo_refusal game steps action
step_refusal (Some game) steps command.Undo = undo_refusal steps
step_refusal _ steps c = None

-- the step that a command takes in it
abbrev pub step_of : Option Position → List Step → Command → Option Step
step_of (Some game) steps (command.Go turn) = Some (go_step turn)
step_of (Some game) steps (command.Hypo action) = Some (hypo_step game steps action)
step_of (Some game) steps command.Undo = Some (undo_step game steps)
step_of _ steps c = None
