-- Which views can be written? Those of tables that rooms come to.
use Rattle.std.specs.Prelude.{◌≡◌, ⊤, true, false, ◌==◌, List, [], ◌∷◌, Option, Some, None, is_some}
use Rattle.hb_rules.specs.Setup.{Position}
use Rattle.hb_review.specs.declared.steps.Step.{Step}
use Rattle.hb_club.specs.declared.commands.Command.{Command}
use Rattle.hb_club.specs.RoomEvents.{Site}
use Rattle.hb_club.specs.SeenTable.{seen_game, seen_table}
use Rattle.hb_club.specs.Table.{Table}
use Rattle.hb_club.specs.TableInvariant.{IsTable}
use Rattle.hb_club.specs.TableItems.{has, is_loaded, is_started, steps}
use Rattle.hb_club.specs.TableRecord.{AreInOrder, HasSeat}
use Rattle.hb_club.specs.TableReview.{reviewed_game, step_of, step_refusal}
use Rattle.hb_club.specs.Views.{View, view_as}

-- a step of a game's review after these: that of a command which the review does not refuse
pub record IsStep (game : Position) (taken : List Step) (step : Step) : Type 0 where
  pub command : Command
  pub may : step_refusal (Some game) taken command ≡ None
  pub is : step_of (Some game) taken command ≡ Some step

-- each step may be taken after those before it
abbrev pub AreSteps : Position → List Step → Type 0
AreSteps game [] = ⊤
AreSteps game (step ∷ taken) = IsStep game taken step × AreSteps game taken

-- the same of the game that is reviewed; without one there is no step
abbrev pub AreStepsOf : Option Position → List Step → Type 0
AreStepsOf None taken = taken ≡ []
AreStepsOf (Some game) taken = AreSteps game taken

-- the game that a view reviews
abbrev pub view_review : View → Option Position
view_review w = reviewed_game (seen_table w).loaded (seen_game w) w.items

-- a view of a table that was opened
pub record IsStream (w : View) : Type 0 where
  pub site : Site
  pub table : Table
  pub is : IsTable site table
  pub seen : w ≡ view_as w.viewer table
  -- what is so of each table that a room comes to
  pub opened : (w.latest == 0) ≡ false
  pub order : AreInOrder w.items
  pub apart : is_started w.items ≡ true → is_some w.loaded ≡ false
  pub came : has is_loaded w.items ≡ true → is_some w.loaded ≡ true
  pub walks : AreStepsOf (view_review w) (steps w.items)
  pub seat : HasSeat w.viewer
