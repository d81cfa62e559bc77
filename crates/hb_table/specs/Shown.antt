-- Which game does a table show?
use Rattle.std.specs.Prelude.{Option, Some, None}
use Rattle.hb_rules.specs.Setup.{Position}
use Rattle.hb_club.specs.EndedReplays.{Finished}
use Rattle.hb_club.specs.Table.{Table}
use Rattle.hb_table.specs.State.{position_in}

abbrev pub game_by : Option Finished → Option Position → Option Position
game_by (Some loaded) game = Some loaded.game
game_by None game = game

-- the game that was loaded there, else the one that was started, as it stands
abbrev pub game_of : Table → Option Position
game_of t = game_by t.loaded (position_in t)
