-- Which games does the clerk bring? Whole ones: games that have ended, with all their cards.
use Rattle.std.specs.Prelude.{◌≤◌, ⊤, IsSome, List, [], ◌∷◌, Option, Some, None}
use Rattle.hb_rules.specs.declared.limits.TheConstants.{FEWEST_PLAYERS}
use Rattle.hb_rules.specs.Positions.{ended}
use Rattle.hb_rules.specs.Setup.{Position}
use Rattle.hb_seen.specs.SeenSetup.{HasCards}
use Rattle.hb_club.specs.EndedReplays.{Finished}
use Rattle.hb_club.specs.RoomEvents.{Loaded, Notes, RoomEvent}

-- a game of two players or more that has ended, with as many cards as its variant
pub record IsWhole (game : Position) : Type 0 where
  pub over : IsSome (ended game)
  pub two : FEWEST_PLAYERS ≤ game.setup.players
  pub cards : HasCards game.setup

abbrev pub IsWholeGame : Option Finished → Type 0
IsWholeGame (Some r) = IsWhole r.game
IsWholeGame None = ⊤

-- the game that an event brings is whole, if it brings one
abbrev pub BringsWhole : RoomEvent → Type 0
BringsWhole (Notes moment (Loaded table id game)) = IsWholeGame game
BringsWhole _ = ⊤

-- and so is that of each event of a list
abbrev pub BringWhole : List RoomEvent → Type 0
BringWhole [] = ⊤
BringWhole (e ∷ events) = BringsWhole e × BringWhole events
