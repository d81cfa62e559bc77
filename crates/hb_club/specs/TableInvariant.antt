-- What holds of each table of a room?
use Rattle.std.specs.Prelude.{◌≡◌, ◌≤◌, ℕ, false, true, IsSome, Option, is_some, length}
use Rattle.hb_rules.specs.declared.limits.TheConstants.{FEWEST_PLAYERS}
use Rattle.hb_club.specs.RoomEvents.{Site}
use Rattle.hb_club.specs.Seating.{players, seated_names}
use Rattle.hb_club.specs.Table.{Table}
use Rattle.hb_club.specs.TableFacts.{setup_when}
use Rattle.hb_club.specs.TableItems.{is_started}
use Rattle.hb_club.specs.WholeGames.{IsWholeGame}

-- its game is dealt from the deck that its room has for it, its players are those who are seated,
-- two or more of them, and a game that was loaded is whole
pub record IsTable (s : Site) (t : Table) : Type 0 where
  pub game : t.game
      ≡ setup_when (is_started t.items) s t.latest (t.name, t.options) (length (players t.items))
  pub seats : is_started t.items ≡ true → seated_names t.items ≡ players t.items
  pub two : is_started t.items ≡ true → FEWEST_PLAYERS ≤ length (players t.items)
  pub loaded : IsWholeGame t.loaded

-- a load is pending only where no game was started or loaded, and no table has both
pub record IsApart (t : Table) (load : Option ℕ) : Type 0 where
  pub waits : IsSome load → (is_started t.items ≡ false) × (is_some t.loaded ≡ false)
  pub apart : is_started t.items ≡ true → is_some t.loaded ≡ false
