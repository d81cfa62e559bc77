-- Internal: no public clause cites this.
-- What does a room know of the game of its table, so that a row of it can be kept?
use Rattle.std.specs.Prelude.{◌≡◌, ℕ, false, List, Option, Some, None, is_some}
use Rattle.hb_rules.specs.Setup.{Position}
use Rattle.hb_playing.specs.KeptRows.{IsKeepable}

-- before a start there is no game
abbrev pub IsBare : Option (List (Option (List ℕ))) → Option Position → Type 0
IsBare names game = is_some names ≡ false → game ≡ None

-- a row of the game, if there is one, can be kept with the names of those who are seated and of the
-- variant
abbrev pub IsKept : List (List ℕ) → List ℕ → Option Position → Type 0
IsKept seats name game = (g : Position) → game ≡ Some g → IsKeepable seats name g
