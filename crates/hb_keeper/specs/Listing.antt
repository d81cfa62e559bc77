-- Internal: no public clause cites this.
-- How are the games of a member listed as they are kept, and the ids of the keys?
use Rattle.std.specs.Prelude.{◌≡◌, ℕ, ◌+◌, ◌-◌, ◌≤◌, ◌⊎◌, Bool, true, false, ◌==◌, if◌then◌else◌, bytes_eq, unwrap_or, List, [], ◌∷◌, ◌++◌, length, take, slice_get, Option, Some, None}
use Rattle.std.specs.Option.{option_map_or}
use Rattle.std.specs.declared.hash.FoldHasher.{FoldHasher}
use Rattle.std.specs.declared.hash.BuildHasherDefault.{BuildHasherDefault}
use Rattle.std.specs.HashMap.{get, HashMap}
use Rattle.hb_keeper.specs.declared.rows.Key.{Key}
use Rattle.hb_keeper.specs.declared.rows.GameRow.{GameRow}
use Rattle.hb_keeper.specs.declared.rows.Line.{Line}
use Rattle.hb_keeper.specs.KeptGames.{has_name, id_from, lines_from, line_of, same_key}

-- the ids by their keys, and the lines by a player's name
abbrev pub Ids : Type 0
Ids = HashMap Key ℕ (BuildHasherDefault FoldHasher)

abbrev pub Lists : Type 0
Lists = HashMap (List ℕ) (List Line) (BuildHasherDefault FoldHasher)

-- each key of the games has its id, and no other key has one
abbrev pub HasIds : Ids → List (Key × GameRow) → Type 0
HasIds ids rows = (key : Key) → get same_key ids key ≡ id_from 1 key rows

-- the lines that are listed for a name
abbrev pub lines_for : Lists → List ℕ → List Line
lines_for lists name = unwrap_or (get bytes_eq lists name) []

-- the last line is of this game
abbrev pub is_last : ℕ → List Line → Bool
is_last id lines = option_map_or (λ (line : Line). line.id == id)
    (slice_get lines (length lines - 1)) false

-- the lines with one more, if it is not there already
abbrev pub with_line : List Line → Line → List Line
with_line lines line = if is_last line.id lines then lines else lines ++ line ∷ []

-- the line is listed for the names of the test, and for no other
abbrev pub ListedFor : (List ℕ → Bool) → Lists → Lists → Line → Type 0
ListedFor test old new line = (name : List ℕ)
    → lines_for new name
    ≡ (if test name then with_line (lines_for old name) line else lines_for old name)

-- the line is listed for some or all names of the test, and for no other
abbrev pub ListedForSome : (List ℕ → Bool) → Lists → Lists → Line → Type 0
ListedForSome test old new line = (name : List ℕ) → (lines_for new name ≡ lines_for old name)
    ⊎ ((test name ≡ true) × (lines_for new name ≡ with_line (lines_for old name) line))

-- the lines for a name with that of one more game, if there is one and the name stands in it
abbrev pub with_game : ℕ → List ℕ → Option (Key × GameRow) → List Line → List Line
with_game id name None lines = lines
with_game id name (Some kept) lines =
    if has_name name kept.1 then with_line lines (line_of id kept.1) else lines

-- the first games are listed, this many, and the game after them is listed for none, some or all
-- of its players
pub record IsListed (rows : List (Key × GameRow)) (lists : Lists) (count : ℕ) : Type 0 where
  pub within : count ≤ length rows
  pub lines : (name : List ℕ)
      → with_game (count + 1) name (slice_get rows count) (lines_for lists name)
      ≡ lines_from 1 name (take (count + 1) rows)
