-- What do the tables of a store hold, and what does that say of what a keeper contains?
use Rattle.std.specs.Prelude.{◌≡◌, ℕ, ◌+◌, ◌^◌, ◌<◌, length, pos, false, Option, Some, None, List, [], ◌∷◌, ◌++◌, slice_get, if◌then◌else◌}
use Rattle.sqlite_value.specs.declared.value.Value.TheVariants.{Null, Int, Text as Words}
use Rattle.sqlite_value.specs.Order.{Row}
use Rattle.sqlite.specs.State.{State}
use Rattle.hb_keeper.specs.declared.rows.Key.{Key}
use Rattle.hb_keeper.specs.declared.rows.GameRow.{GameRow}
use Rattle.hb_keeper.specs.KeptGames.{Content, same_key}
use Rattle.hb_sqlite.specs.Store.{store_schema}

-- A row is its rowid, and then its columns. A column that is the rowid is kept as NULL.

-- the row of `version`
abbrev pub version_row : Row
version_row = Int (pos 1) ∷ Int (pos 1) ∷ []

-- the row of `runs`
abbrev pub run_row : ℕ → Row
run_row last = Int (pos 1) ∷ Null ∷ Int (pos last) ∷ []

-- the row of a game
abbrev pub game_row : ℕ → Key → GameRow → Row
game_row id key row =
    Int (pos id) ∷ Null ∷ Int (pos key.run) ∷ Int (pos key.room) ∷ Int (pos key.serial) ∷ Int
    (pos row.how) ∷ Int (pos row.score)
    ∷ Words row.text ∷ []

-- the rows of games, if the ids begin from this one
abbrev pub game_rows : ℕ → List (Key × GameRow) → List Row
game_rows id [] = []
game_rows id (kept ∷ rows) = game_row id kept.0 kept.1 ∷ game_rows (id + 1) rows

-- the columns of a seat
abbrev pub seat_cells : ℕ → ℕ → List ℕ → Row
seat_cells game seat name = Int (pos game) ∷ Int (pos seat) ∷ Words name ∷ []

-- the columns of a game's seats, from this seat on
abbrev pub seats_from : ℕ → ℕ → List (List ℕ) → List Row
seats_from game seat [] = []
seats_from game seat (name ∷ names) = (Int (pos game) ∷ Int
    (pos seat) ∷ Words name ∷ []) ∷ seats_from game (seat + 1) names

-- the columns of the seats of games, if the ids begin from this one
abbrev pub seat_rows : ℕ → List (Key × GameRow) → List Row
seat_rows id [] = []
seat_rows id (kept ∷ rows) = seats_from id 0 kept.1.names ++ seat_rows (id + 1) rows

-- rows with these columns, whose rowids begin from this one
abbrev pub numbered_from : ℕ → List Row → List Row
numbered_from n [] = []
numbered_from n (columns ∷ more) = (Int (pos n) ∷ columns) ∷ numbered_from (n + 1) more

-- the store's tables hold the content, and nothing waits for a commit
pub record Tells (s : State) (content : Content) : Type 0 where
  pub schema : s.now.schema ≡ store_schema
  pub settled : s.committed ≡ s.now
  pub autocommit : s.in_transaction ≡ false
  pub version : s.now.trees 0 ≡ version_row ∷ []
  pub runs : s.now.trees 1 ≡ run_row content.last_run ∷ []
  -- each id is a number of the database
  pub few : length content.rows < 2 ^ 63
  pub games : s.now.trees 2 ≡ game_rows 1 content.rows
  pub seats : s.now.trees 4 ≡ numbered_from 1 (seat_rows 1 content.rows)

-- what is read of a game: its end, its score and its text
abbrev pub cells_of : GameRow → Row
cells_of row = Int (pos row.how) ∷ Int (pos row.score) ∷ Words row.text ∷ []

abbrev pub row_shown : Option GameRow → List Row
row_shown None = []
row_shown (Some row) = cells_of row ∷ []

-- the name at a seat of a game
abbrev pub seat_name : ℕ → Option GameRow → Option (List ℕ)
seat_name seat None = None
seat_name seat (Some row) = slice_get row.names seat

-- what is read of a seat
abbrev pub seat_shown : Option (List ℕ) → List Row
seat_shown None = []
seat_shown (Some name) = (Words name ∷ []) ∷ []

-- the ids under which a key is kept, if the ids of the rows begin from this one
abbrev pub ids_from : ℕ → Key → List (Key × GameRow) → List ℕ
ids_from id key [] = []
ids_from id key (kept ∷ rows) = if same_key key kept.0 then id ∷ ids_from
    (id + 1) key rows else ids_from (id + 1) key rows

-- what is read of an id
abbrev pub id_row : ℕ → Row
id_row id = Int (pos id) ∷ []

-- the names of a game, if there is one
abbrev pub names_in : Option GameRow → List (List ℕ)
names_in None = []
names_in (Some row) = row.names
