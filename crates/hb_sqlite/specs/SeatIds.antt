-- Internal: no public clause cites this.
-- What do the seats with a name give?
use Rattle.std.specs.Prelude.{ℕ, ◌+◌, ◌==◌, bytes_eq, if◌then◌else◌, List, [], ◌∷◌, ◌++◌, Option, Some, None}
use Rattle.hb_keeper.specs.declared.rows.Key.{Key}
use Rattle.hb_keeper.specs.declared.rows.GameRow.{GameRow}
use Rattle.hb_keeper.specs.declared.rows.Line.{Line}
use Rattle.hb_keeper.specs.KeptGames.{Content, row_of_id}

-- the id of a game, once for each of its seats with the name
abbrev pub ids_within : ℕ → List ℕ → List (List ℕ) → List ℕ
ids_within id name [] = []
ids_within id name (other ∷ names) = if bytes_eq other name then id ∷ ids_within id name names else
    ids_within id name names

-- the ids of the games of the seats with the name, in order, if the ids of the rows begin from
-- this one
abbrev pub seat_ids : ℕ → List ℕ → List (Key × GameRow) → List ℕ
seat_ids id name [] = []
seat_ids id name (kept ∷ rows) = ids_within id name kept.1.names ++ seat_ids (id + 1) name rows

-- the ids without those that stand behind the same one
abbrev pub once : ℕ → List ℕ → List ℕ
once last [] = []
once last (id ∷ ids) = if id == last then once last ids else id ∷ once id ids

-- the line of a game, if there is one
abbrev pub line_in : ℕ → Option GameRow → Option Line
line_in id None = None
line_in id (Some row) = Some (record { id = id; score = row.score; how = row.how })

abbrev pub listed : Option Line → List Line
listed None = []
listed (Some line) = line ∷ []

-- the lines of the games with these ids
abbrev pub lines_at : Content → List ℕ → List Line
lines_at content [] = []
lines_at content (id ∷ ids) = listed (line_in id (row_of_id content id)) ++ lines_at content ids
