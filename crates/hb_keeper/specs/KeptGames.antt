-- What does a keeper contain, and what does each call answer and leave if it does not fail?
use Rattle.std.specs.Prelude.{ℕ, ◌+◌, ◌-◌, ◌^◌, ◌≤◌, Bool, false, ◌&&◌, ◌==◌, if◌then◌else◌, bytes_eq, nat_lt, List, [], ◌∷◌, ◌++◌, length, slice_get, Option, Some, None, Result, Ok, Err}
use Rattle.std.specs.List.{list_any}
use Rattle.std.specs.Option.{option_map}
use Rattle.std.specs.Cmp.Lexicographic.{pointwise}
use Rattle.hb_keeper.specs.declared.rows.Key.{Key}
use Rattle.hb_keeper.specs.declared.rows.GameRow.{GameRow}
use Rattle.hb_keeper.specs.declared.rows.Line.{Line}
use Rattle.hb_keeper.specs.declared.errors.KeepError.{KeepError}
use Rattle.hb_keeper.specs.declared.errors.KeepError.TheVariants.{KeyDiffers, UsedUp}

-- the number of the last run, and the keys with their games, the oldest first; the id of a game
-- is its place, from 1
pub record Content : Type 0 where
  pub last_run : ℕ
  pub rows : List (Key × GameRow)

-- the greatest number that a run or an id has
abbrev pub greatest : ℕ
greatest = 2 ^ 63 - 1

-- a number of a run or an id
pub record IsNumber (number : ℕ) : Type 0 where
  pub from_one : 1 ≤ number
  pub within : number ≤ greatest

-- the keys are equal
abbrev pub same_key : Key → Key → Bool
same_key a b = a.run == b.run && (a.room == b.room && a.serial == b.serial)

-- the games are equal
abbrev pub same_row : GameRow → GameRow → Bool
same_row a b =
    pointwise bytes_eq a.names b.names && bytes_eq a.text b.text
    && a.how == b.how && a.score == b.score

-- the id of a key, if the ids of the rows begin from this one
abbrev pub id_from : ℕ → Key → List (Key × GameRow) → Option ℕ
id_from id key [] = None
id_from id key (kept ∷ rows) = if same_key key kept.0 then Some id else id_from (id + 1) key rows

-- the id under which a key is kept
abbrev pub id_of : Content → Key → Option ℕ
id_of content key = id_from 1 key content.rows

-- the game with an id
abbrev pub row_of_id : Content → ℕ → Option GameRow
row_of_id content id =
    if nat_lt 0 id
    then option_map (λ (kept : Key × GameRow). kept.1) (slice_get content.rows (id - 1))
    else None

-- the content after one more run
abbrev pub with_run : Content → Content
with_run content = record content { last_run = content.last_run + 1 }

-- the content after one more game
abbrev pub with_row : Key → GameRow → Content → Content
with_row key row content = record content { rows = content.rows ++ (key, row) ∷ [] }

-- a run begins: the number is raised by one and answered
abbrev pub open_run_on : Content → Result ℕ KeepError × Content
open_run_on content =
    if nat_lt content.last_run greatest
    then (Ok (content.last_run + 1), with_run content)
    else (Err UsedUp, content)

-- the game under a kept id is this one
abbrev pub is_row : GameRow → Option GameRow → Bool
is_row row None = false
is_row row (Some kept) = same_row kept row

-- a game is put, if its key is kept under this id or under none
abbrev pub put_by : Option ℕ → Key → GameRow → Content → Result ℕ KeepError × Content
put_by (Some id) key row content =
    if is_row row (row_of_id content id)
    then (Ok id, content)
    else (Err (KeyDiffers id), content)
put_by None key row content =
    if nat_lt (length content.rows) greatest
    then (Ok (length content.rows + 1), with_row key row content)
    else (Err UsedUp, content)

-- a game is put: under a new key it is appended, and under a kept one nothing changes
abbrev pub put_on : Key → GameRow → Content → Result ℕ KeepError × Content
put_on key row content = put_by (id_of content key) key row content

-- the game with an id is got
abbrev pub get_on : ℕ → Content → Result (Option GameRow) KeepError × Content
get_on id content = (Ok (row_of_id content id), content)

-- a name stands in a game
abbrev pub has_name : List ℕ → GameRow → Bool
has_name name row = list_any (bytes_eq name) row.names

-- the line of a game
abbrev pub line_of : ℕ → GameRow → Line
line_of id row = record { id = id; score = row.score; how = row.how }

-- the lines of the games in which a name stands, if the ids of the rows begin from this one
abbrev pub lines_from : ℕ → List ℕ → List (Key × GameRow) → List Line
lines_from id name [] = []
lines_from id name (kept ∷ rows) =
    if has_name name kept.1
    then line_of id kept.1 ∷ lines_from (id + 1) name rows
    else lines_from (id + 1) name rows

-- the games of a member are listed
abbrev pub of_member_on : List ℕ → Content → Result (List Line) KeepError × Content
of_member_on name content = (Ok (lines_from 1 name content.rows), content)
