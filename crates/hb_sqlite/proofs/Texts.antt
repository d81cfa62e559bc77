use Rattle.std.proofs.Common.{◌≡◌, ℕ, pos, negsuc, List, [], ◌∷◌, codes, Bool, true, false, cond, None, refl}
use Rattle.sqlite_tied.specs.Compute.{everything}
use Rattle.sqlite_value.specs.declared.value.Value.{Value}
use Rattle.sqlite_value.specs.declared.value.Value.TheVariants.{Null, Int}
use Rattle.sqlite_value.specs.declared.keys.Collation.TheVariants.{Binary}
use Rattle.sqlite_value.specs.declared.keys.Key.{Key}
use Rattle.sqlite_value.specs.Order.{Row, value_cmp}
use Rattle.sqlite_sql.specs.Term.{Term, lit, col, op2, holds}
use Rattle.sqlite_sql.specs.Ops.{unary, binary}
use Rattle.sqlite_sql.specs.Query.{Query, inner, end}
use Rattle.sqlite_sql.specs.declared.ops.BinaryOp.TheVariants.{Compare}
use Rattle.sqlite_sql.specs.declared.ops.CompareOp.TheVariants.{Eq}
use Rattle.sqlite_schema.specs.declared.command.Command.TheVariants.{Insert, Select, Update}
use Rattle.sqlite_schema.specs.declared.command.Source.TheVariants.{Values}
use Rattle.sqlite_schema.specs.declared.schema.Kind.TheVariants.{Integer}
use Rattle.sqlite_rules.specs.Cast.{cast}
use Rattle.sqlite.specs.Listing.{understood, reads_listing}
use Rattle.sqlite.proofs.Callers.{IsPlain, command_of}
use Rattle.sqlite_trees.specs.Tree.{has_rowid}
use Rattle.hb_sqlite.specs.Store.{store_schema}
use Rattle.hb_sqlite.specs.StoreTables.{run_row}

-- the query for the last run
abbrev pub read_run_text : List ℕ
read_run_text = codes "SELECT last FROM runs WHERE id = 1"

-- the statement that sets the last run
abbrev pub write_run_text : List ℕ
write_run_text = codes "UPDATE runs SET last = ?1 WHERE id = 1"

-- the filter: the row is that of the runs
abbrev pub first_run : Term
first_run = op2 (Compare Eq Binary) (col 1 0) (lit (Int (pos 1)))

-- a query on that row
abbrev pub run_query : List Term → Query
run_query shown = record {
  from = inner 1 end;
  filter = first_run ∷ [];
  group = None;
  project = shown;
  distinct = false;
  collations = [];
  order = [];
  limit = lit (Int (negsuc 0));
  offset = lit (Int (pos 0));
}

-- the last run is shown
abbrev pub read_run : Query
read_run = run_query (col 1 2 ∷ [])

-- the old rowid, and then the new row
abbrev pub write_run : Query
write_run = run_query (col 1 0 ∷ col 1 0 ∷ lit Null ∷ col 0 0 ∷ [])

-- how the query for the last run is read
pub read_run_is : (command_of (understood store_schema read_run_text)
    ≡ Select (record { lets = []; body = read_run }) (codes "last" ∷ []))
    × (reads_listing store_schema read_run_text ≡ false)
unfolding understood everything
read_run_is = (refl, refl)

-- that query is a plain one
pub read_run_plain : IsPlain (understood store_schema read_run_text)
unfolding understood everything
read_run_plain = (refl, refl)

-- how the statement that sets the last run is read
pub write_run_is : command_of (understood store_schema write_run_text) ≡ Update 1 (record { lets = []; body = write_run })
unfolding understood everything
write_run_is = refl

-- that statement is a plain one
pub write_run_plain : IsPlain (understood store_schema write_run_text)
unfolding understood everything
write_run_plain = (refl, refl)

either : (b : Bool) (x : Value) → cond b x x ≡ x
either true x = refl
either false x = refl

-- null stays null in a column of integers
pub cast_null : cast Integer Null ≡ Null
unfolding unary
cast_null = either _ Null

-- a number stays that number in a column of integers
pub cast_number : (n : ℕ) → cast Integer (Int (pos n)) ≡ Int (pos n)
unfolding unary
cast_number n = either _ (Int (pos n))

-- the row of the runs passes its filter
pub is_first : (last : ℕ) (params : Row) → holds (params ∷ run_row last ∷ []) first_run ≡ true
unfolding binary value_cmp lib.Ieee.is_nan lib.Ieee.lt
is_first last params = refl

-- the row of the runs has the rowid 1
pub has_first : (last : ℕ) → has_rowid (pos 1) (run_row last) ≡ true
unfolding value_cmp lib.Ieee.is_nan lib.Ieee.lt
has_first last = refl

-- the query for the id under a key
abbrev pub find_key_text : List ℕ
find_key_text = codes "SELECT id FROM games WHERE run = ?1 AND room = ?2 AND serial = ?3"

-- the query for a game by its id
abbrev pub read_game_text : List ℕ
read_game_text = codes "SELECT how, score, body FROM games WHERE id = ?1"

-- the query for the name at a seat
abbrev pub read_seat_text : List ℕ
read_seat_text = codes "SELECT name FROM seats WHERE game = ?1 AND seat = ?2"

-- the statement that puts a game
abbrev pub write_game_text : List ℕ
write_game_text = codes "INSERT INTO games (run, room, serial, how, score, body) VALUES (?1, ?2, ?3, ?4, ?5, ?6)"

-- the statement that puts a seat
abbrev pub write_seat_text : List ℕ
write_seat_text = codes "INSERT INTO seats (game, seat, name) VALUES (?1, ?2, ?3)"

-- the query for the games of a member
abbrev pub games_of_text : List ℕ
games_of_text = codes "SELECT game FROM seats WHERE name = ?1 ORDER BY game, seat"

-- a query on one table
abbrev pub table_query : ℕ → List Term → List Term → List (Term × Key) → Query
table_query tree filter shown order = record {
  from = inner tree end;
  filter = filter;
  group = None;
  project = shown;
  distinct = false;
  collations = [];
  order = order;
  limit = lit (Int (negsuc 0));
  offset = lit (Int (pos 0));
}

-- two terms have equal values
abbrev pub equals : Term → Term → Term
equals a b = op2 (Compare Eq Binary) a b

-- from the least to the greatest
abbrev pub rising : Key
rising = record { collation = Binary; descending = false }

-- the id of a game under the key
abbrev pub find_key : Query
find_key = table_query 2 (equals (col 1 2) (col 0 0) ∷ equals (col 1 3) (col 0 1) ∷ equals (col 1 4) (col 0 2) ∷ []) (col 1 0 ∷ []) []

-- what is kept of a game besides its names
abbrev pub read_game : Query
read_game = table_query 2 (equals (col 1 0) (col 0 0) ∷ []) (col 1 5 ∷ col 1 6 ∷ col 1 7 ∷ []) []

-- the name at a seat of a game
abbrev pub read_seat : Query
read_seat = table_query 4 (equals (col 1 1) (col 0 0) ∷ equals (col 1 2) (col 0 1) ∷ []) (col 1 3 ∷ []) []

-- the game of each seat with the name, by games and seats
abbrev pub games_of : Query
games_of = table_query 4 (equals (col 1 3) (col 0 0) ∷ []) (col 1 1 ∷ []) ((col 1 1, rising) ∷ (col 1 2, rising) ∷ [])

-- the columns of a new game
abbrev pub game_terms : List Term
game_terms = lit Null ∷ lit Null ∷ col 0 0 ∷ col 0 1 ∷ col 0 2 ∷ col 0 3 ∷ col 0 4 ∷ col 0 5 ∷ []

-- the columns of a new seat
abbrev pub seat_terms : List Term
seat_terms = lit Null ∷ col 0 0 ∷ col 0 1 ∷ col 0 2 ∷ []

-- how the query for the id under a key is read
pub find_key_is : (command_of (understood store_schema find_key_text)
    ≡ Select (record { lets = []; body = find_key }) (codes "id" ∷ []))
    × (reads_listing store_schema find_key_text ≡ false)
unfolding understood everything
find_key_is = (refl, refl)

-- that query is a plain one
pub find_key_plain : IsPlain (understood store_schema find_key_text)
unfolding understood everything
find_key_plain = (refl, refl)

-- how the query for a game is read
pub read_game_is : (command_of (understood store_schema read_game_text)
    ≡ Select (record { lets = []; body = read_game }) (codes "how" ∷ codes "score" ∷ codes "body" ∷ []))
    × (reads_listing store_schema read_game_text ≡ false)
unfolding understood everything
read_game_is = (refl, refl)

-- that query is a plain one
pub read_game_plain : IsPlain (understood store_schema read_game_text)
unfolding understood everything
read_game_plain = (refl, refl)

-- how the query for a name is read
pub read_seat_is : (command_of (understood store_schema read_seat_text)
    ≡ Select (record { lets = []; body = read_seat }) (codes "name" ∷ []))
    × (reads_listing store_schema read_seat_text ≡ false)
unfolding understood everything
read_seat_is = (refl, refl)

-- that query is a plain one
pub read_seat_plain : IsPlain (understood store_schema read_seat_text)
unfolding understood everything
read_seat_plain = (refl, refl)

-- how the query for the games of a member is read
pub games_of_is : (command_of (understood store_schema games_of_text)
    ≡ Select (record { lets = []; body = games_of }) (codes "game" ∷ []))
    × (reads_listing store_schema games_of_text ≡ false)
unfolding understood everything
games_of_is = (refl, refl)

-- that query is a plain one
pub games_of_plain : IsPlain (understood store_schema games_of_text)
unfolding understood everything
games_of_plain = (refl, refl)

-- how the statement that puts a game is read
pub write_game_is : command_of (understood store_schema write_game_text) ≡ Insert 2 (Values game_terms 8)
unfolding understood everything
write_game_is = refl

-- that statement is a plain one
pub write_game_plain : IsPlain (understood store_schema write_game_text)
unfolding understood everything
write_game_plain = (refl, refl)

-- how the statement that puts a seat is read
pub write_seat_is : command_of (understood store_schema write_seat_text) ≡ Insert 3 (Values seat_terms 4)
unfolding understood everything
write_seat_is = refl

-- that statement is a plain one
pub write_seat_plain : IsPlain (understood store_schema write_seat_text)
unfolding understood everything
write_seat_plain = (refl, refl)
