-- The queries, step by step.
use Rattle.std.proofs.Common.{◌≡◌, inl, ℕ, ◌-◌, ◌<◌, ◌≤◌, true, zero, suc, pos, List, [], ◌∷◌, Some, None, Option, Ok, Err, Result, IfOk, IfErr, refl, sym, ap, subst, ◌∙◌, arith}
use Rattle.std.proofs.Common.{ℤ, ◌^◌, to_z, of_z, w64}
use Rattle.std.proofs.lemmas.Int.{to_z_pos}
use Rattle.std.specs.Prelude.{slice_get, nat_lt}
use Rattle.std.proofs.lemmas.Bool.Decides.{nat_tests}
use Rattle.std.specs.Option.{option_map}
use Rattle.sqlite_value.specs.declared.value.Value.TheVariants.{Null, Int, Text as Words}
use Rattle.sqlite_value.specs.Order.{Row}
use Rattle.sqlite_trees.specs.View.{doubt}
use Rattle.sqlite_sql.specs.Term.{col}
use Rattle.sqlite_sql.specs.Query.{IsAnswer}
use Rattle.sqlite_sql.specs.Program.{overlay}
use Rattle.sqlite.specs.declared.error.Error.{Error}
use Rattle.sqlite.specs.Listing.{understood}
use Rattle.sqlite.specs.State.{State, HasCleanDisk, Shown, FailsToQuery}
use Rattle.sqlite.proofs.Callers.{IsPlain, reads_as}
use Rattle.hb_keeper.specs.declared.rows.Key.{Key}
use Rattle.hb_keeper.specs.declared.rows.GameRow.{GameRow}
use Rattle.hb_keeper.specs.KeptGames.{Content, row_of_id}
use Rattle.hb_sqlite.specs.Store.{store_schema}
use Rattle.hb_sqlite.specs.StoreTables.{Tells, game_row, game_rows, row_shown, seat_name, seat_shown, seat_rows, numbered_from, ids_from, id_row}
use Rattle.hb_sqlite.specs.StoreSteps.{IsSure, Reads}
use Rattle.hb_sqlite.proofs.Texts.{read_game_text, read_game, read_game_is, read_game_plain, read_seat_text, read_seat, read_seat_is, read_seat_plain, find_key_text, find_key_is, find_key_plain}
use Rattle.hb_sqlite.proofs.States.{rows_open, rows_unchanged, query_failed, kept_open, kept_tells}
use Rattle.hb_sqlite.proofs.SelectLemmas.{shows_none, shows_one, matching, with_id, game_match, no_game, one_game}
use Rattle.std.specs.List.Sorted.{IsPermutation}
use Rattle.std.specs.Prelude.{map}
use Rattle.hb_sqlite.proofs.KeyLemmas.{key_params, shows_key}
use Rattle.hb_sqlite.proofs.SeatLemmas.{of_seat, Finds, name_at, none_later, finds_seat}

module _ (old new : State) (sql : List ℕ) (params : Row) (plain : IsPlain (understood store_schema sql)) (Finds : Content → List Row
    → Type 0)
    (found : (content : Content) (all : List Row) → Tells old content → Shown sql params old new all
    → Finds content all) (less : doubt old.is_clean ≤ doubt new.is_clean) where
  clean : IsSure new → HasCleanDisk old
  clean sure = let c = sure.clean in omega (arith, c, less)

  -- a query of all rows, by its two clauses
  pub all_rows : {A : Type 0} (items : A → List Row) (r : Result A Error) → (HasCleanDisk new
      → IfOk r (λ rows. Shown sql params old new (items rows)))
      → (HasCleanDisk new → IfErr r (FailsToQuery sql params old new)) → Reads old new (λ content rows. Finds content (items rows)) r
  all_rows items (Ok rows) ok err = record {
    sure = λ sure. record { clean = clean sure; is_open = rows_open old new sql params (items rows) (ok sure.clean) sure.is_open };
    found = λ sure content tells. found content (items rows) tells (ok sure.clean);
    done = λ sure content tells.
        kept_tells old new content (inl (rows_unchanged old new sql params (items rows) (subst (λ s. IsPlain (understood s sql))
        (sym tells.schema) plain) (ok sure.clean))) sure.is_open tells;
    failed = λ sure content tells. tt;
  }
  all_rows items (Err e) ok err = record {
    sure = λ sure. record {
      clean = clean sure;
      is_open = kept_open old new (query_failed old new sql params e
          (err sure.clean)) sure.is_open;
    };
    found = λ sure content tells. tt;
    done = λ sure content tells. tt;
    failed = λ sure content tells. kept_tells old new content (query_failed old new sql params e (err sure.clean)) sure.is_open tells;
  }

shown_of : (rows : List (Key × GameRow)) (id : ℕ) (kept : Option (Key × GameRow)) (db : ℕ → List Row) (all : List Row)
    → db 2 ≡ game_rows 1 rows
    → matching with_id (Int (pos id) ∷ []) (game_rows 1 rows) ≡ game_match id kept
    → IsAnswer read_game (overlay db []) (Int (pos id) ∷ []) all
    → all ≡ row_shown (option_map (λ (it : Key × GameRow). it.1) kept)
shown_of rows id None db all games is a = shows_none 2 with_id (col 1 5 ∷ col 1 6 ∷ col 1 7 ∷ []) db (Int (pos id) ∷ []) all
    (ap (matching with_id (Int (pos id) ∷ [])) games ∙ is) a
shown_of rows id (Some it) db all games is a = shows_one 2 with_id (col 1 5 ∷ col 1 6 ∷ col 1 7 ∷ []) db (Int (pos id) ∷ [])
    (game_row id it.0 it.1) all (ap (matching with_id (Int (pos id) ∷ [])) games ∙ is) a

-- the row of an id above 0 is that of the game at its place
pub row_after : (content : Content) (id : ℕ) → row_of_id content (suc id) ≡ option_map (λ (it : Key
    × GameRow). it.1) (slice_get content.rows (suc id - 1))
row_after content id = let e : nat_lt 0 (suc id) ≡ true = grind (arith, nat_tests) in rw e refl

reads_game : (old new : State) (id : ℕ) (content : Content) (all : List Row) → Tells old content
    → Shown read_game_text (Int (pos id) ∷ []) old new all → all ≡ row_shown (row_of_id content id)
reads_game old new zero content all tells h =
    let a = (reads_as read_game_text
    (Int (pos 0) ∷ []) old new store_schema tells.schema _ read_game_is.0 read_game_plain read_game_is.1 all h).answer Null in
    shown_of content.rows 0 None old.now.trees all tells.games (no_game 0 1 content.rows (omega arith)) a
reads_game old new (suc id) content all tells h =
    let a = (reads_as read_game_text
    (Int (pos (suc id)) ∷ []) old new store_schema tells.schema _ read_game_is.0 read_game_plain read_game_is.1 all h).answer Null in
    shown_of content.rows (suc id) (slice_get content.rows (suc id - 1)) old.now.trees all tells.games (one_game (suc id) 1 content.rows
    (omega arith)) a
    ∙ ap row_shown (sym (row_after content id))

-- what the query for a game by its id answers
pub game_found : {A : Type 0} (items : A → List Row) (old new : State) (id : ℕ) (r : Result A Error)
    → doubt old.is_clean ≤ doubt new.is_clean
    → (HasCleanDisk new → IfOk r (λ rows. Shown read_game_text (Int (pos id) ∷ []) old new (items rows))) → (HasCleanDisk new
    → IfErr r (FailsToQuery read_game_text (Int (pos id) ∷ []) old new))
    → Reads old new (λ content rows. items rows ≡ row_shown (row_of_id content id)) r
game_found items old new id r less =
    all_rows old new read_game_text (Int (pos id) ∷ []) read_game_plain (λ content all. all ≡ row_shown (row_of_id content id))
    (λ content all tells h. reads_game old new id content all tells h) less items r

seat_of : (game seat : ℕ) (name : Option (List ℕ)) (rows : List Row) (db : ℕ → List Row) (all : List Row) → db 4 ≡ rows
    → Finds (Int (pos game) ∷ Int (pos seat) ∷ []) name game seat (matching of_seat (Int (pos game) ∷ Int (pos seat) ∷ []) rows)
    → IsAnswer read_seat (overlay db []) (Int (pos game) ∷ Int (pos seat) ∷ []) all → all ≡ seat_shown name
seat_of game seat None rows db all seats found a =
    shows_none 4 of_seat (col 1 3 ∷ []) db (Int (pos game) ∷ Int (pos seat) ∷ []) all (ap (matching of_seat (Int (pos game) ∷ Int
    (pos seat) ∷ [])) seats ∙ found) a
seat_of game seat (Some name) rows db all seats found a =
    shows_one 4 of_seat (col 1 3 ∷ []) db (Int (pos game) ∷ Int (pos seat) ∷ []) (Int (pos found.0) ∷ Int (pos game) ∷ Int
    (pos seat) ∷ Words name ∷ []) all
    (ap (matching of_seat (Int (pos game) ∷ Int (pos seat) ∷ [])) seats ∙ found.1) a

named : (seat : ℕ) (kept : Option (Key × GameRow)) → name_at 0 seat kept ≡ seat_name seat (option_map (λ (it : Key × GameRow). it.1) kept)
named seat None = refl
named seat (Some kept) = refl

reads_seat : (old new : State) (game seat : ℕ) (content : Content) (all : List Row) → Tells old content
    → Shown read_seat_text (Int (pos game) ∷ Int (pos seat) ∷ []) old new all
    → all ≡ seat_shown (seat_name seat (row_of_id content game))
reads_seat old new zero seat content all tells h =
    let params = Int (pos 0) ∷ Int (pos seat) ∷ [] in
    let a = (reads_as read_seat_text params old new store_schema tells.schema _ read_seat_is.0 read_seat_plain read_seat_is.1 all h).answer
    Null in
    seat_of 0 seat None (numbered_from 1 (seat_rows 1 content.rows)) old.now.trees all tells.seats (none_later 0 seat 1 1 content.rows
    (omega arith)) a
reads_seat old new (suc game) seat content all tells h =
    let params = Int (pos (suc game)) ∷ Int (pos seat) ∷ [] in
    let a = (reads_as read_seat_text params old new store_schema tells.schema _ read_seat_is.0 read_seat_plain read_seat_is.1 all h).answer
    Null in
    seat_of (suc game) seat (name_at (suc game) seat (slice_get content.rows (suc game - 1))) (numbered_from 1
    (seat_rows 1 content.rows)) old.now.trees all tells.seats
    (finds_seat (suc game) seat 1 1 content.rows (omega arith)) a
    ∙ ap seat_shown (named seat (slice_get content.rows (suc game - 1)) ∙ ap (seat_name seat) (sym (row_after content game)))

-- what the query for the name at a seat answers
pub seat_found : {A : Type 0} (items : A → List Row) (old new : State) (game seat : ℕ) (r : Result A Error)
    → doubt old.is_clean ≤ doubt new.is_clean
    → (HasCleanDisk new → IfOk r (λ rows. Shown read_seat_text (Int (pos game) ∷ Int (pos seat) ∷ []) old new (items rows)))
    → (HasCleanDisk new → IfErr r (FailsToQuery read_seat_text (Int (pos game) ∷ Int (pos seat) ∷ []) old new))
    → Reads old new (λ content rows. items rows ≡ seat_shown (seat_name seat (row_of_id content game))) r
seat_found items old new game seat r less =
    all_rows old new read_seat_text (Int (pos game) ∷ Int (pos seat) ∷ []) read_seat_plain (λ content all. all ≡ seat_shown (seat_name seat
    (row_of_id content game)))
    (λ content all tells h. reads_seat old new game seat content all tells h) less items r

reads_key : (old new : State) (key : Key) (content : Content) (all : List Row) → Tells old content
    → Shown find_key_text (key_params key) old new all
    → IsPermutation (map id_row (ids_from 1 key content.rows)) all
reads_key old new key content all tells h =
    let a = (reads_as find_key_text
    (key_params key) old new store_schema tells.schema _ find_key_is.0 find_key_plain find_key_is.1 all h).answer Null in
    shows_key key content.rows old.now.trees all tells.games a

-- what the query for the ids under a key answers
pub key_found : {A : Type 0} (items : A → List Row) (old new : State) (key : Key) (r : Result A Error)
    → doubt old.is_clean ≤ doubt new.is_clean
    → (HasCleanDisk new → IfOk r (λ rows. Shown find_key_text (key_params key) old new (items rows))) → (HasCleanDisk new
    → IfErr r (FailsToQuery find_key_text (key_params key) old new))
    → Reads old new (λ content rows. IsPermutation (map id_row (ids_from 1 key content.rows)) (items rows)) r
key_found items old new key r less =
    all_rows old new find_key_text (key_params key) find_key_plain (λ content all. IsPermutation
    (map id_row (ids_from 1 key content.rows)) all)
    (λ content all tells h. reads_key old new key content all tells h) less items r

-- a number below 2^63 as a parameter has it
pub to_z-of : (z : ℤ) (n : ℕ) → z ≡ pos n → n < 2 ^ 63 → to_z w64 (of_z w64 z) ≡ pos n
to_z-of z n is low = rw is (to_z_pos w64 n low)
