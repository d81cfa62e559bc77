-- Which rows of `games` have a key.
use Rattle.std.proofs.Common.{◌≡◌, ℕ, ◌+◌, pos, List, [], ◌∷◌, ◌++◌, map, length, Bool, true, false, Some, None, refl, sym, ap, subst, subst₂, ◌∙◌, arith, inl, inr}
use Rattle.std.specs.Prelude.{◌==◌, ◌&&◌, slice_get, if◌then◌else◌}
use Rattle.std.specs.List.Sorted.{IsPermutation}
use Rattle.std.proofs.lemmas.List.Sorted.{IsPermutation-map, length_permutation}
use Rattle.std.specs.List.{list_all}
use Rattle.std.proofs.lemmas.Bool.Decides.{nat_tests}
use Rattle.sqlite.proofs.Callers.{one_permutation}
use Rattle.std.proofs.lemmas.Bool.{cases_Bool}
use Rattle.sqlite_value.specs.declared.value.Value.TheVariants.{Int}
use Rattle.sqlite_value.specs.Order.{Row}
use Rattle.sqlite_trees.specs.Tree.{Trees}
use Rattle.sqlite_sql.specs.Term.{Term, col, holds}
use Rattle.sqlite_sql.specs.Query.{IsAnswer, output, Output}
use Rattle.sqlite_sql.specs.Program.{overlay}
use Rattle.hb_keeper.specs.declared.rows.Key.{Key}
use Rattle.hb_keeper.specs.declared.rows.GameRow.{GameRow}
use Rattle.hb_keeper.specs.KeptGames.{same_key, id_from}
use Rattle.hb_sqlite.specs.StoreTables.{game_row, game_rows, ids_from, id_row}
use Rattle.hb_sqlite.proofs.Texts.{equals, find_key}
use Rattle.hb_sqlite.proofs.SelectLemmas.{matching, same_number}

-- the filter: run, room and serial are those of the key
abbrev pub of_key : List Term
of_key = equals (col 1 2) (col 0 0) ∷ equals (col 1 3) (col 0 1) ∷ equals (col 1 4) (col 0 2) ∷ []

-- a key as parameters
abbrev pub key_params : Key → Row
key_params key = Int (pos key.run) ∷ Int (pos key.room) ∷ Int (pos key.serial) ∷ []

turned : (a b : ℕ) → (a == b) ≡ (b == a)
turned a b = grind (arith, nat_tests)

grouped : (a b c : Bool) → (a && (b && (c && true))) ≡ (a && (b && c))
grouped true true true = refl
grouped true true false = refl
grouped true false c = refl
grouped false b c = refl

tested : (id : ℕ) (key kept : Key) (row : GameRow)
    → list_all (holds (key_params key ∷ game_row id kept row ∷ [])) of_key ≡ same_key key kept
tested id key kept row =
    rw (
      same_number kept.run key.run,
      same_number kept.room key.room,
      same_number kept.serial key.serial,
      turned kept.run key.run,
      turned kept.room key.room,
      turned kept.serial key.serial,
    )
    (grouped (key.run == kept.run) (key.room == kept.room) (key.serial == kept.serial))

step : (params r : Row) (rs : List Row) (b : Bool) → list_all (holds (params ∷ r ∷ [])) of_key ≡ b
    → matching of_key params (r ∷ rs) ≡ (if b then (params ∷ r ∷ []) ∷ [] else []) ++ matching of_key params rs
step params r rs b h = ap (λ t. (if t then (params ∷ r ∷ []) ∷ [] else []) ++ matching of_key params rs) h

abbrev shown : ℕ → Output
shown id = ([], id_row id)

-- what the matches show
pub shows_ids : (id : ℕ) (key : Key) (rows : List (Key × GameRow))
    → map (output find_key) (matching of_key (key_params key) (game_rows id rows)) ≡ map shown (ids_from id key rows)
shows_ids id key [] = refl
shows_ids id key (kept ∷ rows) = elim (cases_Bool (same_key key kept.0)) [
  | inl is ↦
      let one = step (key_params key) (game_row id kept.0 kept.1) (game_rows (id + 1) rows) true (tested id key kept.0 kept.1 ∙ is) in
      ap (map (output find_key)) one ∙ rw is (ap (λ all. shown id ∷ all) (shows_ids (id + 1) key rows))
  | inr is ↦
      let one = step (key_params key) (game_row id kept.0 kept.1) (game_rows (id + 1) rows) false (tested id key kept.0 kept.1 ∙ is) in
      ap (map (output find_key)) one ∙ rw is (shows_ids (id + 1) key rows)
]

-- the id of a key is the first of its ids
pub first_id : (id : ℕ) (key : Key) (rows : List (Key × GameRow)) → id_from id key rows ≡ slice_get (ids_from id key rows) 0
first_id id key [] = refl
first_id id key (kept ∷ rows) = elim (cases_Bool (same_key key kept.0)) [
  | inl is ↦ rw is refl
  | inr is ↦ rw is (first_id (id + 1) key rows)
]

-- what the query shows, in some order
pub shows_key : (key : Key) (rows : List (Key × GameRow)) (db : Trees) (all : List Row) → db 2 ≡ game_rows 1 rows
    → IsAnswer find_key (overlay db []) (key_params key) all
    → IsPermutation (map id_row (ids_from 1 key rows)) all
shows_key key rows db all games a =
    let staged : a.staged ≡ matching of_key (key_params key) (game_rows 1 rows) = a.grouped ∙ ap (matching of_key (key_params key)) games in
    let kept : a.kept ≡ map shown (ids_from 1 key rows) = a.distinct ∙ ap (map (output find_key)) staged ∙ shows_ids 1 key rows in
    let same : IsPermutation (map shown (ids_from 1 key rows)) a.ordered = subst (λ k. IsPermutation k a.ordered) kept a.same in
    let rows_same = IsPermutation-map (λ (p : Output). p.1) (map shown (ids_from 1 key rows)) a.ordered same in
    subst₂ IsPermutation (map-map (ids_from 1 key rows)) (sym a.shown) rows_same
  where
    map-map : (ids : List ℕ) → map (λ (p : Output). p.1) (map shown ids) ≡ map id_row ids
    map-map [] = refl
    map-map (id ∷ ids) = ap (λ more. id_row id ∷ more) (map-map ids)

-- if no row is shown, there is no id
pub no_ids : (ids : List ℕ) → IsPermutation (map id_row ids) [] → slice_get ids 0 ≡ None
no_ids [] h = refl
no_ids (id ∷ ids) h = absurd (let e = length_permutation (map id_row (id ∷ ids)) [] h in omega (arith, e))

-- none is shown where the key is new, and one alone is its id
pub no_id : (key : Key) (rows : List (Key × GameRow)) → IsPermutation (map id_row (ids_from 1 key rows)) [] → id_from 1 key rows ≡ None
no_id key rows h = first_id 1 key rows ∙ no_ids (ids_from 1 key rows) h

-- if one row is shown, there is an id
pub one_of : (ids : List ℕ) (row : Row) → IsPermutation (map id_row ids) (row ∷ []) → (id : ℕ) × (slice_get ids 0 ≡ Some id)
    × (row ≡ id_row id)
one_of [] row h = absurd (let e = length_permutation [] (row ∷ []) h in omega (arith, e))
one_of (id ∷ []) row h = let e = one_permutation (id_row id) (row ∷ []) h in (id, refl, cc)
one_of (id ∷ id' ∷ ids) row h = absurd (let e = length_permutation (map id_row (id ∷ id' ∷ ids)) (row ∷ []) h in omega (arith, e))

-- if one row is shown, it has the first id under the key
pub one_id : (key : Key) (rows : List (Key × GameRow)) (row : Row) → IsPermutation (map id_row (ids_from 1 key rows)) (row ∷ [])
    → (id : ℕ) × (id_from 1 key rows ≡ Some id) × (row ≡ id_row id)
one_id key rows row h = let it = one_of (ids_from 1 key rows) row h in (it.0, first_id 1 key rows ∙ it.1, it.2)

-- if the list of rows is empty, there is no id
pub empty_ids : (ids : List ℕ) (rows : List Row) → IsPermutation (map id_row ids) rows → length rows ≡ 0 → slice_get ids 0 ≡ None
empty_ids ids [] h none = no_ids ids h
empty_ids ids (row ∷ rows) h none = absurd (omega (arith, none))
