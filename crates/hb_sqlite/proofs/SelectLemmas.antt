-- What the queries on one table show.
use Rattle.std.proofs.Common.{◌≡◌, inl, inr, ℕ, ◌+◌, ◌-◌, ◌<◌, ◌≤◌, suc, pos, List, [], ◌∷◌, ◌++◌, map, Bool, true, false, Some, None, Option, refl, ap, subst, ◌∙◌, arith}
use Rattle.std.specs.Prelude.{◌==◌, slice_get, if◌then◌else◌}
use Rattle.std.proofs.lemmas.Bool.{cases_Bool}
use Rattle.std.proofs.lemmas.Bool.Decides.{nat_tests}
use Rattle.std.specs.Ordering.{is_eq}
use Rattle.std.specs.List.Sorted.{IsPermutation}
use Rattle.std.proofs.lemmas.List.Sorted.{length_permutation}
use Rattle.sqlite_value.specs.declared.value.Value.TheVariants.{Int}
use Rattle.sqlite_value.specs.declared.keys.Collation.TheVariants.{Binary}
use Rattle.sqlite_value.specs.Order.{Row, value_cmp}
use Rattle.sqlite_value.proofs.OrderLemmas.{value_cmp-Int}
use Rattle.sqlite_trees.specs.Tree.{Trees}
use Rattle.sqlite_sql.specs.declared.ops.BinaryOp.TheVariants.{Compare}
use Rattle.sqlite_sql.specs.declared.ops.CompareOp.TheVariants.{Eq}
use Rattle.sqlite_sql.specs.Ops.{binary, is_true, from_truth}
use Rattle.sqlite_sql.specs.Term.{Term, Env, col, holds}
use Rattle.sqlite_sql.specs.Query.{IsAnswer, matches, inner, end, output, page, Output}
use Rattle.sqlite_sql.specs.Program.{overlay}
use Rattle.sqlite.proofs.Callers.{one_permutation}
use Rattle.hb_keeper.specs.declared.rows.Key.{Key}
use Rattle.hb_keeper.specs.declared.rows.GameRow.{GameRow}
use Rattle.hb_sqlite.specs.StoreTables.{game_row, game_rows}
use Rattle.hb_sqlite.proofs.Texts.{table_query, equals}

told : (b : Bool) → is_true (from_truth (Some b)) ≡ b
told true = refl
told false = refl

-- two numbers are equal as SQL compares them exactly where they are
pub same_number : (a b : ℕ) → is_true (binary (Compare Eq Binary) (Int (pos a)) (Int (pos b))) ≡ (a == b)
unfolding binary
same_number a b = told (is_eq (value_cmp (Int (pos a)) (Int (pos b)))) ∙ ap is_eq (value_cmp-Int (pos a) (pos b)) ∙ grind (arith, nat_tests)

no_rows : {X : Type 0} (ys : List X) → IsPermutation [] ys → ys ≡ []
no_rows [] h = refl
no_rows (y ∷ ys) h = absurd (let e = length_permutation [] (y ∷ ys) h in omega (arith, e))

-- a query that nothing matches shows nothing
pub shows_none : (tree : ℕ) (filter shown : List Term) (db : Trees) (params : Row) (all : List Row)
    → matches (overlay db []) filter (inner tree end) (params ∷ []) ≡ []
    → IsAnswer (table_query tree filter shown []) (overlay db []) params all → all ≡ []
shows_none tree filter shown db params all none a =
    let q = table_query tree filter shown [] in
    let staged : a.staged ≡ [] = a.grouped ∙ none in
    let kept : a.kept ≡ [] = a.distinct ∙ ap (map (output q)) staged in
    let ordered = no_rows a.ordered (subst (λ k. IsPermutation k a.ordered) kept a.same) in
    a.shown ∙ ap (λ xs. page q params (map (λ (p : Output). p.1) xs)) ordered

-- a query that one row matches shows that row
pub shows_one : (tree : ℕ) (filter shown : List Term) (db : Trees) (params row : Row) (all : List Row)
    → matches (overlay db []) filter (inner tree end) (params ∷ []) ≡ (params ∷ row ∷ []) ∷ []
    → IsAnswer (table_query tree filter shown []) (overlay db []) params all
    → all ≡ (output (table_query tree filter shown []) (params ∷ row ∷ [])).1 ∷ []
shows_one tree filter shown db params row all one a =
    let q = table_query tree filter shown [] in
    let staged : a.staged ≡ (params ∷ row ∷ []) ∷ [] = a.grouped ∙ one in
    let o : Output = output q (params ∷ row ∷ []) in
    let kept : a.kept ≡ o ∷ [] = a.distinct ∙ ap (map (output q)) staged in
    let ordered = one_permutation o a.ordered (subst (λ k. IsPermutation k a.ordered) kept a.same) in
    a.shown ∙ ap (λ xs. page q params (map (λ (p : Output). p.1) xs)) ordered

-- the rows of a table that pass
abbrev pub matching : List Term → Row → List Row → List Env
matching filter params rows = matches (λ _. rows) filter (inner 0 end) (params ∷ [])

-- the filter: the game has the id
abbrev pub with_id : List Term
with_id = equals (col 1 0) (col 0 0) ∷ []

-- the match of a game that is there
abbrev pub game_match : ℕ → Option (Key × GameRow) → List Env
game_match id None = []
game_match id (Some kept) = ((Int (pos id) ∷ []) ∷ game_row id kept.0 kept.1 ∷ []) ∷ []

step : (filter : List Term) (params r : Row) (rs : List Row) (b : Bool) → holds (params ∷ r ∷ []) (equals (col 1 0) (col 0 0)) ≡ b
    → matching with_id params (r ∷ rs) ≡ (if b then (params ∷ r ∷ []) ∷ [] else []) ++ matching with_id params rs
step filter params r rs true h = rw h refl
step filter params r rs false h = rw h refl

-- no game has an id below the first one
pub no_game : (id from : ℕ) (rows : List (Key × GameRow)) → id < from → matching with_id (Int (pos id) ∷ []) (game_rows from rows) ≡ []
no_game id from [] low = refl
no_game id from (kept ∷ rows) low =
    let other : (from == id) ≡ false = grind (arith, nat_tests) in
    step [] (Int (pos id) ∷ []) (game_row from kept.0 kept.1) (game_rows (from + 1) rows) false (same_number from id ∙ other)
    ∙ no_game id (from + 1) rows (omega arith)

-- the game with an id is the one at its place
pub one_game : (id from : ℕ) (rows : List (Key × GameRow)) → from ≤ id
    → matching with_id (Int (pos id) ∷ []) (game_rows from rows) ≡ game_match id (slice_get rows (id - from))
one_game id from [] low = refl
one_game id from (kept ∷ rows) low = elim (cases_Bool (from == id)) [
  | inl is ↦
      let same : from ≡ id = grind (arith, nat_tests) in
      let at : id - from ≡ 0 = omega arith in
      step [] (Int (pos id) ∷ []) (game_row from kept.0 kept.1) (game_rows (from + 1) rows) true (same_number from id ∙ is)
      ∙ rw (no_game id (from + 1) rows (omega arith), at, same) refl
  | inr is ↦
      let above : from + 1 ≤ id = grind (arith, nat_tests) in
      let at : id - from ≡ suc (id - (from + 1)) = omega arith in
      step [] (Int (pos id) ∷ []) (game_row from kept.0 kept.1) (game_rows (from + 1) rows) false (same_number from id ∙ is)
      ∙ one_game id (from + 1) rows above ∙ rw at refl
]
