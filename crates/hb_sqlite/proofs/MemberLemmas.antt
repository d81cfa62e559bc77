-- The seats with a name.
use Rattle.std.proofs.Common.{◌≡◌, ℕ, ◌+◌, pos, List, [], ◌∷◌, ◌++◌, map, length, Bool, true, false, Some, refl, sym, ap, subst, ◌∙◌, arith, inl, inr}
use Rattle.std.specs.Prelude.{bytes_eq, if◌then◌else◌}
use Rattle.std.specs.Ordering.{is_eq, nat_cmp, ordering_then}
use Rattle.std.specs.declared.cmp.Ordering.TheVariants.{Less, Equal}
use Rattle.std.specs.List.{AllByRecursion}
use Rattle.std.specs.List.Sorted.{IsPermutation}
use Rattle.std.proofs.lemmas.Bool.Decides.{nat_tests}
use Rattle.std.proofs.Common.{◌<◌}
use Rattle.sqlite_value.proofs.OrderLemmas.{value_cmp-Int}
use Rattle.sqlite_trees.specs.Tree.{Trees, IsAscending}
use Rattle.sqlite_sql.specs.Program.{overlay}
use Rattle.sqlite_sql.proofs.QueryLemmas.{output_cmp_total}
use Rattle.sqlite_keyed.proofs.ListLemmas.{all-append, ascending-append}
use Rattle.sqlite_keyed.proofs.SortLemmas.{sorted_unique}
use Rattle.hb_sqlite.proofs.GameLemmas.{value_cmp-below}
use Rattle.std.proofs.Common.{◌≤◌, Result, IfOk, IfErr}
use Rattle.sqlite_trees.specs.View.{doubt}
use Rattle.sqlite.specs.declared.error.Error.{Error}
use Rattle.sqlite.specs.State.{State, HasCleanDisk, Shown, FailsToQuery}
use Rattle.sqlite.proofs.Callers.{reads_as}
use Rattle.hb_keeper.specs.KeptGames.{Content}
use Rattle.hb_sqlite.specs.Store.{store_schema}
use Rattle.hb_sqlite.specs.StoreSteps.{Reads}
use Rattle.hb_sqlite.proofs.Gets.{all_rows}
use Rattle.std.specs.Cmp.Lexicographic.{slice_cmp, texts_ties}
use Rattle.std.proofs.lemmas.Bool.{cases_Bool}
use Rattle.sqlite_value.specs.declared.value.Value.TheVariants.{Null, Int, Text as Words}
use Rattle.sqlite_value.specs.declared.keys.Collation.TheVariants.{Binary}
use Rattle.sqlite_value.specs.Order.{Row, value_cmp}
use Rattle.sqlite_sql.specs.declared.ops.BinaryOp.TheVariants.{Compare}
use Rattle.sqlite_sql.specs.declared.ops.CompareOp.TheVariants.{Eq}
use Rattle.sqlite_sql.specs.Ops.{binary, is_true, from_truth}
use Rattle.sqlite_sql.specs.Term.{Term, col, holds}
use Rattle.sqlite_sql.specs.Query.{IsAnswer, output, output_cmp, page, Output}
use Rattle.hb_keeper.specs.declared.rows.Key.{Key}
use Rattle.hb_keeper.specs.declared.rows.GameRow.{GameRow}
use Rattle.hb_sqlite.specs.StoreTables.{Tells, seats_from, seat_rows, numbered_from, id_row}
use Rattle.hb_sqlite.proofs.Texts.{equals, games_of, games_of_text, games_of_is, games_of_plain}
use Rattle.hb_sqlite.proofs.SelectLemmas.{matching}

told : (b : Bool) → is_true (from_truth (Some b)) ≡ b
told true = refl
told false = refl

by_bytes : (a b : List ℕ) → value_cmp (Words a) (Words b) ≡ slice_cmp nat_cmp a b
unfolding value_cmp lib.Ieee.is_nan lib.Ieee.lt
by_bytes a b = refl

-- two texts are equal as SQL compares them exactly where their bytes are
pub same_text : (a b : List ℕ) → is_true (binary (Compare Eq Binary) (Words a) (Words b)) ≡ bytes_eq a b
unfolding binary
same_text a b = told (is_eq (value_cmp (Words a) (Words b))) ∙ ap is_eq (by_bytes a b) ∙ sym (texts_ties a b)

-- the filter: the seat has the name
abbrev pub of_name : List Term
of_name = equals (col 1 3) (col 0 0) ∷ []

step : (params r : Row) (rs : List Row) (b : Bool) → holds (params ∷ r ∷ []) (equals (col 1 3) (col 0 0)) ≡ b
    → matching of_name params (r ∷ rs) ≡ (if b then (params ∷ r ∷ []) ∷ [] else []) ++ matching of_name params rs
step params r rs true h = rw h refl
step params r rs false h = rw h refl

-- what a seat with the name shows: what it is sorted by, and its game
abbrev pub seat_output : ℕ → ℕ → Output
seat_output game seat = (Int (pos game) ∷ Int (pos seat) ∷ [], id_row game)

-- the seats with the name, in order of games and seats
abbrev pub outputs_from : List ℕ → ℕ → ℕ → List (List ℕ) → List Output
outputs_from name game seat [] = []
outputs_from name game seat (other ∷ names) = if bytes_eq other name then seat_output game seat ∷ outputs_from name game
    (seat + 1) names else outputs_from name game (seat + 1) names

-- what is shown of all seats with the name, and what it is ordered by
abbrev pub outputs_of : List ℕ → ℕ → List (Key × GameRow) → List Output
outputs_of name id [] = []
outputs_of name id (kept ∷ rows) = outputs_from name id 0 kept.1.names ++ outputs_of name (id + 1) rows

in_game : (name : List ℕ) (n game seat : ℕ) (names : List (List ℕ)) (more : List Row)
    → map (output games_of) (matching of_name (Words name ∷ []) (numbered_from n (seats_from game seat names ++ more)))
    ≡ outputs_from name game seat names
    ++ map (output games_of) (matching of_name (Words name ∷ []) (numbered_from (n + length names) more))
in_game name n game seat [] more = ap (λ k. map (output games_of) (matching of_name (Words name ∷ []) (numbered_from k more))) (omega arith)
in_game name n game seat (other ∷ names) more = elim (cases_Bool (bytes_eq other name)) [
  | inl is ↦
      let one = step (Words name ∷ []) (Int (pos n) ∷ Int (pos game) ∷ Int (pos seat) ∷ Words other ∷ []) (numbered_from (n + 1)
      (seats_from game (seat + 1) names ++ more)) true (same_text other name ∙ is) in
      let at : numbered_from (n + 1 + length names) more ≡ numbered_from (n + length {A = List ℕ} (other ∷ names)) more = ap
      (λ k. numbered_from k more) (omega arith) in
      ap (map (output games_of)) one ∙ rw is (ap (λ all. seat_output game seat ∷ all) (in_game name (n + 1) game (seat + 1) names more
      ∙ ap (λ rows. outputs_from name game (seat + 1) names ++ map (output games_of) (matching of_name (Words name ∷ []) rows)) at))
  | inr is ↦
      let one = step (Words name ∷ []) (Int (pos n) ∷ Int (pos game) ∷ Int (pos seat) ∷ Words other ∷ []) (numbered_from (n + 1)
      (seats_from game (seat + 1) names ++ more)) false (same_text other name ∙ is) in
      let at : numbered_from (n + 1 + length names) more ≡ numbered_from (n + length {A = List ℕ} (other ∷ names)) more = ap
      (λ k. numbered_from k more) (omega arith) in
      ap (map (output games_of)) one ∙ rw is (in_game name (n + 1) game (seat + 1) names more
      ∙ ap (λ rows. outputs_from name game (seat + 1) names ++ map (output games_of) (matching of_name (Words name ∷ []) rows)) at)
]

-- what the matches of the query show
pub shows_member : (name : List ℕ) (n id : ℕ) (rows : List (Key × GameRow))
    → map (output games_of) (matching of_name (Words name ∷ []) (numbered_from n (seat_rows id rows))) ≡ outputs_of name id rows
shows_member name n id [] = refl
shows_member name n id (kept ∷ rows) =
    in_game name n id 0 kept.1.names (seat_rows (id + 1) rows) ∙ ap (λ all. outputs_from name id 0 kept.1.names
    ++ all) (shows_member name (n + length kept.1.names) (id + 1) rows)

abbrev Below : Output → Output → Type 0
Below a b = output_cmp games_of a b ≡ Less

later_game : (g h s t : ℕ) → g < h → Below (seat_output g s) (seat_output h t)
later_game g h s t lt = ap (λ o. ordering_then o (ordering_then (value_cmp (Int (pos s)) (Int (pos t))) Equal)) (value_cmp-below g h lt)

later_seat : (g s t : ℕ) → s < t → Below (seat_output g s) (seat_output g t)
later_seat g s t lt =
    let same : value_cmp (Int (pos g)) (Int (pos g)) ≡ Equal = value_cmp-Int (pos g) (pos g) ∙ grind (arith, nat_tests) in
    ap (λ o. ordering_then o (ordering_then (value_cmp (Int (pos s)) (Int (pos t))) Equal)) same
    ∙ ap (λ o. ordering_then o Equal) (value_cmp-below s t lt)

above_seat : (name : List ℕ) (g s t : ℕ) (names : List (List ℕ)) → s < t
    → AllByRecursion (Below (seat_output g s)) (outputs_from name g t names)
above_seat name g s t [] lt = tt
above_seat name g s t (other ∷ names) lt = elim (cases_Bool (bytes_eq other name)) [
  | inl is ↦ rw is (later_seat g s t lt, above_seat name g s (t + 1) names (omega arith))
  | inr is ↦ rw is (above_seat name g s (t + 1) names (omega arith))
]

rises_from : (name : List ℕ) (g s : ℕ) (names : List (List ℕ)) → IsAscending Below (outputs_from name g s names)
rises_from name g s [] = tt
rises_from name g s (other ∷ names) = elim (cases_Bool (bytes_eq other name)) [
  | inl is ↦ rw is (above_seat name g s (s + 1) names (omega arith), rises_from name g (s + 1) names)
  | inr is ↦ rw is (rises_from name g (s + 1) names)
]

above_names : (name : List ℕ) (g s h t : ℕ) (names : List (List ℕ)) → g < h
    → AllByRecursion (Below (seat_output g s)) (outputs_from name h t names)
above_names name g s h t [] lt = tt
above_names name g s h t (other ∷ names) lt = elim (cases_Bool (bytes_eq other name)) [
  | inl is ↦ rw is (later_game g h s t lt, above_names name g s h (t + 1) names lt)
  | inr is ↦ rw is (above_names name g s h (t + 1) names lt)
]

above_games : (name : List ℕ) (g s h : ℕ) (rows : List (Key × GameRow)) → g < h
    → AllByRecursion (Below (seat_output g s)) (outputs_of name h rows)
above_games name g s h [] lt = tt
above_games name g s h (kept ∷ rows) lt =
    all-append (Below (seat_output g s)) (outputs_from name h 0 kept.1.names) (outputs_of name (h + 1) rows)
    (above_names name g s h 0 kept.1.names lt) (above_games name g s (h + 1) rows (omega arith))

each_above : (name : List ℕ) (g s : ℕ) (names : List (List ℕ)) (rows : List (Key × GameRow))
    → AllByRecursion (λ o. AllByRecursion (Below o) (outputs_of name (g + 1) rows)) (outputs_from name g s names)
each_above name g s [] rows = tt
each_above name g s (other ∷ names) rows = elim (cases_Bool (bytes_eq other name)) [
  | inl is ↦ rw is (above_games name g s (g + 1) rows (omega arith), each_above name g (s + 1) names rows)
  | inr is ↦ rw is (each_above name g (s + 1) names rows)
]

-- the seats are in order of games and seats
pub in-order : (name : List ℕ) (id : ℕ) (rows : List (Key × GameRow)) → IsAscending Below (outputs_of name id rows)
in-order name id [] = tt
in-order name id (kept ∷ rows) =
    ascending-append Below (outputs_from name id 0 kept.1.names) (outputs_of name (id + 1) rows) (rises_from name id 0 kept.1.names)
    (in-order name (id + 1) rows) (each_above name id 0 kept.1.names rows)

-- what the query shows: the game of each seat with the name, in order
pub member_rows : (name : List ℕ) (rows : List (Key × GameRow)) (db : Trees) (all : List Row) → db 4 ≡ numbered_from 1 (seat_rows 1 rows)
    → IsAnswer games_of (overlay db []) (Words name ∷ []) all
    → all ≡ map (λ (o : Output). o.1) (outputs_of name 1 rows)
member_rows name rows db all seats a =
    let staged : a.staged ≡ matching of_name (Words name ∷ []) (numbered_from 1 (seat_rows 1 rows)) = a.grouped
    ∙ ap (matching of_name (Words name ∷ [])) seats in
    let kept : a.kept ≡ outputs_of name 1 rows = a.distinct ∙ ap (map (output games_of)) staged ∙ shows_member name 1 1 rows in
    let ordered = sorted_unique (output_cmp games_of) (output_cmp_total games_of) (outputs_of name 1 rows) a.ordered (in-order name 1 rows)
    (subst (λ k. IsPermutation k a.ordered) kept a.same) a.sorted in
    a.shown ∙ ap (λ xs. page games_of (Words name ∷ []) (map (λ (o : Output). o.1) xs)) ordered

-- the query for a name answers the game of each of its seats
pub reads_member : (old new : State) (name : List ℕ) (content : Content) (all : List Row) → Tells old content
    → Shown games_of_text (Words name ∷ []) old new all
    → all ≡ map (λ (o : Output). o.1) (outputs_of name 1 content.rows)
reads_member old new name content all tells h =
    let a = (reads_as games_of_text
    (Words name ∷ []) old new store_schema tells.schema _ games_of_is.0 games_of_plain games_of_is.1 all h).answer Null in
    member_rows name content.rows old.now.trees all tells.seats a

-- what the query for a name answers, or that it fails
pub member_found : {A : Type 0} (items : A → List Row) (old new : State) (name : List ℕ) (r : Result A Error)
    → doubt old.is_clean ≤ doubt new.is_clean
    → (HasCleanDisk new → IfOk r (λ rows. Shown games_of_text (Words name ∷ []) old new (items rows))) → (HasCleanDisk new
    → IfErr r (FailsToQuery games_of_text (Words name ∷ []) old new))
    → Reads old new (λ content rows. items rows ≡ map (λ (o : Output). o.1) (outputs_of name 1 content.rows)) r
member_found items old new name r less =
    all_rows old new games_of_text (Words name ∷ []) games_of_plain (λ content all. all ≡ map (λ (o : Output). o.1)
    (outputs_of name 1 content.rows))
    (λ content all tells h. reads_member old new name content all tells h) less items r
