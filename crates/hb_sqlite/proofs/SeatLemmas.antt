-- Which row of `seats` a game's seat has.
use Rattle.std.proofs.Common.{◌≡◌, inl, inr, ℕ, ◌+◌, ◌-◌, ◌<◌, ◌≤◌, suc, pos, List, [], ◌∷◌, ◌++◌, length, Bool, true, false, Some, None, Option, refl, ap, ◌∙◌, arith}
use Rattle.std.specs.Prelude.{◌==◌, slice_get, if◌then◌else◌}
use Rattle.std.proofs.lemmas.Bool.{cases_Bool}
use Rattle.std.proofs.lemmas.Bool.Decides.{nat_tests}
use Rattle.sqlite_value.specs.declared.value.Value.TheVariants.{Int, Text as Words}
use Rattle.sqlite_value.specs.Order.{Row}
use Rattle.sqlite_sql.specs.Term.{Term, Env, col, holds}
use Rattle.hb_keeper.specs.declared.rows.Key.{Key}
use Rattle.hb_keeper.specs.declared.rows.GameRow.{GameRow}
use Rattle.hb_sqlite.specs.StoreTables.{seats_from, seat_rows, numbered_from}
use Rattle.hb_sqlite.proofs.Texts.{equals}
use Rattle.hb_sqlite.proofs.SelectLemmas.{matching, same_number}

-- the filter: game and seat are these
abbrev pub of_seat : List Term
of_seat = equals (col 1 1) (col 0 0) ∷ equals (col 1 2) (col 0 1) ∷ []

other_game : (params r : Row) (rs : List Row) → holds (params ∷ r ∷ []) (equals (col 1 1) (col 0 0)) ≡ false
    → matching of_seat params (r ∷ rs) ≡ matching of_seat params rs
other_game params r rs h = rw h refl

same_game : (params r : Row) (rs : List Row) (b : Bool) → holds (params ∷ r ∷ []) (equals (col 1 1) (col 0 0)) ≡ true
    → holds (params ∷ r ∷ []) (equals (col 1 2) (col 0 1)) ≡ b
    → matching of_seat params (r ∷ rs) ≡ (if b then (params ∷ r ∷ []) ∷ [] else []) ++ matching of_seat params rs
same_game params r rs true g h = rw (g, h) refl
same_game params r rs false g h = rw (g, h) refl

-- the row that is found, if there is one, under some rowid
abbrev pub Finds : Row → Option (List ℕ) → ℕ → ℕ → List Env → Type 0
Finds params None game seat found = found ≡ []
Finds params (Some name) game seat found = (n : ℕ)
    × (found ≡ (params ∷ (Int (pos n) ∷ Int (pos game) ∷ Int (pos seat) ∷ Words name ∷ []) ∷ []) ∷ [])

module _ (game seat : ℕ) where
  abbrev params : Row
  params = Int (pos game) ∷ Int (pos seat) ∷ []

  skip_game : (n g s : ℕ) (names : List (List ℕ)) (more : List Row) → (g == game) ≡ false
      → matching of_seat params (numbered_from n (seats_from g s names
      ++ more)) ≡ matching of_seat params (numbered_from (n + length names) more)
  skip_game n g s [] more other = ap (λ k. matching of_seat params (numbered_from k more)) (omega arith)
  skip_game n g s (name ∷ names) more other =
      other_game params (Int (pos n) ∷ Int (pos g) ∷ Int (pos s) ∷ Words name ∷ []) (numbered_from (n + 1) (seats_from g (s + 1) names
      ++ more)) (same_number g game ∙ other)
      ∙ skip_game (n + 1) g (s + 1) names more other ∙ ap (λ k. matching of_seat params (numbered_from k more)) (omega arith)

  skip_low : (n s : ℕ) (names : List (List ℕ)) (more : List Row) → seat < s
      → matching of_seat params (numbered_from n (seats_from game s names
      ++ more)) ≡ matching of_seat params (numbered_from (n + length names) more)
  skip_low n s [] more low = ap (λ k. matching of_seat params (numbered_from k more)) (omega arith)
  skip_low n s (name ∷ names) more low =
      let is : (game == game) ≡ true = grind (arith, nat_tests) in
      let other : (s == seat) ≡ false = grind (arith, nat_tests) in
      same_game params (Int (pos n) ∷ Int (pos game) ∷ Int (pos s) ∷ Words name ∷ []) (numbered_from (n + 1) (seats_from game
      (s + 1) names ++ more)) false (same_number game game ∙ is) (same_number s seat ∙ other)
      ∙ skip_low (n + 1) (s + 1) names more (omega arith) ∙ ap (λ k. matching of_seat params (numbered_from k more)) (omega arith)

  -- no row of a later game's seats is of this game
  pub none_later : (n from : ℕ) (rows : List (Key × GameRow)) → game < from
      → matching of_seat params (numbered_from n (seat_rows from rows)) ≡ []
  none_later n from [] low = refl
  none_later n from (kept ∷ rows) low =
      let other : (from == game) ≡ false = grind (arith, nat_tests) in
      skip_game n from 0 kept.1.names (seat_rows (from + 1) rows) other ∙ none_later (n + length kept.1.names) (from + 1) rows (omega arith)

  in_game : (n s : ℕ) (names : List (List ℕ)) (more : List Row) → s ≤ seat → ((k : ℕ) → matching of_seat params (numbered_from k more) ≡ [])
      → Finds params (slice_get names (seat - s)) game seat (matching of_seat params (numbered_from n (seats_from game s names ++ more)))
  in_game n s [] more low none = none n
  in_game n s (name ∷ names) more low none = elim (cases_Bool (s == seat)) [
    | inl is ↦
        let same : s ≡ seat = grind (arith, nat_tests) in
        let at : seat - s ≡ 0 = omega arith in
        let here : (game == game) ≡ true = grind (arith, nat_tests) in
        let found = same_game params (Int (pos n) ∷ Int (pos game) ∷ Int (pos s) ∷ Words name ∷ []) (numbered_from (n + 1) (seats_from game
        (s + 1) names ++ more)) true (same_number game game ∙ here) (same_number s seat ∙ is) in
        rw at (n, found ∙ rw (skip_low (n + 1) (s + 1) names more (omega arith), none (n + 1 + length names), same) refl)
    | inr is ↦
        let above : s + 1 ≤ seat = grind (arith, nat_tests) in
        let at : seat - s ≡ suc (seat - (s + 1)) = omega arith in
        let here : (game == game) ≡ true = grind (arith, nat_tests) in
        let found = same_game params (Int (pos n) ∷ Int (pos game) ∷ Int (pos s) ∷ Words name ∷ []) (numbered_from (n + 1) (seats_from game
        (s + 1) names ++ more)) false (same_number game game ∙ here) (same_number s seat ∙ is) in
        rw at (rw found (in_game (n + 1) (s + 1) names more above none))
  ]

  -- the name at the seat
  abbrev pub name_at : Option (Key × GameRow) → Option (List ℕ)
  name_at None = None
  name_at (Some kept) = slice_get kept.1.names seat

  -- the row of a seat of a game has the name that the content has there, if there is one
  pub finds_seat : (n from : ℕ) (rows : List (Key × GameRow)) → from ≤ game
      → Finds params (name_at (slice_get rows (game - from))) game seat (matching of_seat params (numbered_from n (seat_rows from rows)))
  finds_seat n from [] low = refl
  finds_seat n from (kept ∷ rows) low = elim (cases_Bool (from == game)) [
    | inl is ↦
        let same : from ≡ game = grind (arith, nat_tests) in
        let at : game - from ≡ 0 = omega arith in
        let all : seat - 0 ≡ seat = omega arith in
        let found = in_game n 0 kept.1.names (seat_rows (game + 1) rows) (omega arith) (λ k. none_later k (game + 1) rows (omega arith)) in
        rw (at, same) (rw all at found)
    | inr is ↦
        let above : from + 1 ≤ game = grind (arith, nat_tests) in
        let at : game - from ≡ suc (game - (from + 1)) = omega arith in
        rw (at, skip_game n from 0 kept.1.names (seat_rows (from + 1) rows) is) (finds_seat (n + length kept.1.names) (from + 1) rows above)
  ]
