-- What is listed for a name, step by step.
use Rattle.std.proofs.Common.{◌≡◌, ℕ, ◌+◌, ◌-◌, ◌<◌, ◌≤◌, zero, suc, List, [], ◌∷◌, ◌++◌, take, length, Bool, true, false, Some, None, refl, sym, ap, ◌∙◌, arith, append-nil, add-one, inl, inr, drop, length-append}
use Rattle.std.specs.Prelude.{slice_get, bytes_eq, ◌==◌, if◌then◌else◌, ◌||◌}
use Rattle.std.specs.List.{list_any}
use Rattle.std.proofs.Math.Seq.{take-suc, take-append_seam, get_or-append_seam}
use Rattle.std.proofs.lemmas.Bool.{cases_Bool, cases_eq}
use Rattle.std.proofs.lemmas.Bool.Decides.{Decides-eqb}
use Rattle.std.proofs.lemmas.List.{length-take-le, take-append-le, take-append-drop}
use Rattle.std.proofs.lemmas.List.Folds.{list_any-append}
use Rattle.std.proofs.lemmas.Slice.Eq.{bytes_eq-Decides}
use Rattle.std.proofs.lemmas.Option.{slice_get_cases, slice_get_past, slice_get_read, get_or_from_slice_get, slice_get_within}
use Rattle.hb_keeper.specs.declared.rows.Key.{Key}
use Rattle.hb_keeper.specs.declared.rows.GameRow.{GameRow}
use Rattle.hb_keeper.specs.declared.rows.Line.{Line}
use Rattle.hb_keeper.specs.KeptGames.{has_name, lines_from, line_of}
use Rattle.hb_keeper.specs.Listing.{Lists, IsListed, ListedFor, ListedForSome, is_last, lines_for, with_line, with_game}

differs : (a b : ℕ) → (a ≡ b → ⊥) → (a == b) ≡ false
differs a b other = elim (cases_Bool (a == b)) [
  | inl is ↦ absurd (other ((Decides-eqb a b).0 is))
  | inr is ↦ is
]

-- the last element of a list with one more
last-append : {A : Type 0} (xs : List A) (x : A) → slice_get (xs ++ x ∷ []) (length (xs ++ x ∷ []) - 1) ≡ Some x
last-append {A} xs x =
    let at : length (xs ++ x ∷ []) - 1 ≡ length xs = omega (arith, length-append {A = A}) in
    rw at (slice_get_read (xs ++ x ∷ []) (length (xs ++ x ∷ [])) (length xs) x refl (omega (arith, length-append {A = A}))
    (sym (get_or-append_seam xs x [] x)))

is_last-append : (lines : List Line) (line : Line) → is_last line.id (lines ++ line ∷ []) ≡ true
is_last-append lines line = rw (last-append lines line) ((Decides-eqb line.id line.id).1 refl)

-- a line is added once
pub with_line-twice : (lines : List Line) (line : Line) → with_line (with_line lines line) line ≡ with_line lines line
with_line-twice lines line = elim (cases_Bool (is_last line.id lines)) [
  | inl is ↦ rw is (rw is refl)
  | inr is ↦ rw is (rw (is_last-append lines line) refl)
]

-- the lines of one more game
pub lines_from-append : (from : ℕ) (name : List ℕ) (rows : List (Key × GameRow)) (kept : Key × GameRow)
    → lines_from from name (rows ++ kept ∷ []) ≡ lines_from from name rows
    ++ (if has_name name kept.1 then line_of (from + length rows) kept.1 ∷ [] else [])
lines_from-append from name [] kept =
    let at : from ≡ from + 0 = omega arith in
    ap (λ id. if has_name name kept.1 then line_of id kept.1 ∷ [] else []) at
lines_from-append from name (row ∷ rows) kept =
    let at : from + 1 + length rows ≡ from + length (row ∷ rows) = omega arith in
    let rest = rw at at (lines_from-append (from + 1) name rows kept) in
    elim (cases_Bool (has_name name row.1)) [
      | inl is ↦ rw is (ap (λ l. line_of from row.1 ∷ l) rest)
      | inr is ↦ rw is rest
    ]

-- each line has the id of one of the games
below_first : (from : ℕ) (name : List ℕ) (row : Key × GameRow) (rows : List (Key × GameRow)) (line : Line)
    → ((k : ℕ) → slice_get (lines_from (from + 1) name rows) k ≡ Some line → line.id < from + 1 + length rows)
    → (k : ℕ) → slice_get (line_of from row.1 ∷ lines_from (from + 1) name rows) k ≡ Some line → line.id < from + length (row ∷ rows)
below_first from name row rows line rest zero is =
    let same : line_of from row.1 ≡ line = cc in
    let id : from ≡ line.id = ap (λ (l : Line). l.id) same in
    omega arith
below_first from name row rows line rest (suc k) is = let less = rest k is in omega arith

lines_from-below : (from : ℕ) (name : List ℕ) (rows : List (Key × GameRow)) (line : Line) (k : ℕ)
    → slice_get (lines_from from name rows) k ≡ Some line → line.id < from + length rows
lines_from-below from name [] line k is = absurd cc
lines_from-below from name (row ∷ rows) line k is = elim (cases_Bool (has_name name row.1)) [
  | inl has ↦ below_first from name row rows line (lines_from-below (from + 1) name rows line) k (rw has at is)
  | inr has ↦ let less = lines_from-below (from + 1) name rows line k (rw has at is) in omega arith
]

-- no line of the games is of a later one
is_last-lines_from : (id : ℕ) (name : List ℕ) (rows : List (Key × GameRow)) → 1 + length rows ≤ id
    → is_last id (lines_from 1 name rows) ≡ false
is_last-lines_from id name rows later = elim ((slice_get_cases (lines_from 1 name rows) (length (lines_from 1 name rows) - 1)).1) [
  | inl (line, inside, is, at) ↦
      let less = lines_from-below 1 name rows line (length (lines_from 1 name rows) - 1) is in
      let other : line.id ≡ id → ⊥ = λ same. absurd (omega arith) in
      rw is (differs line.id id other)
  | inr (past, is) ↦ rw is refl
]

take_past : {A : Type 0} (xs : List A) (k : ℕ) → length xs ≤ k → take k xs ≡ xs
take_past [] zero past = refl
take_past [] (suc k) past = refl
take_past (x ∷ xs) zero past = absurd (omega arith)
take_past (x ∷ xs) (suc k) past = let less : length xs ≤ k = omega arith in ap (λ l. x ∷ l) (take_past xs k less)

slice_get-append : {A : Type 0} (xs ys : List A) (k : ℕ) → k < length xs → slice_get (xs ++ ys) k ≡ slice_get xs k
slice_get-append [] ys k within = absurd (omega arith)
slice_get-append (x ∷ xs) ys zero within = refl
slice_get-append (x ∷ xs) ys (suc k) within = let less : k < length xs = omega arith in slice_get-append xs ys k less

whole : {A : Type 0} (xs : List A) (n : ℕ) → length xs ≤ n → n ≤ length xs → take n xs ≡ take (n + 1) xs
whole xs n past within = take_past xs n past ∙ sym (take_past xs (n + 1) (omega arith))

-- the lines of the first games, with that of the next one, are those of one more game
pub with_game-lines_from : (rows : List (Key × GameRow)) (n : ℕ) (name : List ℕ) → n ≤ length rows
    → with_game (n + 1) name (slice_get rows n) (lines_from 1 name (take n rows)) ≡ lines_from 1 name (take (n + 1) rows)
with_game-lines_from rows n name within = elim ((slice_get_cases rows n).1) [
  | inl (kept, inside, is, at) ↦
      let long : length (take n rows) ≡ n = length-take-le n rows within in
      let more : take (n + 1) rows ≡ take n rows ++ kept ∷ [] = ap (λ k. take k rows) (add-one n) ∙ take-suc rows n kept inside
      ∙ ap (λ k. take n rows ++ k ∷ []) at in
      let id : 1 + length (take n rows) ≡ n + 1 = omega arith in
      let new : lines_from 1 name (take (n + 1) rows) ≡ lines_from 1 name (take n rows)
      ++ (if has_name name kept.1 then line_of (n + 1) kept.1 ∷ [] else []) =
      ap (lines_from 1 name) more ∙ lines_from-append 1 name (take n rows) kept
      ∙ ap (λ k. lines_from 1 name (take n rows) ++ (if has_name name kept.1 then line_of k kept.1 ∷ [] else [])) id in
      let last : is_last (n + 1) (lines_from 1 name (take n rows)) ≡ false = is_last-lines_from (n + 1) name (take n rows) (omega arith) in
      rw is (elim (cases_Bool (has_name name kept.1)) [
        | inl has ↦ rw has (rw last (sym (rw has at new)))
        | inr has ↦ rw has (sym (rw has at new ∙ append-nil (lines_from 1 name (take n rows))))
      ])
  | inr (past, is) ↦
      rw is (ap (lines_from 1 name) (whole rows n past (omega arith)))
]

-- the game after the first ones is listed for all its players
pub IsListed-more : (rows : List (Key × GameRow)) (kept : Key × GameRow) (old new : Lists) (count : ℕ) (line : Line)
    → IsListed rows old count
    → slice_get rows count ≡ Some kept → line ≡ line_of (count + 1) kept.1
    → ListedFor (λ name. list_any (bytes_eq name) kept.1.names) old new line
    → IsListed rows new (count + 1)
IsListed-more rows kept old new count line before at is each =
    let inside = slice_get_within rows count kept at in
    record {
      within = omega arith;
      lines = λ name.
          let one : lines_for new name ≡ lines_from 1 name (take (count + 1) rows) = each name
          ∙ ap (λ l. if has_name name kept.1 then with_line (lines_for old name) l else lines_for old name) is
          ∙ rw at at (before.lines name) in
          rw one (with_game-lines_from rows (count + 1) name (omega arith));
    }

-- the game after the first ones is listed for some of its players
pub IsListed-some : (rows : List (Key × GameRow)) (kept : Key × GameRow) (old new : Lists) (count : ℕ) (line : Line)
    → IsListed rows old count
    → slice_get rows count ≡ Some kept → line ≡ line_of (count + 1) kept.1
    → ListedForSome (λ name. list_any (bytes_eq name) kept.1.names) old new line
    → IsListed rows new count
IsListed-some rows kept old new count line before at is some = record {
  within = before.within;
  lines = λ name. rw at (elim (some name) [
    | inl same ↦ rw same (rw at at (before.lines name))
    | inr (has, more) ↦
        let twice = with_line-twice (lines_for old name) (line_of (count + 1) kept.1) in
        let first : with_line (lines_for old name) (line_of (count + 1) kept.1) ≡ lines_from 1 name (take (count + 1) rows) = rw
        (at, has) at (before.lines name) in
        rw (more, is, has) (twice ∙ first)
  ]);
}

-- one more game is kept, and not listed yet
pub IsListed-append : (rows : List (Key × GameRow)) (kept : Key × GameRow) (lists : Lists) (count : ℕ) → IsListed rows lists count
    → IsListed (rows ++ kept ∷ []) lists count
IsListed-append rows kept lists count before = elim (cases_eq count (length rows)) [
  | inl all ↦ record {
    within = omega (arith, length-append {A = Key × GameRow});
    lines = λ name.
        let none : slice_get rows count ≡ None = slice_get_past rows count (omega arith) in
        let same : take (count + 1) rows ≡ rows = take_past rows (count + 1) (omega arith) in
        let listed : lines_for lists name ≡ lines_from 1 name rows = rw (none, same) at (before.lines name) in
        let front : take count (rows ++ kept ∷ []) ≡ rows = ap (λ n. take n (rows ++ kept ∷ [])) all
        ∙ take-append_seam rows (kept ∷ []) in
        let next = with_game-lines_from (rows ++ kept ∷ []) count name (omega (arith, length-append {A = Key × GameRow})) in
        rw listed (rw front at next);
  }
  | inr some ↦
      let less : count < length rows = let within = before.within in omega arith in
      record {
        within = omega (arith, length-append {A = Key × GameRow});
        lines = λ name. rw (slice_get-append rows (kept ∷ []) count less, take-append-le (count + 1) rows (kept ∷ []) (omega arith))
            (before.lines name);
      }
]

turned : (a b : List ℕ) → bytes_eq a b ≡ bytes_eq b a
turned a b = elim (cases_Bool (bytes_eq a b)) [
  | inl is ↦ is ∙ sym ((bytes_eq-Decides b a).1 (sym ((bytes_eq-Decides a b).0 is)))
  | inr is ↦ elim (cases_Bool (bytes_eq b a)) [
    | inl other ↦ absurd (let yes = (bytes_eq-Decides a b).1 (sym ((bytes_eq-Decides b a).0 other)) in cc)
    | inr other ↦ is ∙ sym other
  ]
]

both : (in_front is : Bool) (old mid : List Line) (line : Line) → mid ≡ (if in_front then with_line old line else old)
    → (if is then with_line mid line else mid) ≡ (if in_front || (is || false) then with_line old line else old)
both true true old mid line before = rw before (with_line-twice old line)
both true false old mid line before = before
both false true old mid line before = rw before refl
both false false old mid line before = before

any-take : (p : List ℕ → Bool) (names : List (List ℕ)) (k : ℕ) → list_any p (take k names) ≡ true → list_any p names ≡ true
any-take p names k is =
    ap (list_any p) (sym (take-append-drop k names)) ∙ list_any-append p (take k names) (drop k names)
    ∙ ap (λ b. b || list_any p (drop k names)) is

-- a line is listed for one more name
pub ListedFor-more : (names : List (List ℕ)) (k : ℕ) (item : List ℕ) (old mid new : Lists) (line : Line) → slice_get names k ≡ Some item
    → ListedFor (λ name. list_any (bytes_eq name) (take k names)) old mid line → ListedFor (bytes_eq item) mid new line
    → ListedFor (λ name. list_any (bytes_eq name) (take (k + 1) names)) old new line
ListedFor-more names k item old mid new line here before one = λ name.
    let more : list_any (bytes_eq name) (take (k + 1) names) ≡
    (list_any (bytes_eq name) (take k names) || list_any (bytes_eq name) (item ∷ [])) =
    ap (list_any (bytes_eq name)) (ap (λ n. take n names) (add-one k) ∙ take-suc names k item (slice_get_within names k item here)
    ∙ ap (λ x. take k names ++ x ∷ []) (get_or_from_slice_get names k item item here))
    ∙ list_any-append (bytes_eq name) (take k names) (item ∷ []) in
    rw (more, turned name item) (one name
    ∙ both (list_any (bytes_eq name) (take k names)) (bytes_eq item name) (lines_for old name) (lines_for mid name) line (before name))

-- a line is listed for some names
pub ListedForSome-take : (names : List (List ℕ)) (k : ℕ) (old mid new : Lists) (line : Line)
    → ListedFor (λ name. list_any (bytes_eq name) (take k names)) old mid line → ((name : List ℕ) → lines_for new name ≡ lines_for mid name)
    → ListedForSome (λ name. list_any (bytes_eq name) names) old new line
ListedForSome-take names k old mid new line before same = λ name. elim (cases_Bool (list_any (bytes_eq name) (take k names))) [
  | inl is ↦ inr (any-take (bytes_eq name) names k is, same name ∙ (rw is at (before name)))
  | inr is ↦ inl (same name ∙ (rw is at (before name)))
]
