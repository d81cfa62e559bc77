-- The sets that clues touch, one clue after another.
use Rattle.std.proofs.Common.{◌≡◌, ◌≢◌, ℕ, ◌+◌, ◌<◌, ◌≤◌, ⊎_elim, Bool, true, List, arith, length}
use Rattle.std.specs.Prelude.{slice_index, slice_set, nat_lt}
use Rattle.std.proofs.lemmas.Bool.{cases_eq}
use Rattle.std.proofs.lemmas.List.{get_or-set_same, get_or-set_other}
use Rattle.std.proofs.lemmas.List.Sums.{length-filter, count_by-le-length}
use Rattle.hb_rules.specs.declared.acts.Clue.TheVariants as clue
use Rattle.hb_rules.specs.declared.variants.Variant.{Variant}
use Rattle.hb_rules.specs.Cards.{suit_at}
use Rattle.hb_rules.specs.Suits.{has_color}
use Rattle.hb_rules.specs.Touch.{offers, colors, suit_kind}
use Rattle.std.specs.List.{range_with_len}

-- what holds of each number below i, and of i where it is written
pub set-below : (P : ℕ → ℕ → Type 0) (xs : List ℕ) (i w : ℕ) → i < length xs
    → ((c : ℕ) → c < i → P c (slice_index xs c)) → P i w → (c : ℕ) → c < i + 1 → P c (slice_index (slice_set xs i w) c)
set-below P xs i w low before here c near = ⊎_elim
    (λ (e : c ≡ i). rw e (rw get_or-set_same here))
    (λ (ne : c ≢ i). rw get_or-set_other (before c (omega arith)))
    (cases_eq c i)

nat_lt-true : (a b : ℕ) → nat_lt a b ≡ true → a < b
nat_lt-true a b h = grind arith

-- a variant has at most six clue colours
pub colors-le : (v : Variant) → length (colors v) ≤ 6
colors-le v = let p : ℕ → Bool = λ i. has_color (suit_kind (suit_at v i)) in
    omega (arith, length-filter p (range_with_len 0 6), count_by-le-length p (range_with_len 0 6))

-- and so a colour clue that it offers has one of six indices
pub color-lt : (v : Variant) (c : ℕ) → offers v (clue.Color c) ≡ true → c < 6
color-lt v c offered = let low : c < length (colors v) = nat_lt-true c (length (colors v)) offered in omega (arith, low, colors-le v)
