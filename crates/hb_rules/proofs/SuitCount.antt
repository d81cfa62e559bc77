-- A variant has three to six suits, which are all different and in its first places.
use Rattle.std.proofs.Common.{◌≡◌, ◌≤◌, Bool, true, cond, List, [], ◌∷◌, refl, arith, length, Some, None, Option}
use Rattle.std.specs.Prelude.{◌&&◌, nat_le, filter_map, count_by, is_some}
use Rattle.std.specs.List.{list_any}
use Rattle.std.proofs.lemmas.List.Sums.{sum_by-cons}
use Rattle.hb_rules.specs.declared.limits.TheConstants.{FEWEST_SUITS, MOST_SUITS}
use Rattle.hb_rules.specs.declared.suits.Suit.{Suit}
use Rattle.hb_rules.specs.declared.variants.Variant.{Variant}
use Rattle.hb_rules.specs.Suits.{are_first, all_different, has_color, kind_of, stands_over}
use Rattle.hb_rules.specs.Cards.{suit_count}

-- what the test of a variant finds of its suits
pub record SuitTests (v : Variant) (suits : List Suit) : Type 0 where
  pub first : are_first v.suits ≡ true
  pub many : nat_le FEWEST_SUITS (length suits) ≡ true
  pub few : nat_le (length suits) MOST_SUITS ≡ true
  pub different : all_different suits ≡ true

first_four : (a b c d e f : Bool) → (a && b && c && d && e && f) ≡ true
    → (a ≡ true) × (b ≡ true) × (c ≡ true) × (d ≡ true)
first_four a b c d e f h = (grind arith, grind arith, grind arith, grind arith)

-- and it finds that in each variant
pub variant-tests : (v : Variant) → SuitTests v (filter_map (λ p. p) v.suits)
variant-tests v =
    let suits : List Suit = filter_map (λ p. p) v.suits in
    let parts = first_four (are_first v.suits) (nat_le FEWEST_SUITS (length suits)) (nat_le (length suits) MOST_SUITS)
    (all_different suits) (list_any (λ s. has_color (kind_of s)) suits) (stands_over v.special suits) v.valid in
    record { first = parts.0; many = parts.1; few = parts.2; different = parts.3 }

count_by-is_some : (places : List (Option Suit)) → count_by is_some places ≡ length (filter_map (λ p. p) places)
count_by-is_some [] = refl
count_by-is_some (None ∷ places) =
    omega (arith, sum_by-cons (λ (p : Option Suit). cond (is_some p) 1 0) None places, count_by-is_some places)
count_by-is_some (Some s ∷ places) =
    omega (arith, sum_by-cons (λ (p : Option Suit). cond (is_some p) 1 0) (Some s) places, count_by-is_some places)

-- a variant has at least three suits
pub suit_count-many : (v : Variant) → FEWEST_SUITS ≤ suit_count v
suit_count-many v =
    let many : nat_le FEWEST_SUITS (length (filter_map (λ p. p) v.suits)) ≡ true = (variant-tests v).many in
    let long : FEWEST_SUITS ≤ length (filter_map (λ p. p) v.suits) = grind arith in
    omega (arith, long, count_by-is_some v.suits)

-- and at most six
pub suit_count-few : (v : Variant) → suit_count v ≤ MOST_SUITS
suit_count-few v =
    let few : nat_le (length (filter_map (λ p. p) v.suits)) MOST_SUITS ≡ true = (variant-tests v).few in
    let short : length (filter_map (λ p. p) v.suits) ≤ MOST_SUITS = grind arith in
    omega (arith, short, count_by-is_some v.suits)
