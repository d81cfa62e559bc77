-- The six places of a list of suits, and the variant that they make.
use Rattle.std.proofs.Common.{◌≡◌, ℕ, ◌<◌, ◌≤◌, ◌-◌, Bool, true, false, List, [], ◌∷◌, ◌++◌, Option, Some, None, refl, arith, zero, suc, length, replicate, sym, ap, Bor}
use Rattle.std.specs.Prelude.{◌&&◌, map, filter_map, is_none, nat_le, slice_get, slice_index_or, MatchOption}
use Rattle.std.specs.List.{HoldsAt, list_all, list_any, range_with_len}
use Rattle.std.specs.Option.{option_copied}
use Rattle.std.proofs.lemmas.List.FromFn.{fill_by_all}
use Rattle.std.proofs.lemmas.Option.{slice_get-get_or, slice_get_past}
use Rattle.std.proofs.Math.Bool.{Bool-set}
use Rattle.hb_rules.specs.declared.suits.Suit.{Suit}
use Rattle.hb_rules.specs.declared.suits.Special.{Special}
use Rattle.hb_rules.specs.declared.variants.Variant.{Variant}
use Rattle.hb_rules.specs.Suits.{is_variant, are_first, all_different, has_color, kind_of, stands_over}
use Rattle.hb_suits.specs.Variants.{placed, tested, variant_with}

none-placed : (n : ℕ) → filter_map (λ (p : Option Suit). p) (replicate n None) ≡ []
none-placed zero = refl
none-placed (suc n) = none-placed n

all-empty : (n : ℕ) → list_all is_none (replicate {A = Option Suit} n None) ≡ true
all-empty zero = refl
all-empty (suc n) = all-empty n

are_first-empty : (n : ℕ) → are_first (replicate n None) ≡ true
are_first-empty zero = refl
are_first-empty (suc n) = all-empty n

filter_map-places : (suits : List Suit) (n : ℕ) → filter_map (λ (p : Option Suit). p) (map (λ s. Some s) suits ++ replicate n None) ≡ suits
filter_map-places [] n = none-placed n
filter_map-places (s ∷ suits) n = rw (filter_map-places suits n) refl

are_first-places : (suits : List Suit) (n : ℕ) → are_first (map (λ s. Some s) suits ++ replicate n None) ≡ true
are_first-places [] n = are_first-empty n
are_first-places (s ∷ suits) n = are_first-places suits n

-- the suits that are placed, read off their places
pub filter_map-placed : (suits : List Suit) → filter_map (λ p. p) (placed suits) ≡ suits
filter_map-placed suits = filter_map-places suits (6 - length suits)

-- the test of a variant, on its suits
pub is_variant-placed : (suits : List Suit) (special : Option Special) → is_variant (placed suits) special
    ≡ (nat_le 3 (length suits) && nat_le (length suits) 6 && all_different suits
    && list_any (λ s. has_color (kind_of s)) suits && stands_over special suits)
is_variant-placed suits special = rw (are_first-places suits (6 - length suits), filter_map-placed suits) refl

-- a variant has at most six suits
pub is_variant-few : (suits : List Suit) (special : Option Special) → is_variant (placed suits) special ≡ true → length suits ≤ 6
is_variant-few suits special is =
    let parts : (nat_le 3 (length suits) && nat_le (length suits) 6 && all_different suits
    && list_any (λ s. has_color (kind_of s)) suits && stands_over special suits)
    ≡ true =
    rw is_variant-placed at is in
    grind arith

by-index : (suits : List Suit) → length suits ≤ 6 → placed suits ≡ map (slice_get suits) (range_with_len 0 6)
by-index [] few = refl
by-index (a ∷ []) few = refl
by-index (a ∷ b ∷ []) few = refl
by-index (a ∷ b ∷ c ∷ []) few = refl
by-index (a ∷ b ∷ c ∷ d ∷ []) few = refl
by-index (a ∷ b ∷ c ∷ d ∷ e ∷ []) few = refl
by-index (a ∷ b ∷ c ∷ d ∷ e ∷ f ∷ []) few = refl
by-index (a ∷ b ∷ c ∷ d ∷ e ∷ f ∷ g ∷ suits) few = absurd (omega arith)

-- six places, each with the suit of its index, are the places of the suits
pub placed-filled : (suits : List Suit) (places : List (Option Suit)) → length suits ≤ 6 → length places ≡ 6
    → ((k : ℕ) → k < 6 → slice_index_or places k None ≡ slice_get suits k) → places ≡ placed suits
placed-filled suits places few long each = rw (by-index suits few) (fill_by_all (slice_get suits) places 6 None long each)

-- an equation of tests holds in one way
one-way : (a b : Bool) (p q : a ≡ b) → p ≡ q
one-way a b p q = Bool-set a b p q

tested-true : (v : Variant) (answer : Bool) (is : is_variant v.suits v.special ≡ answer) → answer ≡ true
    → tested v.suits v.special answer is ≡ Some v
tested-true v true is e = rw (one-way (is_variant v.suits v.special) true is v.valid) refl
tested-true v false is e = absurd (cc)

tested-false : (places : List (Option Suit)) (special : Option Special) (answer : Bool)
    (is : is_variant places special ≡ answer)
    → answer ≡ false → tested places special answer is ≡ None
tested-false places special true is e = cc
tested-false places special false is e = refl

-- what the test passes is the variant of its suits
pub variant_with-some : (suits : List Suit) (v : Variant) → v.suits ≡ placed suits → variant_with suits v.special ≡ Some v
unfolding variant_with
variant_with-some suits v e = rw (← e) (tested-true v (is_variant v.suits v.special) refl v.valid)

-- no variant of suits that are none
pub variant_with-none : (suits : List Suit) (special : Option Special)
    → is_variant (placed suits) special ≡ false → variant_with suits special ≡ None
unfolding variant_with
variant_with-none suits special e = tested-false (placed suits) special (is_variant (placed suits) special) refl e

-- what a look-up of a suit copies
pub option_copied-get : (suits : List Suit) (i : ℕ) (r : Option (Bor Suit))
    → MatchOption r (length suits ≤ i) (λ x. (i < length suits) × HoldsAt (λ s. x.now ≡ s) suits i)
    → option_copied r ≡ slice_get suits i
option_copied-get suits i None past = sym (slice_get_past suits i past)
option_copied-get suits i (Some x) h = rw (slice_get-get_or suits i x.now h.0) (ap (λ s. Some s) (h.1 x.now))
