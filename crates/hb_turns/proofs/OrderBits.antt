-- The word that has the bits of a list.
use Rattle.std.proofs.Common.{◌≡◌, ℕ, ◌+◌, ◌*◌, ◌%◌, ◌<◌, ◌^◌, Bool, true, false, List, [], ◌∷◌, ◌++◌, refl, arith, append-nil, sym, ap, ◌∙◌, length, take}
use Rattle.std.specs.Prelude.{◌==◌, bit_or, filter, slice_index}
use Rattle.std.specs.Int.Bits.{or_zero_l, or_zero_r}
use Rattle.std.proofs.lemmas.Nat.{pow_pos, le_or_l, one_shl}
use Rattle.std.proofs.lemmas.Nat.Bits.{bit_at_or, same_from_bits}
use Rattle.std.proofs.lemmas.List.Elements.{filter_more}
use Rattle.hb_rules.specs.Events.{bits}
use Rattle.hb_rules.specs.Legality.{is_empty}

or_assoc : (a b c : ℕ) → bit_or a (bit_or b c) ≡ bit_or (bit_or a b) c
or_assoc a b c =
    same_from_bits _ _
    (λ i.
    omega (arith, bit_at_or a (bit_or b c) i, bit_at_or b c i, bit_at_or (bit_or a b) c i, bit_at_or a b i))

-- one more number at the end of the list
bits-push : (xs : List ℕ) (k : ℕ) → bits (xs ++ k ∷ []) ≡ bit_or (bits xs) (2 ^ k)
bits-push [] k = rw (or_zero_r, or_zero_l) refl
bits-push (x ∷ xs) k = ap (bit_or (2 ^ x)) (bits-push xs k) ∙ or_assoc (2 ^ x) (bits xs) (2 ^ k)

-- one more number of a list that is filtered: its bit is set where it passes
pub bits-passed : (p : ℕ → Bool) (xs : List ℕ) (i : ℕ) → i < length xs → slice_index xs i < 64 → p (slice_index xs i) ≡ true
    → bit_or (bits (filter p (take i xs))) (1 * 2 ^ slice_index xs i % 18446744073709551616) ≡ bits (filter p (take (i + 1) xs))
bits-passed p xs i low small passes =
    rw (one_shl (slice_index xs i) 64 small, filter_more p xs i 0 low, passes)
    (sym (bits-push (filter p (take i xs)) (slice_index xs i)))

-- one more number that does not pass changes nothing
pub bits-left_out : (p : ℕ → Bool) (xs : List ℕ) (i : ℕ) → i < length xs → p (slice_index xs i) ≡ false
    → bits (filter p (take i xs)) ≡ bits (filter p (take (i + 1) xs))
bits-left_out p xs i low fails = rw (filter_more p xs i 0 low, fails, append-nil) refl

-- no bit is set where the list is empty
pub bits_none : (xs : List ℕ) → (bits xs == 0) ≡ is_empty xs
bits_none [] = refl
bits_none (x ∷ xs) = let one : 0 < bit_or (2 ^ x) (bits xs) = omega (arith, pow_pos x, le_or_l (2 ^ x) (bits xs)) in grind arith
