-- The members of a set, from the least to the greatest.
use Rattle.std.proofs.Common.{◌≡◌, ℕ, ◌+◌, ◌-◌, ◌/◌, ◌%◌, ◌^◌, ◌<◌, ◌≤◌, Bool, true, false, List, [], ◌∷◌, ◌++◌, refl, sym, ap, ◌∙◌, arith, zero, suc, w64, append-nil}
use Rattle.std.specs.Prelude.{◌==◌, filter}
use Rattle.std.specs.List.{range_with_len}
use Rattle.std.specs.Int.Count.{count_trailing_zeros}
use Rattle.std.proofs.lemmas.Nat.{pow_pos}
use Rattle.std.proofs.lemmas.Nat.Bits.{bit_at_cat_high, bit_at-trailing_zeros}
use Rattle.std.proofs.Math.Nat.{mod-lt, div-add-mod', div-le_self}
use Rattle.hb_rules.proofs.RangesLemmas.{filter-range_more}
use Rattle.hb_sets.specs.Sets.{bit}
use Rattle.hb_sets.proofs.Bits.{bit-zero, member-lt}
use Rattle.hb_turns.specs.Members.{IsNext, IsEndFrom}

-- the bits of a word without its lowest ones
bit-shr : (set from j : ℕ) → from ≤ j → bit set j ≡ bit (set / 2 ^ from) (j - from)
unfolding bit
bit-shr set from j low =
    let e = bit_at_cat_high (set / 2 ^ from) from (set % 2 ^ from) j (mod-lt set (pow_pos from)) low in
    rw (div-add-mod' set (2 ^ from)) at e

-- where nothing is left of the word, there is no further member
pub end-from : (set from : ℕ) → set / 2 ^ from ≡ 0 → IsEndFrom set from
end-from set from none = λ j low. bit-shr set from j low ∙ (ap (λ w. bit w (j - from)) none ∙ bit-zero (j - from))

-- else the lowest bit of what is left is the next member
pub next-from : (set from rest : ℕ) → set < 2 ^ 64 → rest ≡ set / 2 ^ from → 0 < rest
    → IsNext set from (from + count_trailing_zeros 64 rest)
unfolding bit
next-from set from rest small is some =
    let less : set / 2 ^ from ≤ set = div-le_self set (2 ^ from) in
    let small' : rest < 2 ^ 64 = omega arith in
    let first = bit_at-trailing_zeros w64 rest some small' in
    let k : ℕ = count_trailing_zeros 64 rest in
    let back : from + count_trailing_zeros 64 rest - from ≡ count_trailing_zeros 64 rest = omega arith in
    let has : bit set (from + count_trailing_zeros 64 rest) ≡ 1 =
    bit-shr set from (from + count_trailing_zeros 64 rest) (omega arith) ∙ (rw (back, ← is) first.1) in
    record {
      low = omega arith;
      small = member-lt set 64 (from + count_trailing_zeros 64 rest) small has;
      in_set = has;
      least = λ j low below. bit-shr set from j low ∙ rw (← is) (first.2 (j - from) (omega arith));
    }

-- what is filtered from a range whose last numbers do not pass
filter-skip : (p : ℕ → Bool) (from d : ℕ) → ((j : ℕ) → from ≤ j → j < from + d → p j ≡ false)
    → filter p (range_with_len 0 (from + d)) ≡ filter p (range_with_len 0 from)
filter-skip p from zero none = let e : from + 0 ≡ from = omega arith in rw e refl
filter-skip p from (suc d) none =
    let e : from + suc d ≡ from + d + 1 = omega arith in
    let here : p (from + d) ≡ false = none (from + d) (omega arith) (omega arith) in
    let ih : filter p (range_with_len 0 (from + d)) ≡ filter p (range_with_len 0 from) =
    filter-skip p from d (λ j low below. none j low (omega arith)) in
    rw (e, filter-range_more, here, append-nil) ih

-- the same up to a number above
pub filter-range_skip : (p : ℕ → Bool) (from to : ℕ) → from ≤ to → ((j : ℕ) → from ≤ j → j < to → p j ≡ false)
    → filter p (range_with_len 0 to) ≡ filter p (range_with_len 0 from)
filter-range_skip p from to le none =
    let e : from + (to - from) ≡ to = omega arith in
    let h : filter p (range_with_len 0 (from + (to - from))) ≡ filter p (range_with_len 0 from) =
    filter-skip p from (to - from) (λ j low below. none j low (omega arith)) in
    rw e at h

-- a test that a word answers, where it has no bit
pub test-none : (set j : ℕ) (b : Bool) → (bit set j == 1) ≡ b → bit set j ≡ 0 → b ≡ false
test-none set j b is none = grind arith

-- and where it has the bit
pub test-some : (set j : ℕ) (b : Bool) → (bit set j == 1) ≡ b → bit set j ≡ 1 → b ≡ true
test-some set j b is some = grind arith

-- the numbers that pass a test which a set answers, up to its next member
pub filter-next : (p : ℕ → Bool) (set from k : ℕ) (items : List ℕ) → ((j : ℕ) → (bit set j == 1) ≡ p j)
    → items ≡ filter p (range_with_len 0 from) → IsNext set from k → items ≡ filter p (range_with_len 0 k)
filter-next p set from k items is so next =
    so ∙ sym (filter-range_skip p from k next.low (λ j low below. test-none set j (p j) (is j) (next.least j low below)))

-- the same with this member
pub filter-with_next : (p : ℕ → Bool) (set from k : ℕ) (items : List ℕ) → ((j : ℕ) → (bit set j == 1) ≡ p j)
    → items ≡ filter p (range_with_len 0 from) → IsNext set from k → items ++ k ∷ [] ≡ filter p (range_with_len 0 (k + 1))
filter-with_next p set from k items is so next =
    let has : p k ≡ true = test-some set k (p k) (is k) next.in_set in
    rw (filter-range_more, has) (ap (λ xs. xs ++ k ∷ []) (filter-next p set from k items is so next))

-- and those below a bound from which there is no further member
pub filter-end : (p : ℕ → Bool) (set from n : ℕ) (items : List ℕ) → ((j : ℕ) → (bit set j == 1) ≡ p j)
    → items ≡ filter p (range_with_len 0 from) → IsEndFrom set from → from ≤ n → items ≡ filter p (range_with_len 0 n)
filter-end p set from n items is so end le =
    so ∙ sym (filter-range_skip p from n le (λ j low below. test-none set j (p j) (is j) (end j low)))
