-- The members of a set, from the least one on.
use Rattle.std.proofs.Common.{◌≡◌, ◌≢◌, ℕ, zero, suc, ◌+◌, ◌-◌, ◌*◌, ◌%◌, ◌^◌, ◌<◌, ◌≤◌, Bool, true, false, List, [], ◌∷◌, ◌++◌, length, length-append, bit_and, w64, refl, sym, ap, ◌∙◌, ⊎_elim, arith}
use Rattle.std.specs.Prelude.{◌==◌, filter}
use Rattle.std.specs.Int.{bit_not}
use Rattle.std.specs.Int.Count.{count_trailing_zeros}
use Rattle.std.specs.List.{range_with_len}
use Rattle.std.proofs.lemmas.Bool.{cases_eq}
use Rattle.std.proofs.lemmas.Nat.{and_le_l}
use Rattle.std.proofs.lemmas.Nat.Bits.{bit_at_and, bit_at-trailing_zeros, bit_at_clear_same, bit_at_clear_other, bit_at_ones}
use Rattle.std.proofs.lemmas.List.FromFn.{length-range_with_len}
use Rattle.std.proofs.lemmas.List.Sums.{count_by-le-length, length-filter}
use Rattle.hb_sets.specs.Sets.{bit, members}
use Rattle.hb_sets.proofs.Bits.{bit-lt, bit-zero, member-lt}

-- tests that agree on the numbers of a range keep the same ones
filter-agree : (p q : ℕ → Bool) (a n : ℕ) → ((j : ℕ) → a ≤ j → j < a + n → p j ≡ q j)
    → filter p (range_with_len a n) ≡ filter q (range_with_len a n)
filter-agree p q a zero same = refl
filter-agree p q a (suc n) same =
    rw (same a (omega arith) (omega arith), filter-agree p q (a + 1) n (λ j low high. same j (omega arith) (omega arith))) refl

-- the first number that passes, and behind it what passes another test, which agrees from there on
filter-first : (p q : ℕ → Bool) (a n k : ℕ) → a ≤ k → k < a + n → p k ≡ true → q k ≡ false
    → ((j : ℕ) → j < k → p j ≡ false) → ((j : ℕ) → j < k → q j ≡ false)
    → ((j : ℕ) → k < j → j < a + n → p j ≡ q j)
    → filter p (range_with_len a n) ≡ k ∷ filter q (range_with_len a n)
filter-first p q a zero k low high first none before gone same = absurd (omega arith)
filter-first p q a (suc n) k low high first none before gone same = ⊎_elim
    (λ (e : k ≡ a).
    let here : p a ≡ true = rw e at first in
    let there : q a ≡ false = rw e at none in
    rw (here, there, e) (ap (λ rest. a ∷ rest)
    (filter-agree p q (a + 1) n (λ j le lt. same j (omega arith) (omega arith)))))
    (λ (ne : k ≢ a). rw (before a (omega arith), gone a (omega arith))
    (filter-first p q (a + 1) n k (omega arith) (omega arith) first none before gone
    (λ j gt lt. same j gt (omega arith))))
    (cases_eq k a)

bit-no : (set k : ℕ) → bit set k ≡ 0 → (bit set k == 1) ≡ false
bit-no set k e = rw e refl

bit-yes : (set k : ℕ) → bit set k ≡ 1 → (bit set k == 1) ≡ true
bit-yes set k e = rw e refl

-- the least member, and behind it the members of the set without it
members-without : (bound set rest k : ℕ) → k < bound → bit set k ≡ 1 → bit rest k ≡ 0
    → ((j : ℕ) → j < k → bit set j ≡ 0)
    → ((j : ℕ) → j ≢ k → j < bound → bit rest j ≡ bit set j)
    → members bound set ≡ k ∷ members bound rest
unfolding members
members-without bound set rest k low here gone least same = filter-first
    (λ j. bit set j == 1) (λ j. bit rest j == 1) 0 bound k (omega arith) (omega arith)
    (bit-yes set k here) (bit-no rest k gone)
    (λ j lt. bit-no set j (least j lt))
    (λ j lt. bit-no rest j (same j (omega arith) (omega arith) ∙ least j lt))
    (λ j gt lt. ap (λ b. b == 1) (sym (same j (omega arith) (omega arith))))

-- the set without its lowest bit
abbrev pub without_least : ℕ → ℕ
without_least set = bit_and set (bit_not w64 (1 * 2 ^ count_trailing_zeros 64 set % 2 ^ 64))

-- what the lowest bit of a set is to its members
pub record IsLeast (bound set : ℕ) : Type 0 where
  pub low : count_trailing_zeros 64 set < bound
  pub first : members bound set ≡ count_trailing_zeros 64 set ∷ members bound (without_least set)
  pub smaller : without_least set < set

-- a set of numbers below a bound begins with its lowest bit
pub least-first : (bound set : ℕ) → bound ≤ 64 → 0 < set → set < 2 ^ 64 → set < 2 ^ bound → IsLeast bound set
unfolding bit
least-first bound set within some fits small =
    let k : ℕ = count_trailing_zeros 64 set in
    let least = bit_at-trailing_zeros w64 set some fits in
    let low : k < bound = member-lt set bound k small least.1 in
    let gone : bit (without_least set) k ≡ 0 = bit_at_clear_same w64 set k least.0 in
    let le : without_least set ≤ set = and_le_l set _ in
    let ne : without_least set ≡ set → ⊥ = λ e. omega (arith, ap (λ s. bit s k) e, gone, least.1) in
    record {
      low = low;
      first = members-without bound set (without_least set) k low least.1 gone least.2
          (λ j other below. bit_at_clear_other w64 set k least.0 j (omega arith) other);
      smaller = omega arith;
    }

-- no more numbers are members than are below the bound
members-fit : (bound set : ℕ) → length (members bound set) ≤ bound
unfolding members
members-fit bound set = omega (
  arith,
  length-filter (λ k. bit set k == 1) (range_with_len 0 bound),
  count_by-le-length (λ k. bit set k == 1) (range_with_len 0 bound),
  length-range_with_len 0 bound,
)

-- a list of members with room for all has room for the next one
pub members-room : (bound set rest : ℕ) (list : List ℕ) → list ++ members bound rest ≡ members bound set → IsLeast bound rest
    → length list < bound
members-room bound set rest list all least =
    let long : length list + length (members bound rest) ≡ length (members bound set) =
    sym (length-append list (members bound rest)) ∙ ap length all in
    omega (arith, ap length least.first, members-fit bound set)

-- no number is in the empty set
pub members-none : (bound : ℕ) → members bound 0 ≡ []
unfolding members
members-none bound = nothing 0 bound
  where
    nothing : (a n : ℕ) → filter (λ k. bit 0 k == 1) (range_with_len a n) ≡ []
    nothing a zero = refl
    nothing a (suc n) = rw (bit-no 0 a (bit-zero a), nothing (a + 1) n) refl

-- the members below a bound are those of the lowest bits
pub members-masked : (bound set : ℕ) → members bound (bit_and set (2 ^ bound - 1)) ≡ members bound set
unfolding members bit
members-masked bound set = filter-agree _ _ 0 bound (λ j low high.
    ap (λ b. b == 1) (omega (arith, bit_at_and set (2 ^ bound - 1) j, bit_at_ones bound j (omega arith), bit-lt set j)))
