-- Sums over the numbers below a bound, against sums over the elements of a list and against the members of a set.
use Rattle.std.proofs.Common.{lit<, ap, ◌/◌, ◌%◌, ◌^◌, ◌≡◌, ℕ, zero, suc, ◌+◌, ◌*◌, ◌<◌, ◌≤◌, List, length, map, get_or, take, refl, arith}
use Rattle.std.proofs.lemmas.List.{take_all}
use Rattle.std.proofs.lemmas.List.FromFn.{sum_by-map-range_with_len_more}
use Rattle.std.proofs.lemmas.List.Sums.{sum_by_more}
use Rattle.std.proofs.lemmas.Nat.{ones-le, ones_cat, pow_pos}
use Rattle.std.proofs.Math.Nat.{mod-lt, div-add-mod'}
use Rattle.std.proofs.Math.Numerals.{add-one, one-add}
use Rattle.std.proofs.Math.Pow.{shr_lt}
use Rattle.std.specs.Int.Count.{ones_step}
use Rattle.std.specs.Int.RustNames.{count_ones}
use Rattle.std.specs.List.{sum, sum_by, range_with_len}
use Rattle.hb_sets.specs.Sets.{bit}
use Rattle.hb_sets.proofs.Bits.{bit-low, bit-div}

-- f 0 + f 1 + .. + f (n - 1)
unfoldable pub sum_below : ℕ → (ℕ → ℕ) → ℕ
sum_below n f = sum (map f (range_with_len 0 n))

-- the sum of no terms
pub sum_below-zero : (f : ℕ → ℕ) → sum_below 0 f ≡ 0
unfolding sum_below
sum_below-zero f = refl

-- the sum of one term more
pub sum_below-more : (n : ℕ) (f : ℕ → ℕ) → sum_below (n + 1) f ≡ sum_below n f + f n
unfolding sum_below
sum_below-more n f = sum_by-map-range_with_len_more (λ x. x) f 0 n n (omega arith)

-- the same at a successor
pub sum_below-suc : (n : ℕ) (f : ℕ → ℕ) → sum_below (suc n) f ≡ sum_below n f + f n
sum_below-suc n f = simp add-one at (sum_below-more n f)

-- a sum of larger terms is larger
pub sum_below-le : (n : ℕ) (f g : ℕ → ℕ) → ((k : ℕ) → k < n → f k ≤ g k) → sum_below n f ≤ sum_below n g
sum_below-le zero f g h = omega (arith, sum_below-zero f)
sum_below-le (suc n) f g h =
    omega (arith, sum_below-suc n f, sum_below-suc n g, sum_below-le n f g (λ k l. h k (omega arith)), h n (omega arith))

-- sums of terms that agree
pub sum_below-same : (n : ℕ) (f g : ℕ → ℕ) → ((k : ℕ) → k < n → f k ≡ g k) → sum_below n f ≡ sum_below n g
sum_below-same n f g h = omega (
  arith,
  sum_below-le n f g (λ k l. omega (arith, h k l)),
  sum_below-le n g f (λ k l. omega (arith, h k l)),
)

-- the sum of sums
pub sum_below-add : (n : ℕ) (f g : ℕ → ℕ) → sum_below n (λ k. f k + g k) ≡ sum_below n f + sum_below n g
sum_below-add zero f g = omega (arith, sum_below-zero f, sum_below-zero g, sum_below-zero (λ k. f k + g k))
sum_below-add (suc n) f g =
    omega (arith, sum_below-suc n f, sum_below-suc n g, sum_below-suc n (λ k. f k + g k), sum_below-add n f g)

-- ---- a sum over the places of a list, against one over its elements

sum_below-le-sum_by_take : (f g : ℕ → ℕ) (xs : List ℕ) (n : ℕ) → n ≤ length xs → ((k : ℕ) → k < n → f k ≤ g (get_or xs k 0))
    → sum_below n f ≤ sum_by g (take n xs)
sum_below-le-sum_by_take f g xs zero len h = omega (arith, sum_below-zero f)
sum_below-le-sum_by_take f g xs (suc n) len h = omega (
  arith,
  sum_below-suc n f,
  sum_below-le-sum_by_take f g xs n (omega arith) (λ k l. h k (omega arith)),
  h n (omega arith),
  simp add-one at (sum_by_more g xs n 0 (omega arith)),
)

-- a sum by places is at most that over a list with terms as large
pub sum_below-le-sum_by : (f g : ℕ → ℕ) (xs : List ℕ) → ((k : ℕ) → k < length xs → f k ≤ g (get_or xs k 0))
    → sum_below (length xs) f ≤ sum_by g xs
sum_below-le-sum_by f g xs h =
    let all : length xs ≤ length xs = omega arith in
    let s = sum_below-le-sum_by_take f g xs (length xs) all h in rw (take_all (length xs) xs all) at s

sum_by_take-le-sum_below : (f g : ℕ → ℕ) (xs : List ℕ) (n : ℕ) → n ≤ length xs → ((k : ℕ) → k < n → g (get_or xs k 0) ≤ f k)
    → sum_by g (take n xs) ≤ sum_below n f
sum_by_take-le-sum_below f g xs zero len h = omega (arith, sum_below-zero f)
sum_by_take-le-sum_below f g xs (suc n) len h = omega (
  arith,
  sum_below-suc n f,
  sum_by_take-le-sum_below f g xs n (omega arith) (λ k l. h k (omega arith)),
  h n (omega arith),
  simp add-one at (sum_by_more g xs n 0 (omega arith)),
)

-- and the other way round
pub sum_by-le-sum_below : (f g : ℕ → ℕ) (xs : List ℕ) → ((k : ℕ) → k < length xs → g (get_or xs k 0) ≤ f k)
    → sum_by g xs ≤ sum_below (length xs) f
sum_by-le-sum_below f g xs h =
    let all : length xs ≤ length xs = omega arith in
    let s = sum_by_take-le-sum_below f g xs (length xs) all h in rw (take_all (length xs) xs all) at s

-- ---- the members of a set, counted

ones-digit : (a : ℕ) → a < 2 → count_ones a ≡ a % 2
ones-digit a h =
    let half : a / 2 ≡ 0 = omega arith in
    let none : count_ones 0 ≡ 0 = omega (arith, ones-le 0 0 (lit< tt)) in
    omega (arith, ones_step a, ap (λ x. count_ones x) half, none)

-- a set has as many members as it has bits
pub ones-sum : (n set : ℕ) → set < 2 ^ n → count_ones set ≡ sum_below n (λ k. bit set k)
ones-sum zero set h = omega (arith, ones-le 0 set h, sum_below-zero (λ k. bit set k))
ones-sum (suc n) set h =
    let small : set % 2 ^ n < 2 ^ n = mod-lt set (pow_pos n) in
    let parts : set / 2 ^ n * 2 ^ n + set % 2 ^ n ≡ set = div-add-mod' set (2 ^ n) in
    let top : set / 2 ^ n < 2 = shr_lt 1 n (rw (one-add n) h) in
    let cut = ones_cat n (set / 2 ^ n) (set % 2 ^ n) small in
    let cut' : count_ones set ≡ count_ones (set / 2 ^ n) + count_ones (set % 2 ^ n) = rw parts at cut in
    let low = sum_below-same n (λ k. bit set k) (λ k. bit (set % 2 ^ n) k) (λ k l. bit-low set n k l) in
    omega (arith, cut', ones-sum n (set % 2 ^ n) small, low, ones-digit (set / 2 ^ n) top, bit-div set n, sum_below-suc n (λ k. bit set k))
