-- The weight of chosen identities, where each identity below a bound has a weight of its own: counted by card, and
-- counted by identity as its weight times its uses.
use Rattle.std.proofs.Common.{◌≡◌, ℕ, zero, suc, ◌+◌, ◌*◌, ◌<◌, ◌≤◌, cond, ltb, List, [], ◌∷◌, length, get_or, arith}
use Rattle.std.proofs.lemmas.Grind.{common_steps}
use Rattle.std.proofs.lemmas.List.Sums.{sum_by-cons}
use Rattle.std.specs.List.{sum_by}
use Rattle.hb_match.specs.Matching.{uses}
use Rattle.hb_match.specs.Placing.{one}
use Rattle.hb_match.proofs.Uses.{uses-nil, uses-cons}
use Rattle.hb_match.proofs.Sums.{sum_below, sum_below-zero, sum_below-suc, sum_below-same, sum_below-add, sum_below-le, sum_below-le-sum_by, sum_by-le-sum_below}

-- the weight of x below n; from n on nothing weighs anything
unfoldable pub within : ℕ → (ℕ → ℕ) → ℕ → ℕ
within n w x = cond (ltb x n) (w x) 0

-- the weights of the elements, together
unfoldable pub weight : ℕ → (ℕ → ℕ) → List ℕ → ℕ
weight n w xs = sum_by (within n w) xs

within-le : (n : ℕ) (w : ℕ → ℕ) (x : ℕ) → within n w x ≤ w x
unfolding within
within-le n w x = grind (arith, common_steps)

within-below : (n : ℕ) (w : ℕ → ℕ) (x : ℕ) → x < n → within n w x ≡ w x
unfolding within
within-below n w x h = grind (arith, common_steps)

within-zero : (w : ℕ → ℕ) (x : ℕ) → within 0 w x ≡ 0
unfolding within
within-zero w x = grind (arith, common_steps)

within-suc : (n : ℕ) (w : ℕ → ℕ) (x : ℕ) → within n w x + w n * one x n ≡ within (suc n) w x
unfolding within one
within-suc n w x = let e : suc n ≡ n + 1 = omega arith in rw e (grind (arith, common_steps))

-- ---- by card

-- a list weighs at least what its places count for, and at most
pub sum_below-le-weight : (n : ℕ) (w f : ℕ → ℕ) (xs : List ℕ) → ((k : ℕ) → k < length xs → get_or xs k 0 < n)
    → ((k : ℕ) → k < length xs → f k ≤ w (get_or xs k 0)) → sum_below (length xs) f ≤ weight n w xs
unfolding weight
sum_below-le-weight n w f xs small h = sum_below-le-sum_by f (within n w) xs
    (λ k l. omega (arith, h k l, within-below n w (get_or xs k 0) (small k l)))

-- the weight of a list is at most a sum of terms as large
pub weight-le-sum_below : (n : ℕ) (w f : ℕ → ℕ) (xs : List ℕ) → ((k : ℕ) → k < length xs → w (get_or xs k 0) ≤ f k)
    → weight n w xs ≤ sum_below (length xs) f
unfolding weight
weight-le-sum_below n w f xs h = sum_by-le-sum_below f (within n w) xs
    (λ k l. omega (arith, h k l, within-le n w (get_or xs k 0)))

-- ---- by identity

sum_below-one : (n : ℕ) (w : ℕ → ℕ) (x : ℕ) → sum_below n (λ k. w k * one x k) ≡ within n w x
sum_below-one zero w x = omega (arith, sum_below-zero (λ k. w k * one x k), within-zero w x)
sum_below-one (suc n) w x = omega (arith, sum_below-suc n (λ k. w k * one x k), sum_below-one n w x, within-suc n w x)

-- of the places below n one is x
pub sum_below-one_at : (n x : ℕ) → x < n → sum_below n (λ k. one x k) ≡ 1
sum_below-one_at n x h =
    let once = sum_below-same n (λ k. one x k) (λ k. 1 * one x k) (λ k l. omega arith) in
    omega (arith, once, sum_below-one n (λ _. 1) x, within-below n (λ _. 1) x h)

weight-uses_nil : (n : ℕ) (w : ℕ → ℕ) → sum_below n (λ k. w k * uses [] k) ≡ 0
weight-uses_nil zero w = sum_below-zero (λ k. w k * uses [] k)
weight-uses_nil (suc n) w =
    let last : w n * uses [] n ≡ 0 = rw (uses-nil n) (omega arith) in
    omega (arith, sum_below-suc n (λ k. w k * uses [] k), weight-uses_nil n w, last)

weight-uses_cons : (n : ℕ) (w : ℕ → ℕ) (x : ℕ) (xs : List ℕ)
    → sum_below n (λ k. w k * uses (x ∷ xs) k) ≡ within n w x + sum_below n (λ k. w k * uses xs k)
weight-uses_cons n w x xs =
    let each : (k : ℕ) → k < n → w k * uses (x ∷ xs) k ≡ w k * one x k + w k * uses xs k = λ k l. rw (uses-cons x xs k) (omega arith) in
    let split = sum_below-same n (λ k. w k * uses (x ∷ xs) k) (λ k. w k * one x k + w k * uses xs k) each in
    omega (arith, split, sum_below-add n (λ k. w k * one x k) (λ k. w k * uses xs k), sum_below-one n w x)

-- the weight of a list, by the copies that it uses
pub weight-uses : (n : ℕ) (w : ℕ → ℕ) (xs : List ℕ) → weight n w xs ≡ sum_below n (λ k. w k * uses xs k)
unfolding weight
weight-uses n w [] = omega (arith, weight-uses_nil n w)
weight-uses n w (x ∷ xs) = omega (arith, weight-uses_cons n w x xs, weight-uses n w xs, sum_by-cons (within n w) x xs)

-- where no identity of some weight is used more often in one list than in another, the list weighs no more
pub weight-le : (n : ℕ) (w : ℕ → ℕ) (xs ys : List ℕ) → ((id : ℕ) → w id * uses xs id ≤ w id * uses ys id) → weight n w xs ≤ weight n w ys
weight-le n w xs ys h = omega (
  arith,
  weight-uses n w xs,
  weight-uses n w ys,
  sum_below-le n (λ id. w id * uses xs id) (λ id. w id * uses ys id) (λ id l. h id),
)
