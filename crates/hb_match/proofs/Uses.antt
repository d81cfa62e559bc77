-- The laws of `uses`, in a form that arithmetic can use.
use Rattle.std.proofs.Common.{◌≡◌, ◌≢◌, ℕ, ◌+◌, ◌<◌, ◌≤◌, List, [], ◌∷◌, ◌++◌, length, get_or, set, take, cond, eqb, refl, arith}
use Rattle.std.proofs.lemmas.Grind.{common_steps}
use Rattle.std.proofs.lemmas.List.Sums.{sum_by_push, sum_by-set, sum_by-cons, get_or-le-sum_by, sum_by_more, sum_by-take-le}
use Rattle.hb_match.specs.Matching.{uses}
use Rattle.hb_match.specs.Placing.{one}

-- a card of the identity counts one
pub one-same : (x : ℕ) → one x x ≡ 1
unfolding one
one-same x = grind (arith, common_steps)

-- and another none
pub one-other : (x y : ℕ) → x ≢ y → one x y ≡ 0
unfolding one
one-other x y ne = grind (arith, common_steps)

-- no cards use no copy
pub uses-nil : (id : ℕ) → uses [] id ≡ 0
unfolding uses
uses-nil id = refl

-- a card more in front
pub uses-cons : (x : ℕ) (xs : List ℕ) (id : ℕ) → uses (x ∷ xs) id ≡ one x id + uses xs id
unfolding uses one
uses-cons x xs id = sum_by-cons (λ x. cond (eqb x id) 1 0) x xs

-- a card more at the end
pub uses-push : (xs : List ℕ) (x id : ℕ) → uses (xs ++ x ∷ []) id ≡ uses xs id + one x id
unfolding uses one
uses-push xs x id = sum_by_push (λ x. cond (eqb x id) 1 0) xs x

-- a card with another identity
pub uses-set : (xs : List ℕ) (i y id : ℕ) → i < length xs → uses (set xs i y) id + one (get_or xs i 0) id ≡ uses xs id + one y id
unfolding uses one
uses-set xs i y id h = sum_by-set (λ x. cond (eqb x id) 1 0) xs i y 0 h

-- the first cards and one more
pub uses-take_more : (xs : List ℕ) (i id : ℕ) → i < length xs → uses (take (i + 1) xs) id ≡ uses (take i xs) id + one (get_or xs i 0) id
unfolding uses one
uses-take_more xs i id h = sum_by_more (λ x. cond (eqb x id) 1 0) xs i 0 h

-- the first cards use no more than all
pub uses-take-le : (xs : List ℕ) (i id : ℕ) → uses (take i xs) id ≤ uses xs id
unfolding uses
uses-take-le xs i id = sum_by-take-le (λ x. cond (eqb x id) 1 0) xs i

-- a card uses a copy of its identity
pub uses-has : (xs : List ℕ) (k : ℕ) → k < length xs → 0 < uses xs (get_or xs k 0)
unfolding uses one
uses-has xs k h = omega (arith, get_or-le-sum_by (λ x. cond (eqb x (get_or xs k 0)) 1 0) xs k 0 h, one-same (get_or xs k 0))
