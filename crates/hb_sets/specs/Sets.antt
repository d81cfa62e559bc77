-- What has a set of small numbers, if it is kept as one number?
use Rattle.std.specs.Prelude.{◌≡◌, ℕ, ◌<◌, ◌==◌, List, filter}
use Rattle.std.specs.Int.{bit_at}
use Rattle.std.specs.List.{range_with_len}

-- 1 if the set has k, else 0
unfoldable pub bit : ℕ → ℕ → ℕ
bit set k = bit_at set k

-- the set has k
abbrev pub Has : ℕ → ℕ → Type 0
Has set k = bit set k ≡ 1

-- the sets have no member in common
abbrev pub IsDisjoint : ℕ → ℕ → Type 0
IsDisjoint a b = (k : ℕ) → Has a k → Has b k → ⊥

-- k is the least member of both sets
pub record IsLeastCommon (a b k : ℕ) : Type 0 where
  pub in_first : Has a k
  pub in_second : Has b k
  pub least : (j : ℕ) → j < k → Has a j → Has b j → ⊥

-- the members below a bound, ascending
unfoldable pub members : ℕ → ℕ → List ℕ
members bound set = filter (λ k. bit set k == 1) (range_with_len 0 bound)
