-- Internal: no public clause cites this.
-- Which member of a set comes next?
use Rattle.std.specs.Prelude.{◌≡◌, ℕ, ◌<◌, ◌≤◌}
use Rattle.hb_sets.specs.Sets.{bit, Has}

-- the set has no member from the number on
abbrev pub IsEndFrom : ℕ → ℕ → Type 0
IsEndFrom set from = (j : ℕ) → from ≤ j → bit set j ≡ 0

-- k is the least member of the set from the number on
pub record IsNext (set from k : ℕ) : Type 0 where
  pub low : from ≤ k
  pub small : k < 64
  pub in_set : Has set k
  pub least : (j : ℕ) → from ≤ j → j < k → bit set j ≡ 0
