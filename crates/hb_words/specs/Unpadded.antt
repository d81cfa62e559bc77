-- Internal: no public clause cites this.
-- Which of the numbers that `parse` reads are written as `decimal` has them?
use Rattle.std.specs.Prelude.{◌≡◌, ◌≢◌, ℕ, List, length, slice_index}

-- there is no plus in front, and no zero in front of other digits
abbrev pub IsUnpadded : List ℕ → Type 0
IsUnpadded bytes = (slice_index bytes 0 ≢ 43) × (slice_index bytes 0 ≡ 48 → length bytes ≡ 1)
