-- What follows from a count?
use Rattle.std.proofs.Common.{ℕ, ◌≤◌, Bool, true, false, arith}
use Rattle.hb_edge.specs.Counts.{Counts}

-- a count never falls
pub Counts-later : (kind : Bool) (before now : ℕ) → Counts kind before now → before ≤ now
Counts-later true before now counted = counted.0
Counts-later false before now same = omega (arith, same)
