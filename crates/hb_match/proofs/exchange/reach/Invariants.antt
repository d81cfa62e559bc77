use Rattle.std.proofs.Common.{◌-◌, ◌^◌, length}
use Rattle.hb_match.proofs.Growth.{Grows}
use Rattle.hb_match.proofs.exchange.reach.Given as goal

abbrev pub invariant-loop-before : goal.invariant-loop-before
invariant-loop-before l = Grows l.masks l.chosen l.goal l.before l.free (length l.chosen)

abbrev pub decreases-loop-before : goal.decreases-loop-before
decreases-loop-before l = 2 ^ 64 - l.before

abbrev pub invariant-loop-other : goal.invariant-loop-other
invariant-loop-other l = Grows l.masks l.chosen l.goal l.before l.free l.other
