use Rattle.std.proofs.Common.{◌≡◌, length}
use Rattle.hb_tests_parts.proofs.matching.given.Given as goal

abbrev pub invariant-loop-id : goal.invariant-loop-id
invariant-loop-id l = length l.chosen.items ≡ l.id-index
