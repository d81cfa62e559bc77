use Rattle.std.proofs.Common.{take}
use Rattle.hb_match.specs.Placing.{IsLeftOver}
use Rattle.hb_match.proofs.placing.left_over.Given as goal

abbrev pub invariant-loop-id : goal.invariant-loop-id
invariant-loop-id l = IsLeftOver l.left (take l.id-index l.chosen) l.over
