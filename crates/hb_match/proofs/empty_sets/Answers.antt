use Rattle.std.proofs.Common.{arith}
use Rattle.hb_match.proofs.SetsLemmas.{empty_more}
use Rattle.hb_match.proofs.empty_sets.Goals as goal

pub loop-preserved : goal.loop-preserved
loop-preserved c = record {
  len = omega (arith, c.push.ensures.len, c.loop.invariant.len);
  empty = rw c.push.ensures.items (empty_more c.loop.sets.items c.loop.invariant.empty);
}
