use Rattle.std.proofs.Common.{arith, sym}
use Rattle.hb_rules.specs.Result.{height}
use Rattle.hb_rules.proofs.RangesLemmas.{sum_by-range_more}
use Rattle.hb_turns.proofs.game.Game.stacked.Goals as goal

pub loop-suit-preserved : goal.loop-suit-preserved
loop-suit-preserved c = record {
  sum = rw (c.loop-suit.invariant.sum, c.stack-total.ensures.height)
      (sym (sum_by-range_more (height c.args.self.now.setup c.args.self.now.past) c.loop-suit.suit));
  low = omega arith;
}
