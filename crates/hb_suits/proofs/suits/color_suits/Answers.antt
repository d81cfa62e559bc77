use Rattle.std.proofs.Common.{arith}
use Rattle.std.proofs.lemmas.Grind.{common_steps}
use Rattle.hb_rules.proofs.RangesLemmas.{filter-range_more}
use Rattle.hb_suits.proofs.suits.color_suits.Goals as goal

pub loop-index-preserved : goal.loop-index-preserved
loop-index-preserved c = grind (arith, common_steps, filter-range_more)
