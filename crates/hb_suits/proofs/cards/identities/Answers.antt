use Rattle.std.proofs.Common.{arith}
use Rattle.hb_sets.proofs.Bits.{bit-zero}
use Rattle.hb_suits.proofs.cards.identities.Goals as goal

pub loop-number-init : goal.loop-number-init
loop-number-init c = λ n. grind (arith, bit-zero n)
