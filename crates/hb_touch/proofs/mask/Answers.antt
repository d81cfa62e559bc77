use Rattle.std.proofs.Common.{arith, sym, ◌∙◌}
use Rattle.hb_sets.proofs.Bits.{bit-zero}
use Rattle.hb_touch.proofs.Masks.{Holds-with, Holds-without}
use Rattle.hb_touch.proofs.mask.Goals.{then-is_in_mask, else-is_in_mask}
use Rattle.hb_touch.proofs.mask.Goals as goal

pub loop-number-init : goal.loop-number-init
loop-number-init c = λ n. grind (arith, bit-zero n)

pub loop-number-preserved : goal.loop-number-preserved
loop-number-preserved c = elim c.if-is_in_mask.branch [
  | then-is_in_mask w ↦ rw w.set-is
      (Holds-with _ _ _ _ c.loop-number.invariant (sym c.is_in_mask.ensures ∙ w.if-is_in_mask.true)
      w.with-set.ensures.put w.with-set.ensures.rest)
  | else-is_in_mask w ↦ rw w.set-is (Holds-without _ _ _ c.loop-number.invariant (sym c.is_in_mask.ensures ∙ w.if-is_in_mask.false))
]
