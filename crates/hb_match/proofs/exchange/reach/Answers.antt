use Rattle.std.proofs.Common.{arith, rules}
use Rattle.hb_match.proofs.Growth.{grows_start, grows_past, grows_more}
use Rattle.hb_match.proofs.exchange.reach.Goals as goal
use Rattle.hb_match.proofs.exchange.reach.Goals.{then-is_some, else-is_some}

pub loop-before-init : goal.loop-before-init
loop-before-init c = grows_start c.args.masks.now c.args.chosen.now c.args.goal _ c.ranges.goal.fits

pub loop-before-smaller : goal.loop-before-smaller
loop-before-smaller c = omega (arith, c.loop-before.invariant.wider, c.loop-before.invariant.fits, c.loop-before-test.true)

pub with-free-requires : goal.with-free-requires
with-free-requires c = (c.requires.held c.loop-other.other (omega arith)).1

pub loop-other-preserved : goal.loop-other-preserved
loop-other-preserved c = elim c.if-is_some.branch [
  | then-is_some w ↦ rw w.free-is
      (grows_more c.args.masks.now c.args.chosen.now c.args.goal c.loop-before.free c.loop-other.free
      w.with-free.result c.loop-other.other c.common.result
      c.loop-other.invariant (omega arith)
      c.common.ensures.least (search rules) w.with-free.ensures.put w.with-free.ensures.rest
      w.with-free.ensures.larger w.with-free.type_inv)
  | else-is_some w ↦ rw w.free-is
      (grows_past c.args.masks.now c.args.chosen.now c.args.goal c.loop-before.free c.loop-other.free
      c.loop-other.other c.common.result c.loop-other.invariant c.common.ensures.least (search rules))
]

pub returns-clause-closed : goal.returns-clause-closed
returns-clause-closed c = c.loop-before.invariant.closed c.loop-before-test.false
