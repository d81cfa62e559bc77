use Rattle.std.proofs.Common.{◌≡◌, ◌+◌, [], get_or, arith}
use Rattle.hb_match.specs.Matching.{uses}
use Rattle.hb_match.proofs.Uses.{uses-nil}
use Rattle.hb_match.proofs.CopiesLeft.{chosen-lt, over-pos, over_less}
use Rattle.hb_match.proofs.placing.left_over.Goals as goal

pub loop-id-init : goal.loop-id-init
loop-id-init c = λ id.
    let e : get_or c.args.left.now id 0 + uses [] id ≡ get_or c.args.left.now id 0 = omega (arith, uses-nil id) in e

pub bounds-over-id : goal.bounds-over-id
bounds-over-id c = let e = c.told-left in
    omega (arith, chosen-lt c.args.left.now c.args.chosen.now c.loop-id.id-index c.requires c.loop-id-test.true)

pub overflow_sub-over : goal.overflow_sub-over
overflow_sub-over c =
    over-pos c.args.left.now c.args.chosen.now c.loop-id.over c.loop-id.id-index c.requires c.loop-id.invariant c.loop-id-test.true

pub bounds-over-id-in-loop-id : goal.bounds-over-id-in-loop-id
bounds-over-id-in-loop-id c = let e = c.told-left in
    omega (arith, chosen-lt c.args.left.now c.args.chosen.now c.loop-id.id-index c.requires c.loop-id-test.true)

pub loop-id-preserved : goal.loop-id-preserved
loop-id-preserved c =
    over_less c.args.left.now c.args.chosen.now c.loop-id.over c.loop-id.id-index c.requires c.loop-id.invariant c.loop-id-test.true
