use Rattle.std.proofs.Common.{arith, take}
use Rattle.std.specs.Prelude.{slice_index}
use Rattle.std.proofs.lemmas.List.{take_all, take_more}
use Rattle.std.proofs.lemmas.List.Elements.{All-get_or}
use Rattle.hb_turns.specs.TableSteps.{IsCard}
use Rattle.hb_turns.proofs.Narrow.{narrowed_none, narrowed_more}
use Rattle.hb_turns.proofs.table.marks.narrow.Goals as goal

pub loop-order-init : goal.loop-order-init
loop-order-init c = narrowed_none c.args.setup.now c.args.all c.args.touched _

pub bounds-marks-place : goal.bounds-marks-place
bounds-marks-place c =
    let card : IsCard c.args.setup.now (slice_index c.args.hand.now c.loop-order.order-index) =
    (All-get_or (IsCard c.args.setup.now) c.args.hand.now c.loop-order.order-index 0 c.loop-order-test.true
    c.requires.cards) in
    omega (arith, card.long, card.below, c.from-place.ensures)

pub bounds-deref-place : goal.bounds-deref-place
bounds-deref-place c =
    rw (c.deref.ensures.0, c.from-place.ensures)
    (All-get_or (IsCard c.args.setup.now) c.args.hand.now c.loop-order.order-index 0 c.loop-order-test.true
    c.requires.cards).below

pub number-requires : goal.number-requires
number-requires c =
    rw (c.deref.ensures.0, c.from-place.ensures)
    (All-get_or (IsCard c.args.setup.now) c.args.hand.now c.loop-order.order-index 0 c.loop-order-test.true
    c.requires.cards).id

pub loop-order-preserved : goal.loop-order-preserved
loop-order-preserved c =
    let card : IsCard c.args.setup.now (slice_index c.args.hand.now c.loop-order.order-index) =
    (All-get_or (IsCard c.args.setup.now) c.args.hand.now c.loop-order.order-index 0
    c.loop-order-test.true c.requires.cards) in
    rw (c.from-place.ensures, take_more c.args.hand.now c.loop-order.order-index 0 c.loop-order-test.true)
    (narrowed_more c.args.setup.now (take c.loop-order.order-index c.args.hand.now) c.args.all
    c.args.touched c.args.marks.now c.loop-order.marks
    (slice_index c.args.hand.now c.loop-order.order-index) c.narrowed.result
    (omega (arith, card.long, card.below)) c.loop-order.invariant
    (rw (c.number.ensures.number, c.deref.ensures.0, c.from-place.ensures) at c.narrowed.ensures))

pub returns : goal.returns
returns c = rw (← take_all c.loop-order.order-index c.args.hand.now c.loop-order-test.false) c.loop-order.invariant
