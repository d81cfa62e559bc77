use Rattle.std.proofs.Common.{arith, refl, ◌≡◌, ◌<◌, ◌∙◌, length, reverse}
use Rattle.std.specs.Prelude.{slice_index}
use Rattle.std.proofs.lemmas.List.{take_all}
use Rattle.hb_rules.specs.Setup.{card}
use Rattle.hb_rules.specs.Touch.{touches}
use Rattle.hb_turns.proofs.Acts.{deck-order}
use Rattle.hb_turns.proofs.OrderBits.{bits-passed, bits-left_out}
use Rattle.hb_turns.proofs.ViewsLemmas.{in-hand, touches-inside}
use Rattle.hb_turns.proofs.game.Game.touched.Goals as goal
use Rattle.hb_turns.proofs.game.Game.touched.Goals.{then-has, else-has}

pub bounds-deref-from : goal.bounds-deref-from
bounds-deref-from c =
    rw (c.deref.ensures.0, c.from.ensures)
    (in-hand c.self.inside.setup (reverse c.self.inside.acts.items) c.args.self.now c.args.to
    c.as_slice-order-items.result.now c.loop-order.order-index c.self.view_is
    (c.as_slice-order-items.ensures.value ∙ c.hand-hand.ensures.hand) c.loop-order-test.true)

pub number-requires : goal.number-requires
number-requires c =
    rw (c.deref.ensures.0, c.from.ensures)
    (deck-order c.self.inside.setup _ c.self.invariant.fair
    (in-hand c.self.inside.setup (reverse c.self.inside.acts.items) c.args.self.now c.args.to
    c.as_slice-order-items.result.now c.loop-order.order-index c.self.view_is
    (c.as_slice-order-items.ensures.value ∙ c.hand-hand.ensures.hand) c.loop-order-test.true)).id

pub overflow_shl-word : goal.overflow_shl-word
overflow_shl-word c =
    omega (
      arith,
      c.self.invariant.fair.long,
      in-hand c.self.inside.setup (reverse c.self.inside.acts.items) c.args.self.now c.args.to
          c.as_slice-order-items.result.now c.loop-order.order-index c.self.view_is
          (c.as_slice-order-items.ensures.value ∙ c.hand-hand.ensures.hand) c.loop-order-test.true,
    )

pub loop-order-preserved : goal.loop-order-preserved
loop-order-preserved c =
    let low : (slice_index c.as_slice-order-items.result.now c.loop-order.order-index)
    < length c.self.inside.setup.deck.items =
    in-hand c.self.inside.setup (reverse c.self.inside.acts.items) c.args.self.now c.args.to
    c.as_slice-order-items.result.now c.loop-order.order-index c.self.view_is
    (c.as_slice-order-items.ensures.value ∙ c.hand-hand.ensures.hand) c.loop-order-test.true in
    let small : (slice_index c.as_slice-order-items.result.now c.loop-order.order-index) < 64 = omega (arith, c.self.invariant.fair.long) in
    let is : touches c.args.self.now.setup.variant c.args.clue
    (card c.args.self.now.setup (slice_index c.as_slice-order-items.result.now c.loop-order.order-index))
    ≡ c.has.result =
    touches-inside c.self.inside.setup (reverse c.self.inside.acts.items) c.args.self.now c.args.clue
    c.mask-mask.result (slice_index c.as_slice-order-items.result.now c.loop-order.order-index) c.has.result
    c.self.view_is c.self.invariant.fair c.mask-mask.ensures low
    (rw (c.number.ensures.number, c.deref.ensures.0, c.from.ensures) at c.has.ensures) in
    elim c.if-has.branch [
      | then-has w ↦ rw (w.word-is, c.loop-order.invariant)
          (bits-passed
          (λ order. touches c.args.self.now.setup.variant c.args.clue (card c.args.self.now.setup order))
          c.as_slice-order-items.result.now c.loop-order.order-index c.loop-order-test.true small
          (is ∙ w.if-has.true))
      | else-has w ↦ rw (w.word-is, c.loop-order.invariant)
          (bits-left_out
          (λ order. touches c.args.self.now.setup.variant c.args.clue (card c.args.self.now.setup order))
          c.as_slice-order-items.result.now c.loop-order.order-index c.loop-order-test.true
          (is ∙ w.if-has.false))
    ]

pub returns : goal.returns
returns c =
    rw (
      c.loop-order.invariant,
      take_all c.loop-order.order-index c.as_slice-order-items.result.now c.loop-order-test.false,
      c.as_slice-order-items.ensures.value,
      c.hand-hand.ensures.hand,
    )
    refl
