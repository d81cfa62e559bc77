use Rattle.std.proofs.Common.{arith, ◌≡◌, ◌<◌, true, length}
use Rattle.hb_rules.specs.Hands.{is_at}
use Rattle.hb_rules.specs.Positions.{holder}
use Rattle.hb_rules.proofs.HandSize.{room-in-hand}
use Rattle.hb_turns.proofs.Fair.{at-below}
use Rattle.hb_turns.proofs.NextMember.{test-some, filter-next, filter-with_next, filter-end}
use Rattle.hb_turns.proofs.game.Game.hand.Goals as goal

pub push-requires : goal.push-requires
push-requires c =
    let held : is_at (holder c.args.self.now c.in-Some.order) c.args.seat ≡ true =
    test-some c.hand_set-set.result c.in-Some.order _ (c.hand_set-set.ensures.set c.in-Some.order)
    c.in-Some.ensures.next.in_set in
    let low : c.in-Some.order < length c.args.self.now.setup.deck.items =
    at-below c.args.self.now.setup c.args.self.now.past c.in-Some.order c.args.seat
    c.hand_set-set.ensures.played.fair held in (
      omega arith,
      rw
          (filter-next (λ order. is_at (holder c.args.self.now order) c.args.seat) c.hand_set-set.result
          c.loop-order.from c.in-Some.order c.loop-order.hand.items c.hand_set-set.ensures.set
          c.loop-order.invariant.items c.in-Some.ensures.next)
          (room-in-hand c.args.self.now.setup c.args.self.now.past
          c.hand_set-set.ensures.played.fair.dealt c.hand_set-set.ensures.played.legal c.args.seat
          c.in-Some.order low held),
    )

pub loop-order-smaller : goal.loop-order-smaller
loop-order-smaller c =
    let held : is_at (holder c.args.self.now c.in-Some.order) c.args.seat ≡ true =
    test-some c.hand_set-set.result c.in-Some.order _ (c.hand_set-set.ensures.set c.in-Some.order)
    c.in-Some.ensures.next.in_set in
    let low : c.in-Some.order < length c.args.self.now.setup.deck.items =
    at-below c.args.self.now.setup c.args.self.now.past c.in-Some.order c.args.seat
    c.hand_set-set.ensures.played.fair held in
    omega (arith, c.in-Some.ensures.next.low, c.hand_set-set.ensures.played.fair.long)

pub loop-order-preserved : goal.loop-order-preserved
loop-order-preserved c =
    let held : is_at (holder c.args.self.now c.in-Some.order) c.args.seat ≡ true =
    test-some c.hand_set-set.result c.in-Some.order _ (c.hand_set-set.ensures.set c.in-Some.order)
    c.in-Some.ensures.next.in_set in
    let low : c.in-Some.order < length c.args.self.now.setup.deck.items =
    at-below c.args.self.now.setup c.args.self.now.past c.in-Some.order c.args.seat
    c.hand_set-set.ensures.played.fair held in
    record {
      few = omega (arith, c.hand_set-set.ensures.played.fair.long);
      low = omega arith;
      items = rw c.push.ensures.items
          (filter-with_next (λ order. is_at (holder c.args.self.now order) c.args.seat)
          c.hand_set-set.result c.loop-order.from c.in-Some.order c.loop-order.hand.items
          c.hand_set-set.ensures.set c.loop-order.invariant.items c.in-Some.ensures.next);
    }

pub returns-clause-hand : goal.returns-clause-hand
returns-clause-hand c =
    filter-end (λ order. is_at (holder c.args.self.now order) c.args.seat) c.hand_set-set.result
    c.loop-order.from (length c.args.self.now.setup.deck.items) c.loop-order.hand.items
    c.hand_set-set.ensures.set c.loop-order.invariant.items c.in_default.ensures.end
    c.loop-order.invariant.low
