use Rattle.std.proofs.Common.{◌/◌}
use Rattle.hb_rules.specs.Events.{drawn_event}
use Rattle.hb_rules.specs.Setup.{hand_size}
use Rattle.hb_game_lines.proofs.EventLines.{event_lines-step}
use Rattle.hb_game_lines.proofs.events.push_deal.Goals as goal

pub loop-order-preserved : goal.loop-order-preserved
loop-order-preserved c =
    event_lines-step c.args.blind.bits (λ order. drawn_event c.args.game.now.setup
    (order / hand_size c.args.game.now.setup) order) c.loop-order.order
    c.args.out.now c.loop-order.out c.push_event.new.out c.loop-order.invariant
    (rw c.dealt_event.ensures at c.in_ok-push_event.ensures.written)
