use Rattle.std.proofs.Common.{◌≡◌, ◌/◌, ◌++◌, map}
use Rattle.std.specs.List.{range_with_len}
use Rattle.hb_rules.specs.Events.{blank, drawn_event}
use Rattle.hb_rules.specs.Setup.{hand_size}
use Rattle.hb_wire.specs.Lines.{event_lines}
use Rattle.hb_game_lines.proofs.events.push_deal.Given as goal

abbrev pub invariant-loop-order : goal.invariant-loop-order
invariant-loop-order l =
    l.out ≡ l.initial.out ++ event_lines (blank l.blind.bits
    (map (λ order. drawn_event l.game.setup (order / hand_size l.game.setup) order) (range_with_len 0 l.order)))
