use Rattle.std.proofs.Common.{◌≡◌, ◌≤◌, ◌-◌, length}
use Rattle.std.specs.Prelude.{filter}
use Rattle.std.specs.List.{range_with_len}
use Rattle.hb_rules.specs.Hands.{is_at}
use Rattle.hb_rules.specs.Positions.{holder}
use Rattle.hb_turns.proofs.game.Game.hand.Given as goal

abbrev pub invariant-loop-order : goal.invariant-loop-order
invariant-loop-order l = record {
  few : l.from ≤ 60;
  low : l.from ≤ length l.self.setup.deck.items;
  items : l.hand.items ≡ filter (λ order. is_at (holder l.self order) l.seat) (range_with_len 0 l.from);
}

abbrev pub decreases-loop-order : goal.decreases-loop-order
decreases-loop-order l = 60 - l.from
