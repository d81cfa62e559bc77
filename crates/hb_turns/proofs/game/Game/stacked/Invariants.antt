use Rattle.std.proofs.Common.{◌≡◌, ◌≤◌, ◌*◌}
use Rattle.std.specs.Prelude.{sum_by}
use Rattle.std.specs.List.{range_with_len}
use Rattle.hb_rules.specs.Result.{height}
use Rattle.hb_turns.proofs.game.Game.stacked.Given as goal

abbrev pub invariant-loop-suit : goal.invariant-loop-suit
invariant-loop-suit l =
    record {
      sum : l.total ≡ sum_by (height l.self.setup l.self.past) (range_with_len 0 l.suit);
      low : l.total ≤ 5 * l.suit;
    }
