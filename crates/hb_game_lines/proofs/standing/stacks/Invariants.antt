use Rattle.std.proofs.Common.{◌≡◌, ◌≤◌, length, map}
use Rattle.std.specs.List.{range_with_len}
use Rattle.hb_rules.specs.Positions.{height}
use Rattle.hb_game_lines.proofs.standing.stacks.Given as goal

abbrev pub invariant-loop-suit : goal.invariant-loop-suit
invariant-loop-suit l = record {
  items : l.heights.items ≡ map (height l.game) (range_with_len 0 l.suit);
  few : length l.heights.items ≤ l.suit;
}
