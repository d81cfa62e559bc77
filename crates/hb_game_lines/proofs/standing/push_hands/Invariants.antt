use Rattle.std.proofs.Common.{◌≡◌, ◌++◌}
use Rattle.hb_rules.specs.Observed.{observed}
use Rattle.hb_game_lines.specs.HandLines.{hand_lines_below}
use Rattle.hb_game_lines.proofs.standing.push_hands.Given as goal

abbrev pub invariant-loop-seat : goal.invariant-loop-seat
invariant-loop-seat l = l.out ≡ l.initial.out ++ hand_lines_below (observed l.blind.bits l.game) l.seat
