use Rattle.std.proofs.Common.{◌≡◌, ◌++◌, map}
use Rattle.std.specs.List.{range_with_len}
use Rattle.hb_rules.specs.Observed.{observed}
use Rattle.hb_game_lines.specs.HandLines.{hand_line_of}
use Rattle.hb_view.proofs.standing.push_hands.Given as goal

abbrev pub invariant-loop-seat : goal.invariant-loop-seat
invariant-loop-seat l =
    l.out ≡ l.initial.out ++ map (hand_line_of (observed l.blind.bits l.game)) (range_with_len 0 l.seat)
