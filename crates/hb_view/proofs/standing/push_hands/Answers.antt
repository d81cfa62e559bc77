use Rattle.std.specs.List.{range_with_len}
use Rattle.std.proofs.Common.{◌+◌, map}
use Rattle.hb_rules.specs.Observed.{observed}
use Rattle.hb_game_lines.specs.HandLines.{hand_line_of}
use Rattle.hb_view.proofs.TextListLemmas.{append-one, map-below_more}
use Rattle.hb_view.proofs.standing.push_hands.Goals as goal

pub loop-seat-preserved : goal.loop-seat-preserved
loop-seat-preserved c =
    let line = hand_line_of (observed c.args.blind.bits c.args.game.now) in
    append-one c.args.out.now c.loop-seat.out c.push.new.self (map line (range_with_len 0 c.loop-seat.seat))
    (map line (range_with_len 0 (c.loop-seat.seat + 1))) (line c.loop-seat.seat)
    c.loop-seat.invariant (rw (c.from_string.ensures, c.in_ok-text.ensures) at c.in_ok-push.ensures.ok)
    (map-below_more line c.loop-seat.seat)
