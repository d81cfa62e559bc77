use Rattle.std.proofs.Common.{refl, append_assoc}
use Rattle.hb_rules.specs.Observed.{observed}
use Rattle.hb_game_lines.proofs.PossibleLists.{hand_lines_below-more}
use Rattle.hb_game_lines.proofs.standing.push_hands.Goals as goal

pub loop-seat-preserved : goal.loop-seat-preserved
loop-seat-preserved c =
    rw (
      c.in_ok-push_line.ensures.written,
      c.deref.ensures,
      c.in_ok-line.ensures,
      c.loop-seat.invariant,
      append_assoc,
      hand_lines_below-more (observed c.args.blind.bits c.args.game.now) c.loop-seat.seat,
    ) refl
