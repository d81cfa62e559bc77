use Rattle.std.proofs.Common.{[], ◌∷◌, refl, map}
use Rattle.std.specs.List.{range_with_len}
use Rattle.hb_rules.specs.Observed.{observed}
use Rattle.hb_wire.specs.Lines.{state_line}
use Rattle.hb_game_lines.specs.HandLines.{hand_line_of}
use Rattle.hb_game_lines.specs.Standing.{seen_state}
use Rattle.hb_view.specs.StreamClocks.{clock_texts}
use Rattle.hb_view.proofs.TextListLemmas.{on_ok-three_parts}
use Rattle.hb_view.proofs.standing.push_standing.Goals as goal

pub returns : goal.returns
returns c = on_ok-three_parts c.push_hands.result _ c.args.out.now
    (state_line (seen_state (observed c.args.blind.bits c.args.game.now)) ∷ [])
    (clock_texts c.args.clock c.args.game.now.setup.players c.args.moment)
    (map (hand_line_of (observed c.args.blind.bits c.args.game.now)) (range_with_len 0 c.args.game.now.setup.players)) _ refl
    (rw (c.in_ok-push_clock.ensures, c.in_ok-push_state.ensures, c.players.ensures.players) at c.push_hands.ensures)
