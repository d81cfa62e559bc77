use Rattle.std.proofs.Common.{[], ◌∷◌, refl, map}
use Rattle.hb_rules.specs.Observed.{observed}
use Rattle.hb_wire.specs.Lines.{event_line, game_line, state_line}
use Rattle.hb_game_lines.specs.Standing.{seen_state}
use Rattle.hb_view.proofs.TextListLemmas.{on_ok-three_parts}
use Rattle.hb_view.proofs.loaded.push_whole.Goals as goal

pub returns : goal.returns
returns c = on_ok-three_parts c.push_state.result _ c.args.out.now
    (game_line c.args.name.now c.args.game.now.setup.options c.args.players.now ∷ [])
    (map event_line (observed 0 c.args.game.now).events) (state_line (seen_state (observed 0 c.args.game.now)) ∷ []) _ refl
    (rw (c.in_ok-push_events.ensures, c.in_ok-push_game.ensures, c.options.ensures, c.none.ensures.bits, c.none-2.ensures.bits)
    at c.push_state.ensures)
