use Rattle.std.proofs.Common.{[], ◌∷◌, refl}
use Rattle.hb_wire.specs.WireLine.{line_text}
use Rattle.hb_view.specs.StreamClocks.{clock_texts}
use Rattle.hb_view.proofs.TextListLemmas.{on_ok-two_parts}
use Rattle.hb_view.proofs.paused.push_with_clock.Goals as goal

pub returns : goal.returns
returns c = on_ok-two_parts c.push_clock.result _ c.args.out.now (line_text c.args.line.now ∷ [])
    (clock_texts c.args.clock c.args.seats c.args.moment) _ refl (rw c.in_ok-push_line.ensures at c.push_clock.ensures)
