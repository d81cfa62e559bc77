use Rattle.std.proofs.Common.{ap, ◌∙◌}
use Rattle.std.proofs.lemmas.Result.{IfOk-weaker}
use Rattle.hb_wire.specs.Lines.{state_line}
use Rattle.hb_game_lines.proofs.standing.state_line.Goals as goal

pub returns : goal.returns
returns c = IfOk-weaker c.state_text.result _ _ (λ s is blind. is ∙ ap state_line (c.state_of.ensures.seen blind)) c.state_text.ensures
