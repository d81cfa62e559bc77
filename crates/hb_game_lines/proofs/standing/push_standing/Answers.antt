use Rattle.std.proofs.Common.{◌∙◌}
use Rattle.std.proofs.lemmas.Result.{IfOk-weaker}
use Rattle.hb_rules.specs.Observed.{observed}
use Rattle.hb_game_lines.proofs.SeenState.{standing_text-appended}
use Rattle.hb_game_lines.proofs.standing.push_standing.Goals as goal

pub returns-clause-written : goal.returns-clause-written
returns-clause-written c = IfOk-weaker c.push_hands.result _ _ (λ done is.
    standing_text-appended (observed c.args.blind.bits c.args.game.now) c.args.out.now c.push_line.new.out
    c.push_hands.new.out c.deref.result.now
    (c.deref.ensures ∙ c.in_ok-line.ensures c.args.blind.bits) c.in_ok-push_line.ensures.written is) c.push_hands.ensures.written
