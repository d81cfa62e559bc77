use Rattle.std.proofs.Common.{arith, rules, sym, ◌∙◌}
use Rattle.std.proofs.lemmas.Grind.{common_steps}
use Rattle.hb_game_lines.proofs.SeenState.{seen_state-is}
use Rattle.hb_game_lines.proofs.standing.state_of.Goals as goal

pub returns-clause-is : goal.returns-clause-is
returns-clause-is c = first_of (search rules, grind (arith, common_steps))

pub returns-clause-seen : goal.returns-clause-seen
returns-clause-seen c = λ blind.
    returns-clause-is c ∙ sym (seen_state-is blind c.args.game.now c.act_count.ensures.played.fair.full)
