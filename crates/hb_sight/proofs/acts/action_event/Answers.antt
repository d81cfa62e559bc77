use Rattle.hb_rules.proofs.Rules.{may_clue}
use Rattle.hb_sight.proofs.acts.action_event.Goals as goal

pub touched-requires : goal.touched-requires
touched-requires c = (may_clue c.args.game.now.setup c.args.game.now.past c.args.who c.in-Clue.to c.in-Clue.clue
    (rw c.in-Clue.is at c.requires)).offered
