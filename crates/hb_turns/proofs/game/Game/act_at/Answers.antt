use Rattle.hb_rules.specs.declared.acts.Act.{Act}
use Rattle.hb_rules.specs.declared.acts.Action.TheVariants as action
use Rattle.hb_turns.proofs.ViewsLemmas.{act-inside}
use Rattle.hb_turns.proofs.game.Game.act_at.Goals as goal

abbrev none : Act
none = record { who = 0; action = action.Play 0 }

pub returns-clause-legal : goal.returns-clause-legal
returns-clause-legal c =
    rw c.deref.ensures.0
    (act-inside c.self.inside.setup c.self.inside.acts.items c.args.self.now c.args.i none c.self.view_is
    c.requires c.self.invariant.legal).0

pub returns-clause-next : goal.returns-clause-next
returns-clause-next c =
    rw c.deref.ensures.0
    (act-inside c.self.inside.setup c.self.inside.acts.items c.args.self.now c.args.i none c.self.view_is
    c.requires c.self.invariant.legal).1
