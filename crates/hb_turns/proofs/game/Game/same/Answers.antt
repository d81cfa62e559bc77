use Rattle.std.proofs.Common.{◌∙◌}
use Rattle.hb_turns.proofs.StartLemmas.{same-kept}
use Rattle.hb_turns.proofs.game.Game.same.Goals as goal

pub invariant_of-result : goal.invariant_of-result
invariant_of-result c =
    same-kept c.self.inside.setup c.same_setup.result c.self.inside.acts.items c.copied.result.items
    c.self.inside.table c.self.inside.masks c.self.inside.ended c.same_setup.ensures
    (c.copied.ensures ∙ c.deref.ensures.0) c.self.invariant
