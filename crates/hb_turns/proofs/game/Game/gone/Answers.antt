use Rattle.std.proofs.Common.{reverse}
use Rattle.hb_turns.proofs.Bounds.{gone-at}
use Rattle.hb_turns.proofs.game.Game.gone.Goals as goal

pub returns-clause-copies : goal.returns-clause-copies
returns-clause-copies c =
    rw (← c.self.view_is)
    (gone-at c.self.inside.setup (reverse c.self.inside.acts.items) c.self.inside.table c.self.invariant.table)
