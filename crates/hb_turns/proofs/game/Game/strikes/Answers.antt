use Rattle.std.proofs.Common.{reverse}
use Rattle.hb_turns.proofs.Bounds.{strikes-most}
use Rattle.hb_turns.proofs.game.Game.strikes.Goals as goal

pub returns-clause-most : goal.returns-clause-most
returns-clause-most c =
    rw c.self.invariant.table.strikes
    (strikes-most c.self.inside.setup (reverse c.self.inside.acts.items) c.self.invariant.legal)
