use Rattle.std.proofs.Common.{reverse}
use Rattle.hb_turns.proofs.Bounds.{tokens-most}
use Rattle.hb_turns.proofs.game.Game.tokens.Goals as goal

pub returns-clause-most : goal.returns-clause-most
returns-clause-most c =
    rw c.self.invariant.table.tokens
    (tokens-most c.self.inside.setup (reverse c.self.inside.acts.items) c.self.invariant.legal)
