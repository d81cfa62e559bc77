use Rattle.std.proofs.Common.{reverse}
use Rattle.hb_rules.proofs.Heights.{height-le}
use Rattle.hb_turns.proofs.Fair.{rank-le}
use Rattle.hb_turns.proofs.game.Game.stack.Goals as goal

pub returns-clause-low : goal.returns-clause-low
returns-clause-low c =
    rw (c.from.ensures, c.self.invariant.table.stacks c.args.suit c.requires)
    (height-le c.self.inside.setup 5 (rank-le c.self.inside.setup c.self.invariant.fair)
    (reverse c.self.inside.acts.items) c.args.suit)
