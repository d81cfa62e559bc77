use Rattle.std.proofs.Common.{arith, ◌<◌, length, reverse}
use Rattle.hb_turns.proofs.ViewsLemmas.{held-low}
use Rattle.hb_turns.proofs.game.Game.marks.Goals as goal

pub bounds-self-inside-from : goal.bounds-self-inside-from
bounds-self-inside-from c =
    let low : c.args.order < length c.self.inside.setup.deck.items =
    held-low c.self.inside.setup (reverse c.self.inside.acts.items) c.args.self.now c.args.order
    c.self.view_is c.self.invariant.fair c.requires in
    omega (arith, c.self.invariant.fair.long)

pub returns : goal.returns
returns c =
    let low : c.args.order < length c.self.inside.setup.deck.items =
    held-low c.self.inside.setup (reverse c.self.inside.acts.items) c.args.self.now c.args.order
    c.self.view_is c.self.invariant.fair c.requires in
    let below : c.args.order < 60 = omega (arith, c.self.invariant.fair.long) in
    rw (c.from.ensures, ← c.self.view_is) (λ n. c.self.invariant.table.marks c.args.order n below)
