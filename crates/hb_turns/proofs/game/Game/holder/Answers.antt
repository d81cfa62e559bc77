use Rattle.std.proofs.Common.{arith, ◌≤◌, length, sym, reverse}
use Rattle.hb_rules.proofs.HandsLemmas.{holder-past}
use Rattle.hb_turns.proofs.game.Game.holder.Goals as goal

pub returns-else-from-lt-MOST_CARDS-clause-holder : goal.returns-else-from-lt-MOST_CARDS-clause-holder
returns-else-from-lt-MOST_CARDS-clause-holder c =
    let long : length c.self.inside.setup.deck.items ≤ 60 = c.self.invariant.fair.long in
    let far : length c.self.inside.setup.deck.items ≤ c.args.order = omega arith in
    rw (← c.self.view_is)
    (sym
    (holder-past c.self.inside.setup (reverse c.self.inside.acts.items) c.args.order
    c.self.invariant.fair.dealt far))
