use Rattle.std.proofs.Common.{arith, ◌≡◌, ◌<◌, true}
use Rattle.hb_rules.specs.declared.acts.Clue.TheVariants as clue
use Rattle.hb_rules.specs.Touch.{offers}
use Rattle.hb_turns.proofs.ClueMaskLemmas.{color-lt}
use Rattle.hb_turns.proofs.game.Game.mask.Goals as goal

pub bounds-self-inside-from : goal.bounds-self-inside-from
bounds-self-inside-from c =
    let offered : offers c.args.self.now.setup.variant (clue.Color c.in-Color.color) ≡ true = rw c.in-Color.is at c.requires in
    omega (arith, color-lt c.args.self.now.setup.variant c.in-Color.color offered, c.from.ensures)

pub returns-in-Color : goal.returns-in-Color
returns-in-Color c =
    let offered : offers c.args.self.now.setup.variant (clue.Color c.in-Color.color) ≡ true = rw c.in-Color.is at c.requires in
    let low : c.in-Color.color < 6 = color-lt c.args.self.now.setup.variant c.in-Color.color offered in
    rw (c.in-Color.is, c.from.ensures, ← c.self.view_is)
    (c.self.invariant.masks.colors c.in-Color.color low (rw (← c.self.view_is) at offered))
