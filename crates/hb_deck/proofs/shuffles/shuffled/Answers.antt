use Rattle.hb_deck.proofs.SameDeck.{IsDeck-shuffled}
use Rattle.hb_deck.proofs.shuffles.shuffled.Goals as goal

pub returns-clause-full : goal.returns-clause-full
returns-clause-full c = rw c.from.ensures (IsDeck-shuffled c.args.variant.now c.in_ok-list.list.items c.in_ok-list.ensures.permutation)
