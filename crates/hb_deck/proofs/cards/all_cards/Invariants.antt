use Rattle.std.proofs.Common.{◌≡◌}
use Rattle.hb_deck.proofs.Ordered.{cards_below}
use Rattle.hb_deck.proofs.cards.all_cards.Given as goal

abbrev pub invariant-loop-suit : goal.invariant-loop-suit
invariant-loop-suit l = l.list.items ≡ cards_below l.variant l.suit
