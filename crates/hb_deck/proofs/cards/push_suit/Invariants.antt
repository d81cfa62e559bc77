use Rattle.std.proofs.Common.{◌≡◌, ◌-◌, ◌++◌}
use Rattle.hb_deck.proofs.Ordered.{cards_to}
use Rattle.hb_deck.proofs.cards.push_suit.Given as goal

abbrev pub invariant-loop-rank : goal.invariant-loop-rank
invariant-loop-rank l = l.list.items ≡ l.initial.list.items ++ cards_to l.variant l.suit (l.rank - 1)
