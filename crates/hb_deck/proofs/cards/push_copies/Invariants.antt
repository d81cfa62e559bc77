use Rattle.std.proofs.Common.{◌≡◌, ◌++◌, replicate}
use Rattle.hb_deck.proofs.cards.push_copies.Given as goal

abbrev pub invariant-loop : goal.invariant-loop
invariant-loop l = l.list.items ≡ l.initial.list.items ++ replicate l.counter l.id
