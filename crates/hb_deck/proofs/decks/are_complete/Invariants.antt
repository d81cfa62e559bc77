use Rattle.std.proofs.Common.{◌≡◌, ℕ, ◌<◌}
use Rattle.hb_rules.specs.Cards.{copies, count_of, identity}
use Rattle.hb_deck.proofs.decks.are_complete.Given as goal

abbrev pub invariant-loop-number : goal.invariant-loop-number
invariant-loop-number l = (n : ℕ) → n < l.number → count_of (identity n) l.cards ≡ copies l.variant (identity n)
