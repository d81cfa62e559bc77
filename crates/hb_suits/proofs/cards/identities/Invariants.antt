use Rattle.std.proofs.Common.{◌≡◌, ℕ}
use Rattle.std.specs.Prelude.{◌==◌, ◌&&◌, nat_lt}
use Rattle.hb_rules.specs.Cards.{has_number}
use Rattle.hb_sets.specs.Sets.{bit}
use Rattle.hb_suits.proofs.cards.identities.Given as goal

abbrev pub invariant-loop-number : goal.invariant-loop-number
invariant-loop-number l = (n : ℕ) → (bit l.set n == 1) ≡ (nat_lt n l.number && has_number l.variant n)
