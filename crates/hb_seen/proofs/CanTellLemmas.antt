-- Of which acts can a seat tell which rule they break? Of all its own; and who sees all hands can tell of each act.
use Rattle.std.proofs.Common.{◌≡◌, ◌≢◌, ℕ, ◌^◌, Bool, true, false, refl, ap, ◌∙◌, arith}
use Rattle.std.specs.Prelude.{◌==◌, ◌||◌, not, IsTrue}
use Rattle.std.specs.Int.{bit_at}
use Rattle.std.proofs.Math.Bool.{or-true}
use Rattle.std.proofs.lemmas.Nat.Bits.{bit_at-pow_same, bit_at-pow_other, bit_at-zero}
use Rattle.hb_rules.specs.declared.acts.Action.{Action}
use Rattle.hb_rules.specs.declared.acts.Action.TheVariants as action
use Rattle.hb_rules.specs.Events.{in_blind}
use Rattle.hb_seen.specs.SeenSetup.{can_tell}

one-test : (b seat other : ℕ) → (other ≡ seat → b ≡ 1) → (other ≢ seat → b ≡ 0) → (b == 1) ≡ (other == seat)
one-test b seat other same apart = grind arith

-- in the blind set of one seat is that seat alone
pub in_blind-one : (seat other : ℕ) → in_blind (2 ^ seat) other ≡ (other == seat)
in_blind-one seat other =
    let same : other ≡ seat → bit_at (2 ^ seat) other ≡ 1 = λ e. rw e (bit_at-pow_same seat) in
    one-test (bit_at (2 ^ seat) other) seat other same (bit_at-pow_other seat other)

-- in the empty one is no seat
pub in_blind-none : (other : ℕ) → in_blind 0 other ≡ false
in_blind-none other = rw (bit_at-zero other) refl

or-not : (b : Bool) → (b || not b) ≡ true
or-not true = refl
or-not false = refl

-- a seat can tell of each of its own acts
pub can_tell-own : (seat : ℕ) (a : Action) → IsTrue (can_tell (2 ^ seat) seat a)
can_tell-own seat (action.Play order) = refl
can_tell-own seat (action.Discard order) = refl
can_tell-own seat (action.Clue to clue) = ap (λ b. (to == seat) || not b) (in_blind-one seat to) ∙ or-not (to == seat)
can_tell-own seat (action.End how) = refl

-- who sees all hands can tell of each act
pub can_tell-all : (who : ℕ) (a : Action) → IsTrue (can_tell 0 who a)
can_tell-all who (action.Play order) = refl
can_tell-all who (action.Discard order) = refl
can_tell-all who (action.Clue to clue) = ap (λ b. (to == who) || not b) (in_blind-none to) ∙ or-true (to == who)
can_tell-all who (action.End how) = refl
