-- Which seats does a blind set have, by its bits?
use Rattle.std.proofs.Common.{◌≡◌, ◌≢◌, ℕ, ◌-◌, ◌^◌, ◌<◌, ◌≤◌, arith, max}
use Rattle.std.specs.Prelude.{◌==◌, ◌||◌, nat_lt, bit_or}
use Rattle.std.specs.Int.{bit_at}
use Rattle.std.proofs.lemmas.Nat.Bits.{bit_at_ones, bit_at_ones_above, bit_at_or, bit_at-pow_same, bit_at-pow_other, bit_at-lt}
use Rattle.hb_rules.specs.Events.{in_blind}

ones-test : (b n seat : ℕ) → (seat < n → b ≡ 1) → (n ≤ seat → b ≡ 0) → (b == 1) ≡ nat_lt seat n
ones-test b n seat low far = grind arith

-- the lowest n bits are the seats below n
pub in-ones : (n seat : ℕ) → in_blind (2 ^ n - 1) seat ≡ nat_lt seat n
in-ones n seat = ones-test (bit_at (2 ^ n - 1) seat) n seat (bit_at_ones n seat) (bit_at_ones_above n seat)

either-test : (m a b seat other : ℕ) → m ≡ max a b → a < 2 → (other ≡ seat → b ≡ 1) → (other ≢ seat → b ≡ 0)
    → (m == 1) ≡ (other == seat || a == 1)
either-test m a b seat other is low one zero = grind arith

-- one bit more is one seat more
pub in-or : (bits seat other : ℕ) → in_blind (bit_or bits (2 ^ seat)) other ≡ (other == seat || in_blind bits other)
in-or bits seat other =
    let same : other ≡ seat → bit_at (2 ^ seat) other ≡ 1 = λ e. rw e (bit_at-pow_same seat) in
    either-test (bit_at (bit_or bits (2 ^ seat)) other) (bit_at bits other) (bit_at (2 ^ seat) other) seat other
    (bit_at_or bits (2 ^ seat) other) (bit_at-lt bits other) same (bit_at-pow_other seat other)
