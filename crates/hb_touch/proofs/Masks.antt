-- A set of the numbers that pass a test, one number on.
use Rattle.std.proofs.Common.{◌≡◌, ◌≢◌, ℕ, ◌+◌, Bool, true, false, refl, arith}
use Rattle.std.specs.Prelude.{◌==◌, ◌&&◌, nat_lt}
use Rattle.hb_sets.specs.Sets.{bit, Has}

-- the set holds the numbers below n that pass
abbrev pub Holds : (ℕ → Bool) → ℕ → ℕ → Type 0
Holds passes n set = (k : ℕ) → (bit set k == 1) ≡ (nat_lt k n && passes k)

-- n passes and is put in
pub Holds-with : (passes : ℕ → Bool) (n before after : ℕ) → Holds passes n before → passes n ≡ true
    → Has after n → ((k : ℕ) → k ≢ n → bit after k ≡ bit before k) → Holds passes (n + 1) after
Holds-with passes n before after held passed put rest k = pick (k == n) refl
  where
    pick : (b : Bool) → (k == n) ≡ b → (bit after k == 1) ≡ (nat_lt k (n + 1) && passes k)
    pick true e = let same : k ≡ n = grind arith in rw same (grind arith)
    pick false e = let apart : k ≢ n = grind arith in grind (arith, rest k apart, held k)

-- n does not pass, and the set stays
pub Holds-without : (passes : ℕ → Bool) (n set : ℕ) → Holds passes n set → passes n ≡ false → Holds passes (n + 1) set
Holds-without passes n set held failed k = pick (k == n) refl
  where
    pick : (b : Bool) → (k == n) ≡ b → (bit set k == 1) ≡ (nat_lt k (n + 1) && passes k)
    pick true e = let same : k ≡ n = grind arith in rw same (grind (arith, held n))
    pick false e = grind (arith, held k)
