-- Numbers in decimal, one digit on.
use Rattle.std.proofs.Common.{◌≡◌, ℕ, ◌+◌, ◌-◌, ◌*◌, ◌<◌, Bool, true, false, cond, List, [], ◌∷◌, suc, arith, refl, ap, ◌∙◌, length, drop, None}
use Rattle.std.specs.Prelude.{slice_index}
use Rattle.std.specs.Char.{is_ascii_digit}
use Rattle.std.proofs.Math.Seq.{drop-cons}
use Rattle.hb_script.specs.ScriptLines.{digits, within}

-- a number that is too large stays so
pub too-large : (most value : ℕ) (bs : List ℕ) → most < value → within 0 most (digits value bs) ≡ None
too-large most value [] large = grind (arith, large)
too-large most value (b ∷ bs) large = pick (is_ascii_digit b) (too-large most (value * 10 + (b - 48)) bs (omega (arith, large)))
  where
    pick : (digit : Bool) → within 0 most (digits (value * 10 + (b - 48)) bs) ≡ None
        → within 0 most (cond digit (digits (value * 10 + (b - 48)) bs) None) ≡ None
    pick true ih = ih
    pick false ih = refl

-- the digits from a place on begin with the one at that place
pub digits-more : (value i : ℕ) (bytes : List ℕ) → i < length bytes → is_ascii_digit (slice_index bytes i) ≡ true
    → digits value (drop i bytes) ≡ digits (value * 10 + (slice_index bytes i - 48)) (drop (suc i) bytes)
digits-more value i bytes low digit = ap (digits value) (drop-cons bytes i 0 low) ∙ rw digit refl
