-- The place of the first byte of a kind.
use Rattle.std.proofs.Common.{◌≡◌, ℕ, ◌<◌, ◌≤◌, Bool, true, false, ◌==◌, List, [], ◌∷◌, suc, arith, refl, ap, ◌∙◌, length, drop, take}
use Rattle.std.specs.declared.option.Option.TheVariants.{Some, None}
use Rattle.std.specs.Prelude.{slice_index}
use Rattle.std.proofs.Math.Seq.{drop-cons}
use Rattle.hb_script.specs.ScriptLines.{at_space, lines_of, with_byte, with_front}
use Rattle.hb_script.specs.ScriptReading.{feed_at, place_by, place_of}

-- where the byte at a place is the wanted one, it is the first of its kind from there on
pub place-here : (wanted i : ℕ) (bytes : List ℕ) → i < length bytes → (slice_index bytes i == wanted) ≡ true
    → place_of wanted (drop i bytes) ≡ 0
place-here wanted i bytes low is = ap (place_of wanted) (drop-cons bytes i 0 low) ∙ rw is refl

-- where the byte at a place is another, the wanted one is one place further than from the next byte on
pub place-more : (wanted i : ℕ) (bytes : List ℕ) → i < length bytes → (slice_index bytes i == wanted) ≡ false
    → place_of wanted (drop i bytes) ≡ suc (place_of wanted (drop (suc i) bytes))
place-more wanted i bytes low is = ap (place_of wanted) (drop-cons bytes i 0 low) ∙ rw is refl

-- the words round the first space
cut_by : (is : Bool) (b : ℕ) (bytes : List ℕ) → (place_of 32 bytes < length bytes
    → at_space bytes ≡ Some (take (place_of 32 bytes) bytes, drop (suc (place_of 32 bytes)) bytes))
    → place_by is (place_of 32 bytes) < suc (length bytes)
    → with_front is b bytes (at_space bytes) ≡ Some (
      take (place_by is (place_of 32 bytes)) (b ∷ bytes),
      drop (suc (place_by is (place_of 32 bytes))) (b ∷ bytes),
    )
cut_by true b bytes ih low = refl
cut_by false b bytes ih low = let same = ih (omega (arith, low)) in rw same refl

-- a text with a space is cut into the bytes before its first space and those behind it
pub space-cut : (bytes : List ℕ) → place_of 32 bytes < length bytes
    → at_space bytes ≡ Some (take (place_of 32 bytes) bytes, drop (suc (place_of 32 bytes)) bytes)
space-cut [] low = absurd (omega (arith, low))
space-cut (b ∷ bytes) low = cut_by (b == 32) b bytes (space-cut bytes) low

none_by : (is : Bool) (b : ℕ) (bytes : List ℕ) → (length bytes ≤ place_of 32 bytes → at_space bytes ≡ None)
    → suc (length bytes) ≤ place_by is (place_of 32 bytes) → with_front is b bytes (at_space bytes) ≡ None
none_by true b bytes ih far = absurd (omega (arith, far))
none_by false b bytes ih far = let same = ih (omega (arith, far)) in rw same refl

-- a text without a space is not cut in two
pub space-none : (bytes : List ℕ) → length bytes ≤ place_of 32 bytes → at_space bytes ≡ None
space-none [] far = refl
space-none (b ∷ bytes) far = none_by (b == 32) b bytes (space-none bytes) far

nil≢cons : (c : ℕ) (more : List ℕ) → [] ≡ c ∷ more → ⊥
nil≢cons c more e = let same : length {A = ℕ} [] ≡ suc (length more) = ap length e in omega (arith, same)

-- the first line, and those behind it
line_by : (is : Bool) (b : ℕ) (bytes : List ℕ) → ((c : ℕ) (more : List ℕ) → bytes ≡ c ∷ more
    → lines_of bytes ≡ take (place_of 10 bytes) bytes ∷ lines_of (drop (suc (place_of 10 bytes)) bytes))
    → with_byte is b (lines_of bytes)
    ≡ take (place_by is (place_of 10 bytes)) (b ∷ bytes) ∷ lines_of (drop (suc (place_by is (place_of 10 bytes))) (b ∷ bytes))
line_by true b bytes ih = refl
line_by false b [] ih = refl
line_by false b (c ∷ bytes) ih = let same = ih c bytes refl in rw same refl

-- a text with bytes has the line up to its first line feed, and then the lines of what stands behind it
pub lines-cut : (b : ℕ) (bytes : List ℕ) → lines_of (b ∷ bytes)
    ≡ take (feed_at (b ∷ bytes)) (b ∷ bytes) ∷ lines_of (drop (suc (feed_at (b ∷ bytes))) (b ∷ bytes))
lines-cut b [] = line_by (b == 10) b [] (λ c more e. absurd (nil≢cons c more e))
lines-cut b (c ∷ bytes) = line_by (b == 10) b (c ∷ bytes) (λ d more e. lines-cut c bytes)
