-- The word of a message, and what follows it.
use Rattle.std.proofs.Common.{◌≡◌, ℕ, ◌+◌, ◌<◌, List, [], ◌∷◌, length, Bool, true, false, refl, arith, ap, sym, ◌∙◌, Bor, suc, take, drop}
use Rattle.std.specs.Prelude.{◌==◌, not, Option, MatchOption}
use Rattle.std.specs.declared.option.Option.TheVariants.{None, Some}
use Rattle.std.specs.List.{before_first, after_first, position_or_len, list_all}
use Rattle.serde_json.specs.Data.{Data}
use Rattle.serde_json.specs.Written.{compact_text}
use Rattle.hb_json.specs.Line.{line}
use Rattle.hb_request.specs.Parsed.{is_space, word_of, rest_of}

take-next : (n b : ℕ) (text : List ℕ) → take (1 + n) (b ∷ text) ≡ b ∷ take n text
take-next n b text = let next : 1 + n ≡ suc n = omega arith in ap (λ k. take k (b ∷ text)) next

drop-next : (n b : ℕ) (text : List ℕ) → drop (1 + n + 1) (b ∷ text) ≡ drop (n + 1) text
drop-next n b text = let next : 1 + n + 1 ≡ suc (n + 1) = omega arith in ap (λ k. drop k (b ∷ text)) next

-- the word is what stands before the first space
pub word_of-before_first : (text : List ℕ) → word_of text ≡ before_first is_space text
word_of-before_first [] = refl
word_of-before_first (b ∷ text) = pick (b == 32) refl (word_of-before_first text)
  where
    pick : (t : Bool) → (b == 32) ≡ t → word_of text ≡ before_first is_space text → word_of (b ∷ text) ≡ before_first is_space (b ∷ text)
    pick true e more = rw e refl
    pick false e more = rw (e, more) (sym (take-next (position_or_len is_space text) b text))

-- the rest is what stands after the first space
pub rest_of-after_first : (text : List ℕ) → position_or_len is_space text < length text → rest_of text ≡ Some (after_first is_space text)
rest_of-after_first [] h = absurd (grind arith)
rest_of-after_first (b ∷ text) h = pick (b == 32) refl (rest_of-after_first text)
  where
    pick : (t : Bool) → (b == 32) ≡ t
        → (position_or_len is_space text < length text → rest_of text ≡ Some (after_first is_space text))
        → rest_of (b ∷ text) ≡ Some (after_first is_space (b ∷ text))
    pick true e more = rw e refl
    pick false e more =
        let found : rest_of text ≡ Some (after_first is_space text) = more (omega (arith, rw e at h)) in
        rw (e, found) (ap Some (sym (drop-next (position_or_len is_space text) b text)))

-- a text without spaces is its own word, and has no rest
pub rest_of-none : (text : List ℕ) → position_or_len is_space text ≡ length text → (rest_of text ≡ None) × (word_of text ≡ text)
rest_of-none [] h = (refl, refl)
rest_of-none (b ∷ text) h = pick (b == 32) refl (rest_of-none text)
  where
    pick : (t : Bool) → (b == 32) ≡ t
        → (position_or_len is_space text ≡ length text → (rest_of text ≡ None) × (word_of text ≡ text))
        → (rest_of (b ∷ text) ≡ None) × (word_of (b ∷ text) ≡ b ∷ text)
    pick true e more = absurd (omega (arith, rw e at h))
    pick false e more =
        let found : (rest_of text ≡ None) × (word_of text ≡ text) = more (omega (arith, rw e at h)) in
        rw (e, found.0, found.1) (refl, refl)

-- the two parts round the first space, or the whole text if there is none
pub word_of-split : (text : List ℕ) (r : Option (Bor (List ℕ) × Bor (List ℕ)))
    → MatchOption r (position_or_len is_space text ≡ length text)
    (λ x. (position_or_len is_space text < length text) × (x.0.now ≡ before_first is_space text) × (x.1.now ≡ after_first is_space text))
    → MatchOption r ((word_of text ≡ text) × (rest_of text ≡ None)) (λ x. (x.0.now ≡ word_of text) × (rest_of text ≡ Some x.1.now))
word_of-split text None h = let none = rest_of-none text h in (none.1, none.0)
word_of-split text (Some x) h = (h.1 ∙ sym (word_of-before_first text), rest_of-after_first text h.0 ∙ ap Some (sym h.2))

-- each byte is no space
abbrev pub has_no_space : List ℕ → Bool
has_no_space word = list_all (λ b. not (b == 32)) word

-- a word without spaces stands before the first space of its line, and the value's text after it
pub word_of-line : (word : List ℕ) (d : Data) → has_no_space word ≡ true
    → (word_of (line word d) ≡ word) × (rest_of (line word d) ≡ Some (compact_text d))
unfolding line
word_of-line [] d h = (refl, refl)
word_of-line (b ∷ word) d h = pick (b == 32) refl (word_of-line word d)
  where
    pick : (t : Bool) → (b == 32) ≡ t
        → (has_no_space word ≡ true → (word_of (line word d) ≡ word) × (rest_of (line word d) ≡ Some (compact_text d)))
        → (word_of (line (b ∷ word) d) ≡ b ∷ word) × (rest_of (line (b ∷ word) d) ≡ Some (compact_text d))
    pick true e more = absurd (grind (arith, e, h))
    pick false e more =
        let found : (word_of (line word d) ≡ word) × (rest_of (line word d) ≡ Some (compact_text d)) = more (grind (arith, e, h)) in
        rw (e, found.0, found.1) (refl, refl)
