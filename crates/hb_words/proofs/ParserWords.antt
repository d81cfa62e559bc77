-- What does the parser do with a word that has no hyphen in front?
use Rattle.std.proofs.Common.{◌≡◌, ◌&&◌, ◌==◌, ℕ, Bool, cond, true, false, true≢false, refl, ap, ap₂, List, [], ◌∷◌, Some, None, is_some}
use Rattle.std.specs.Str.{bytes_eq}
use Rattle.std.proofs.lemmas.Bool.{eqb-true}
use Rattle.clap.specs.Lexer.{strip_byte, long_of, short_of}
use Rattle.clap.specs.Words.{Rule, Shape, Text}
use Rattle.clap.specs.Walk.{Held, Names, Walk, idle, value, walked, word_met, subcommand_met, to_positional, arg_by_index, after_step}
use Rattle.clap.specs.Kinds.{or_else}
use Rattle.clap.specs.Faults.{walk_fault, word_fault, step_fault}
use Rattle.hb_words.specs.PlainWords.{IsPlain}

no_hyphen : (w : Text) → IsPlain w → strip_byte 45 w ≡ None
no_hyphen [] plain = refl
no_hyphen (x ∷ xs) plain = go (x == 45) (λ same. plain (ap (λ y. Some y) (eqb-true x 45 same)))
  where
    go : (b : Bool) → (b ≡ true → ⊥) → cond b (Some xs) None ≡ None
    go true not = absurd (not refl)
    go false not = refl

not_dashes : (w : Text) → strip_byte 45 w ≡ None → bytes_eq w (45 ∷ 45 ∷ []) ≡ false
not_dashes [] plain = refl
not_dashes (x ∷ xs) plain = go (x == 45) plain
  where
    go : (b : Bool) → cond b (Some xs) None ≡ None → (b && bytes_eq xs (45 ∷ [])) ≡ false
    go true e = absurd (true≢false (ap is_some e))
    go false e = refl

-- a walk over words, between two of them, before a command
abbrev pub at : Held → ℕ → Walk
at h p = record { held = h; waiting = idle; position = p; is_trailing = false; stopped = None }

module _ (names : Names) (w : Text) (none : subcommand_met names idle w ≡ None) (plain : IsPlain w) where
  here : strip_byte 45 w ≡ None
  here = no_hyphen w plain

  no_long : long_of w ≡ None
  no_long = rw here refl

  no_short : short_of w ≡ None
  no_short = rw here refl

  plain_met : (c : List Rule) (p : ℕ) (h : Held) → word_met c names false idle p w h ≡ (h, value)
  plain_met c p h = rw (none, not_dashes w here, no_long, no_short) refl

  plain_fault : (s : Shape) (h : Held) → word_fault s names false idle w h ≡ []
  plain_fault s h = rw (none, not_dashes w here, no_long, no_short) refl

  -- the word is a value
  pub walk_step : (c : List Rule) (p : ℕ) (h : Held) → walked c names (at h p) w ≡ to_positional c (arg_by_index c p) w (at h p) h
  unfolding walked
  walk_step c p h = ap (λ met. after_step c w (at h p) met.0 met.1) (plain_met c p h)

  -- a plain word is a value of the next place, or a fault there, and the walk goes on behind it
  pub fault_step : (s : Shape) (p : ℕ) (h : Held) (rest : List Text)
      → walk_fault s names (at h p) (w ∷ rest) ≡ or_else (step_fault s p h value)
      (walk_fault s names (to_positional s.rules (arg_by_index s.rules p) w (at h p) h) rest)
  unfolding walk_fault walked
  fault_step s p h rest =
      ap₂ (λ k met. or_else (or_else k (step_fault s p met.0 met.1)) (walk_fault s names (after_step s.rules w (at h p) met.0 met.1) rest))
      (plain_fault s h) (plain_met s.rules p h)
