-- Which one command can words ask for?
use Rattle.std.proofs.Common.{◌≡◌, ◌∙◌, ℕ, List, [], sym, ap, ap₂, subst, arith, cond, codes}
use Rattle.std.specs.Prelude.{slice_get, unwrap_or}
use Rattle.std.specs.Str.{bytes_eq}
use Rattle.std.specs.Str.Parse.{digits_value}
use Rattle.hb_words.specs.Commands.{IsCommand}
use Rattle.hb_words.specs.declared.commands.Command.{Command}
use Rattle.hb_words.specs.declared.commands.Command.TheVariants.{Replay, Script, Games, Make}
use Rattle.hb_words.specs.declared.commands.ReplayCommand.TheVariants.{Watch, Look, Check, Copy}
use Rattle.hb_words.proofs.Numerals.{value-decimal}

abbrev word_at : ℕ → List (List ℕ) → List ℕ
word_at i words = unwrap_or (slice_get words i) []

abbrev number_at : ℕ → List (List ℕ) → ℕ
number_at i words = digits_value 10 (word_at i words)

-- the only command that the words may ask for
abbrev pub decoded : List (List ℕ) → Command
decoded words =
    let is : List ℕ → _ = λ name. bytes_eq name (word_at 0 words) in
    cond (is (codes "watch")) (Replay (Watch (number_at 1 words)))
    (cond (is (codes "look")) (Replay (Look (number_at 1 words) (number_at 2 words)))
    (cond (is (codes "check")) (Replay Check)
    (cond (is (codes "copy")) (Replay Copy)
    (cond (is (codes "script")) (Script (word_at 1 words))
    (cond (is (codes "games")) (Games (word_at 1 words) (word_at 2 words))
    (Make (number_at 1 words) (number_at 2 words)))))))

-- words that ask for a command ask for that one
pub is_decoded : (words : List (List ℕ)) (c : Command) → IsCommand words c → c ≡ decoded words
is_decoded words (Replay (Watch seat)) h =
    ap (λ n. Replay (Watch n)) (sym (value-decimal seat (omega (arith, h.1)))) ∙ sym (ap decoded h.0)
is_decoded words (Replay (Look seat turn)) h =
    ap₂ (λ n m. Replay (Look n m)) (sym (value-decimal seat (omega (arith, h.1))))
    (sym (value-decimal turn (omega (arith, h.2)))) ∙ sym (ap decoded h.0)
is_decoded words (Replay Check) h = sym (ap decoded h)
is_decoded words (Replay Copy) h = sym (ap decoded h)
is_decoded words (Script store) h = sym (ap decoded h.0)
is_decoded words (Games store name) h = sym (ap decoded h.0)
is_decoded words (Make tables seed) h =
    ap₂ (λ n m. Make n m) (sym (value-decimal tables (omega (arith, h.2))))
    (sym (value-decimal seed h.3)) ∙ sym (ap decoded h.0)

-- words that do not ask for it ask for none
pub none_but_decoded : (words : List (List ℕ)) → (IsCommand words (decoded words) → ⊥) → (c : Command)
    → IsCommand words c → ⊥
none_but_decoded words not c h = not (subst (IsCommand words) (is_decoded words c h) h)
