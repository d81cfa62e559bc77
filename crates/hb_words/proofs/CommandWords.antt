-- What holds of the words of each command?
use Rattle.std.proofs.Common.{◌≡◌, ◌∙◌, ℕ, List, [], ◌∷◌, suc, sym, ap, subst, arith, refl, true, true≢false, codes}
use Rattle.std.specs.Prelude.{All, Some, decimal, slice_get}
use Rattle.std.specs.Borrow.{Bor}
use Rattle.std.proofs.lemmas.List.Elements.{All-cons, All-nil, All-map}
use Rattle.clap.specs.Words.{Text, fault_of}
use Rattle.hb_words.specs.Commands.{IsCommand, texts_of}
use Rattle.hb_words.specs.Interface.{all_commands}
use Rattle.hb_words.specs.PlainWords.{IsPlain}
use Rattle.hb_words.specs.declared.commands.Command.{Command}
use Rattle.hb_words.specs.declared.commands.Command.TheVariants.{Replay, Script, Games, Make}
use Rattle.hb_words.specs.declared.commands.ReplayCommand.TheVariants.{Watch, Look, Check, Copy}
use Rattle.hb_words.proofs.Numerals.{decimal-plain, some_same}
use Rattle.hb_words.proofs.ParserCommands.{AllPlain, has_form}
use Rattle.hb_words.proofs.PartsFound.{formless}

literal : (w : Text) (x : ℕ) → slice_get w 0 ≡ Some x → (x ≡ 45 → ⊥) → IsPlain w
literal w x is other = λ e. other (some_same (sym is ∙ e))

watch : IsPlain (codes "watch")
watch = literal (codes "watch") 119 refl (λ e. omega (arith, e))

look : IsPlain (codes "look")
look = literal (codes "look") 108 refl (λ e. omega (arith, e))

check : IsPlain (codes "check")
check = literal (codes "check") 99 refl (λ e. omega (arith, e))

copy : IsPlain (codes "copy")
copy = literal (codes "copy") 99 refl (λ e. omega (arith, e))

script : IsPlain (codes "script")
script = literal (codes "script") 115 refl (λ e. omega (arith, e))

games : IsPlain (codes "games")
games = literal (codes "games") 103 refl (λ e. omega (arith, e))

make : IsPlain (codes "make")
make = literal (codes "make") 109 refl (λ e. omega (arith, e))

one : (a : Text) → IsPlain a → All IsPlain (a ∷ [])
one a plain = All-cons IsPlain a [] plain (All-nil IsPlain)

two : (a b : Text) → IsPlain a → IsPlain b → All IsPlain (a ∷ b ∷ [])
two a b plain also = All-cons IsPlain a (b ∷ []) plain (one b also)

three : (a b c : Text) → IsPlain a → IsPlain b → IsPlain c → All IsPlain (a ∷ b ∷ c ∷ [])
three a b c plain also third = All-cons IsPlain a (b ∷ c ∷ []) plain (two b c also third)

-- no word of a command begins with `-`
pub words_plain : (words : List Text) (c : Command) → IsCommand words c → All IsPlain words
words_plain words (Replay (Watch seat)) h =
    subst (All IsPlain) (sym h.0) (two (codes "watch") (decimal seat) watch (decimal-plain seat (omega (arith, h.1))))
words_plain words (Replay (Look seat turn)) h =
    subst (All IsPlain) (sym h.0) (three (codes "look") (decimal seat) (decimal turn) look
    (decimal-plain seat (omega (arith, h.1))) (decimal-plain turn (omega (arith, h.2))))
words_plain words (Replay Check) h = subst (All IsPlain) (sym h) (one (codes "check") check)
words_plain words (Replay Copy) h = subst (All IsPlain) (sym h) (one (codes "copy") copy)
words_plain words (Script store) h = subst (All IsPlain) (sym h.0) (two (codes "script") store script h.1.plain)
words_plain words (Games store name) h = subst (All IsPlain) (sym h.0) (three (codes "games") store name games h.1.plain h.3)
words_plain words (Make tables seed) h =
    subst (All IsPlain) (sym h.0) (three (codes "make") (decimal tables) (decimal seed) make
    (decimal-plain tables (omega (arith, h.2))) (decimal-plain seed h.3))

-- words that ask for a command have the form of one
pub formed : (words : List Text) (c : Command) → IsCommand words c → has_form words ≡ true
formed words (Replay (Watch seat)) h = ap has_form h.0
formed words (Replay (Look seat turn)) h = ap has_form h.0
formed words (Replay Check) h = ap has_form h
formed words (Replay Copy) h = ap has_form h
formed words (Script store) h = ap has_form h.0
formed words (Games store name) h = ap has_form h.0
formed words (Make tables seed) h = ap has_form h.0

-- plain words, as the parser's proofs have them
pub each_plain : (words : List Text) → All IsPlain words → AllPlain words
each_plain [] plain = tt
each_plain (w ∷ words) plain = (plain 0 w (omega arith), each_plain words (λ k d lt. plain (suc k) d (omega (arith, lt))))

-- each text is plain if each word is
pub texts_plain : (words : List (Bor Text)) → All (λ word. IsPlain word.now) words → All IsPlain (texts_of words)
texts_plain words plain = All-map IsPlain (λ (word : Bor Text). word.now) words plain

-- each word is plain if each text is
pub borrowed_plain : (words : List (Bor Text)) → All IsPlain (texts_of words) → All (λ word. IsPlain word.now) words
borrowed_plain [] plain = All-nil (λ (word : Bor Text). IsPlain word.now)
borrowed_plain (w ∷ words) plain =
    All-cons (λ (word : Bor Text). IsPlain word.now) w words (plain 0 w.now (omega arith))
    (borrowed_plain words (λ k d lt. plain (suc k) d (omega (arith, lt))))

-- words that the parser refuses ask for no command
pub refused_asks_none : (words : List Text) → All IsPlain words → (fault_of all_commands words ≡ [] → ⊥)
    → (c : Command) → IsCommand words c → ⊥
refused_asks_none words plain fails c h = true≢false (sym (formed words c h) ∙ formless words (each_plain words plain) fails)
