-- For which one server can words ask, and for which command not?
use Rattle.std.proofs.Common.{◌≡◌, ◌∙◌, ℕ, List, [], ◌∷◌, sym, ap, arith, true≢false, codes}
use Rattle.std.specs.Prelude.{decimal, slice_get, unwrap_or}
use Rattle.hb_words.specs.Servers.{ServersAreNoCommands, WordsAskForOneServer}
use Rattle.hb_words.specs.Stores.{word_of}
use Rattle.hb_words.proofs.CommandWords.{formed}
use Rattle.hb_words.proofs.Numerals.{decimal-same}
use Rattle.hb_words.proofs.ParserCommands.{has_form}

abbrev word_at : ℕ → List (List ℕ) → List ℕ
word_at i words = unwrap_or (slice_get words i) []

-- words ask for at most one server
pub one_server : WordsAskForOneServer
one_server words c d first other =
    let same : codes "serve" ∷ c.address.now ∷ decimal c.rooms ∷ word_of c.store ∷ []
    ≡ codes "serve" ∷ d.address.now ∷ decimal d.rooms ∷ word_of d.store ∷ [] = sym first.spelled ∙ other.spelled in (
      ap (word_at 1) same,
      decimal-same c.rooms d.rooms (omega (arith, first.few_rooms)) (omega (arith, other.few_rooms)) (ap (word_at 2) same),
      ap (word_at 3) same,
    )

-- words that ask for a server have not the form of a command
pub no_command : ServersAreNoCommands
no_command words server command serves asks = true≢false (sym (formed words command asks) ∙ ap has_form serves.spelled)
