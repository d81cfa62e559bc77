-- Which words ask for which command? Words are compared byte by byte, numbers are written in
-- decimal, without a sign and without leading zeros, and no word begins with `-`.
use Rattle.std.specs.Prelude.{◌≡◌, ◌<◌, ◌≤◌, ◌^◌, ℕ, List, [], ◌∷◌, Option, Some, None, codes}
use Rattle.std.specs.Prelude.{decimal, length, map}
use Rattle.std.specs.Borrow.{Bor}
use Rattle.hb_io.specs.NameSpelling.{IsName}
use Rattle.hb_words.specs.PlainWords.{IsPlain}
use Rattle.hb_words.specs.declared.commands.Command.{Command}
use Rattle.hb_words.specs.declared.commands.Command.TheVariants.{Replay, Script, Games, Make}
use Rattle.hb_words.specs.declared.commands.ReplayCommand.{ReplayCommand}
use Rattle.hb_words.specs.declared.commands.ReplayCommand.TheVariants.{Watch, Look, Check, Copy}
use Rattle.hb_words.specs.declared.commands.TheConstants.{LAST_SEAT, MOST_TURNS, MOST_STORE}
use Rattle.hb_words.specs.declared.commands.TheConstants.{MOST_TABLES}

-- the texts of words
abbrev pub texts_of : List (Bor (List ℕ)) → List (List ℕ)
texts_of words = map (λ word. word.now) words

-- the word names a store: 1 to 255 bytes, of which the first is no `-`
pub record IsStore (word : List ℕ) : Type 0 where
  pub not_empty : 0 < length word
  pub fits : length word ≤ MOST_STORE
  pub plain : IsPlain word

-- the words ask for the command over a replay: one line a command
abbrev pub IsReplayCommand : List (List ℕ) → ReplayCommand → Type 0
IsReplayCommand words (Watch seat) = (words ≡ codes "watch" ∷ decimal seat ∷ [])
    × (seat ≤ LAST_SEAT)
IsReplayCommand words (Look seat turn) = (words ≡ codes "look" ∷ decimal seat ∷ decimal turn ∷ [])
    × (seat ≤ LAST_SEAT) × (turn ≤ MOST_TURNS)
IsReplayCommand words Check = words ≡ codes "check" ∷ []
IsReplayCommand words Copy = words ≡ codes "copy" ∷ []

-- the words ask for the command: one line a command
abbrev pub IsCommand : List (List ℕ) → Command → Type 0
IsCommand words (Replay command) = IsReplayCommand words command
IsCommand words (Script store) = (words ≡ codes "script" ∷ store ∷ []) × IsStore store
IsCommand words (Games store name) = (words ≡ codes "games" ∷ store ∷ name ∷ []) × IsStore store
    × IsName name × IsPlain name
IsCommand words (Make tables seed) = (words ≡ codes "make" ∷ decimal tables ∷ decimal seed ∷ [])
    × (1 ≤ tables) × (tables ≤ MOST_TABLES) × (seed < 2 ^ 64)

-- words ask for at most one command
abbrev pub WordsAskForOne : Type 0
WordsAskForOne = (words : List (List ℕ)) (c d : Command) → IsCommand words c → IsCommand words d
    → c ≡ d

-- the word of a command that names its store
abbrev pub store_of : Command → Option (List ℕ)
store_of (Script store) = Some store
store_of (Games store name) = Some store
store_of (Replay command) = None
store_of (Make tables seed) = None
