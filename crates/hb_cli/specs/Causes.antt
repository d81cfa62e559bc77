-- Do words and input give at most one cause why there is nothing to do, and is there nothing to do
-- then?
use Rattle.std.specs.Prelude.{◌≡◌, ◌≢◌, ◌⊎◌, ⊤, ℕ, List, Some}
use Rattle.hb_replay.specs.declared.errors.ReplayError.TheVariants.{NoMemory}
use Rattle.hb_script.specs.declared.scripts.Script.{Script}
use Rattle.hb_cli.specs.declared.status.Stop.{Stop}
use Rattle.hb_cli.specs.declared.status.Stop.TheVariants as stop
use Rattle.hb_cli.specs.Asked.{Asked, AsksGames, AsksMade, AsksScript, IsScriptText, IsStop, IsText}

-- a cause that words and input give, whatever memory, streams and the keeper do
abbrev pub IsGiven : Stop → Type 0
IsGiven stop.Usage = ⊤
IsGiven stop.TooLong = ⊤
IsGiven (stop.Refused refusal) = refusal ≢ NoMemory
IsGiven (stop.Line number) = ⊤
IsGiven stop.NoSuchView = ⊤
IsGiven _ = ⊥

-- there is something to do: a text to write, a script to run, games to list, or a script to make
abbrev pub HasWork : Asked → Type 0
HasWork a = ((text : List ℕ) × IsText a text)
    ⊎ AsksScript a (λ bytes. (s : Script) × IsScriptText s bytes)
    ⊎ AsksGames a (λ name. ⊤)
    ⊎ AsksMade a (λ tables seed. ⊤)

-- words, and an input that tells its bytes
abbrev pub told_input : List (List ℕ) → List ℕ → Asked
told_input words bytes = record { words = words; told = Some bytes }

abbrev pub OneCause : Type 0
OneCause = (words : List (List ℕ)) (bytes : List ℕ) (x y : Stop) → IsGiven x → IsGiven y
    → IsStop (told_input words bytes) x → IsStop (told_input words bytes) y → x ≡ y

abbrev pub NoWorkThen : Type 0
NoWorkThen = (words : List (List ℕ)) (bytes : List ℕ) (why : Stop) → IsGiven why
    → IsStop (told_input words bytes) why → HasWork (told_input words bytes) → ⊥
