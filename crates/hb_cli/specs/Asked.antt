-- What do the words and the input ask for, or why do they ask for nothing that can be done?
use Rattle.std.specs.Prelude.{◌≡◌, ◌⊎◌, ℕ, ◌<◌, ◌≤◌, List, Option, Result, length, IfSome, IsFalse, IsTrue, ⊤}
use Rattle.std.specs.declared.result.Result.TheVariants.{Ok, Err}
use Rattle.std.specs.Borrow.{Bor}
use Rattle.hb_replay.specs.Contents.{Contents}
use Rattle.hb_replay.specs.ReplayReading.{IsReading}
use Rattle.hb_replay.specs.declared.errors.ReplayError.{ReplayError}
use Rattle.hb_script.specs.declared.scripts.Script.{Script}
use Rattle.hb_script.specs.ScriptGrammar.{script_of}
use Rattle.hb_words.specs.declared.commands.Command.{Command}
use Rattle.hb_words.specs.declared.commands.Command.TheVariants.{Games, Make, Replay, Script as RunsScript}
use Rattle.hb_words.specs.declared.commands.ReplayCommand.{ReplayCommand}
use Rattle.hb_words.specs.Commands.{IsCommand, texts_of}
use Rattle.hb_cli.specs.declared.replays.TheConstants.{MOST_INPUT}
use Rattle.hb_cli.specs.declared.status.Stop.{Stop}
use Rattle.hb_cli.specs.declared.status.Stop.TheVariants as stop
use Rattle.hb_cli.specs.Outputs.{has_view, output}

-- the words of the command line, and the bytes of the input, if the source tells them
pub record Asked : Type 0 where
  pub words : List (List ℕ)
  pub told : Option (List ℕ)

abbrev pub asked : List (Bor (List ℕ)) → Option (List ℕ) → Asked
asked words told = record { words = texts_of words; told = told }

-- such words and bytes of which the words ask for a command
abbrev pub WithWords : Command → Option (List ℕ) → (Asked → Type 0) → Type 0
WithWords command told P =
    (words : List (List ℕ)) → IsCommand words command → P (record { words = words; told = told })

-- the words

-- they ask for a command over a replay, of which this holds with the bytes of the input
abbrev pub Asks : Asked → (ReplayCommand → List ℕ → Type 0) → Type 0
Asks a P = (command : ReplayCommand) × IsCommand a.words (Replay command)
    × IfSome a.told (P command)

-- they ask to run a script, and this holds of the bytes of the input
abbrev pub AsksScript : Asked → (List ℕ → Type 0) → Type 0
AsksScript a P = (store : List ℕ) × IsCommand a.words (RunsScript store) × IfSome a.told P

-- they ask for a command that reads, and this holds of the bytes of the input
abbrev pub AsksToRead : Asked → (List ℕ → Type 0) → Type 0
AsksToRead a P = Asks a (λ command. P) ⊎ AsksScript a P

-- they ask for the kept games of a member, of whose name this holds
abbrev pub AsksGames : Asked → (List ℕ → Type 0) → Type 0
AsksGames a P = (store name : List ℕ) × IsCommand a.words (Games store name) × P name

-- they ask for a made script, and this holds of the number of its tables and its seed
abbrev pub AsksMade : Asked → (ℕ → ℕ → Type 0) → Type 0
AsksMade a P = (tables seed : ℕ) × IsCommand a.words (Make tables seed) × P tables seed

-- they ask for nothing that reads, for no script, and for no kept games

abbrev pub ReadsNothing : Asked → Type 0
ReadsNothing a = AsksToRead a (λ bytes. ⊤) → ⊥

abbrev pub AsksNoScript : Asked → Type 0
AsksNoScript a = AsksScript a (λ bytes. ⊤) → ⊥

abbrev pub AsksNoGames : Asked → Type 0
AsksNoGames a = AsksGames a (λ name. ⊤) → ⊥

-- the input

-- an input that is not too long is read so
abbrev pub IsRead : List ℕ → Result Contents ReplayError → Type 0
IsRead bytes reading = (length bytes ≤ MOST_INPUT) × IsReading bytes reading

-- the text that is asked for: what the command writes for the replay that the input is
abbrev pub IsText : Asked → List ℕ → Type 0
IsText a text = Asks a (λ command bytes. (r : Contents) × IsRead bytes (Ok r)
    × IsTrue (has_view command r.game) × (text ≡ output command r))

-- the script that an input is, if it is not too long
abbrev pub IsScriptText : Script → List ℕ → Type 0
IsScriptText s bytes = (length bytes ≤ MOST_INPUT) × (script_of bytes ≡ Ok s)

-- why there is nothing to do, as far as words and input say it
abbrev pub IsStop : Asked → Stop → Type 0
IsStop a stop.Usage = (command : Command) → IsCommand a.words command → ⊥
IsStop a stop.ReadFault = AsksToRead a (λ bytes. ⊤)
IsStop a stop.TooLong = AsksToRead a (λ bytes. MOST_INPUT < length bytes)
IsStop a (stop.Refused refusal) = Asks a (λ command bytes. IsRead bytes (Err refusal))
IsStop a (stop.Line number) = AsksScript a
    (λ bytes. (length bytes ≤ MOST_INPUT) × (script_of bytes ≡ Err number))
IsStop a stop.NoSuchView = Asks a (λ command bytes. (r : Contents) × IsRead bytes (Ok r)
    × IsFalse (has_view command r.game))
IsStop a stop.NoMemory = ⊤
IsStop a _ = ⊥
