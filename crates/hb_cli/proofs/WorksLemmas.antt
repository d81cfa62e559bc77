-- What is done for the words and the input, by what a command does?
use Rattle.std.proofs.Common.{◌≡◌, ◌≢◌, ◌≤◌, ◌∙◌, ℕ, List, [], Option, Some, None, inl, inr, length, subst, sym}
use Rattle.std.specs.Prelude.{◌⊎◌, ⊤, IfSome, Ok, Err}
use Rattle.hb_script.specs.declared.scripts.Script.{Script}
use Rattle.hb_script.specs.declared.scripts.ScriptError.{ScriptError}
use Rattle.hb_script.specs.declared.scripts.ScriptError.TheVariants as script_error
use Rattle.hb_script.specs.ScriptGrammar.{IsUnread, script_of}
use Rattle.hb_io.specs.Causes.{Rose}
use Rattle.hb_house.specs.KeeperSteps.{Telling}
use Rattle.hb_words.proofs.Decoded.{is_decoded}
use Rattle.hb_words.specs.Commands.{IsCommand}
use Rattle.hb_words.specs.declared.commands.Command.{Command}
use Rattle.hb_words.specs.declared.commands.Command.TheVariants.{Games, Make, Replay, Script as RunsScript}
use Rattle.hb_words.specs.declared.commands.ReplayCommand.{ReplayCommand}
use Rattle.hb_cli.specs.declared.status.Stop.{Stop}
use Rattle.hb_cli.specs.declared.status.Stop.TheVariants as stop
use Rattle.hb_cli.specs.declared.replays.TheConstants.{MOST_INPUT}
use Rattle.hb_cli.specs.Asked.{Asked, AsksGames, AsksScript, AsksToRead, IsScriptText, IsStop, IsText, ReadsNothing}
use Rattle.hb_cli.specs.Statuses.{stop_of_script}
use Rattle.hb_cli.specs.Works.{OfMade, Stops}
use Rattle.hb_cli.specs.Written.{FailsIn, Sent, Writes}

-- words that ask for no command ask for nothing that reads
pub none_reads : (a : Asked) → IsStop a stop.Usage → ReadsNothing a
none_reads a none (inl (command, is, told)) = none (Replay command) is
none_reads a none (inr (store, is, told)) = none (RunsScript store) is

told_any : (o : Option (List ℕ)) → IfSome o (λ bytes. ⊤)
told_any None = tt
told_any (Some bytes) = tt

-- what words ask for, whatever the input is

-- words that are a command over a replay ask for a command that reads
pub asks_to_read_replay : (a : Asked) (command : ReplayCommand) → IsCommand a.words (Replay command) → AsksToRead a (λ bytes. ⊤)
asks_to_read_replay a command is = inl (command, is, told_any a.told)

-- words that are the command to run a script ask for a script
pub asks_script : (a : Asked) (store : List ℕ) → IsCommand a.words (RunsScript store) → AsksScript a (λ bytes. ⊤)
asks_script a store is = (store, is, told_any a.told)

-- words that are the command for the games of a member ask for kept games, whatever the name is
pub asks_games : (a : Asked) (store name : List ℕ) → IsCommand a.words (Games store name) → AsksGames a (λ name. ⊤)
asks_games a store name is = (store, name, is, tt)

-- words ask for at most one command
pub one_command : (words : List (List ℕ)) (c d : Command) → IsCommand words c → IsCommand words d → c ≡ d
one_command words c d first other = is_decoded words c first ∙ sym (is_decoded words d other)

-- words that ask for games ask for nothing that reads
pub games_read_nothing : (a : Asked) (store name : List ℕ) → IsCommand a.words (Games store name) → ReadsNothing a
games_read_nothing a store name is (inl (command, other, told)) =
    let same : Games store name ≡ Replay command = one_command a.words (Games store name) (Replay command) is other in cc
games_read_nothing a store name is (inr (path, other, told)) =
    let same : Games store name ≡ RunsScript path = one_command a.words (Games store name) (RunsScript path) is other in cc

-- words that ask for a made script ask for nothing that reads
pub made_reads_nothing : (a : Asked) (tables seed : ℕ) → IsCommand a.words (Make tables seed) → ReadsNothing a
made_reads_nothing a tables seed is (inl (command, other, told)) =
    let same : Make tables seed ≡ Replay command = one_command a.words (Make tables seed) (Replay command) is other in cc
made_reads_nothing a tables seed is (inr (path, other, told)) =
    let same : Make tables seed ≡ RunsScript path = one_command a.words (Make tables seed) (RunsScript path) is other in cc

-- why a made script is not summed up: memory ran out, or the output failed
abbrev pub MadeStops : Asked → Sent → Stop → Type 0
MadeStops a out why =
    ((why ≡ stop.NoMemory) × Writes out []) ⊎ ((why ≡ stop.WriteFault) × OfMade a (FailsIn out))

-- so it is no other cause
pub made_other : (a : Asked) (out : Sent) (why other : Stop) → MadeStops a out why → other ≢ stop.NoMemory → other ≢ stop.WriteFault
    → why ≡ other → ⊥
made_other a out why other (inl plain) memory output is = memory (sym is ∙ plain.0)
made_other a out why other (inr fails) memory output is = output (sym is ∙ fails.0)

module _ (a : Asked) (Was Left : Telling → Type 0) (sure : Type 0) (out : Sent) where
  -- a cause for which a made script is not summed up is one for which the work stops
  pub made_stops : (why : Stop) → MadeStops a out why → Stops a Was Left sure out why
  made_stops why (inl plain) = subst (Stops a Was Left sure out) (sym plain.0) (inr plain.1)
  made_stops why (inr fails) = subst (Stops a Was Left sure out) (sym fails.0) (inr (inr (inr fails.1)))

  -- a cause that words and input give
  pub stops_by : (why : Stop) → IsStop a why → Writes out [] → Stops a Was Left sure out why
  stops_by stop.Usage is nothing = (is, nothing)
  stops_by stop.ReadFault is nothing = (is, nothing)
  stops_by stop.WriteFault is nothing = absurd is
  stops_by stop.TooLong is nothing = (is, nothing)
  stops_by (stop.Refused e) is nothing = (is, nothing)
  stops_by (stop.Line number) is nothing = (is, nothing)
  stops_by stop.KeeperFault is nothing = absurd is
  stops_by stop.NoSuchView is nothing = (is, nothing)
  stops_by stop.NoMemory is nothing = inr nothing
  stops_by (stop.StoreDiffers id) is nothing = absurd is
  stops_by stop.DoorFault is nothing = absurd is
  stops_by stop.DiceFault is nothing = absurd is
  stops_by stop.UsedUp is nothing = absurd is

  -- a replay's text failed to be written, or there was none
  pub replay_stops : (why : Stop)
      → (IsStop a why × Writes out []) ⊎ ((why ≡ stop.WriteFault) × ((text : List ℕ) × IsText a text × FailsIn out text))
      → Stops a Was Left sure out why
  replay_stops why (inl plain) = stops_by why plain.0 plain.1
  replay_stops why (inr fails) = subst (Stops a Was Left sure out) (sym fails.0) (inr (inl fails.1))

  -- the input is no script
  pub unread_stops : (store bytes : List ℕ) (error : ScriptError) → IsCommand a.words (RunsScript store)
      → IfSome a.told (λ told. bytes ≡ told) → length bytes ≤ MOST_INPUT → IsUnread bytes error → Writes out []
      → Stops a Was Left sure out (stop_of_script error)
  unread_stops store bytes (script_error.Line number) is told short unread nothing = ((store, is, pick a.told told), nothing)
    where
      pick : (o : Option (List ℕ)) → IfSome o (λ told. bytes ≡ told)
          → IfSome o (λ told. (length told ≤ MOST_INPUT) × (script_of told ≡ Err number))
      pick None h = tt
      pick (Some told) same = subst (λ (b : List ℕ). (length b ≤ MOST_INPUT) × (script_of b ≡ Err number)) same (short, unread)
  unread_stops store bytes script_error.NoMemory is told short unread nothing = inr nothing

-- the input is this script
pub is_script_asked : (a : Asked) (store bytes : List ℕ) (s : Script) → IsCommand a.words (RunsScript store)
    → IfSome a.told (λ told. bytes ≡ told) → length bytes ≤ MOST_INPUT → script_of bytes ≡ Ok s → AsksScript a (IsScriptText s)
is_script_asked a store bytes s is told short read = (store, is, pick a.told told)
  where
    pick : (o : Option (List ℕ)) → IfSome o (λ told. bytes ≡ told) → IfSome o (IsScriptText s)
    pick None h = tt
    pick (Some told) same = subst (IsScriptText s) same (short, read)

module _ (a : Asked) (out : Sent) where
  -- why a replay is not written is no fault of a keeper, and one of the output only if that failed

  -- the cause for which the text of a replay is not written is no fault of the keeper
  pub replay_keeper : (why : Stop)
      → (IsStop a why × Writes out []) ⊎ ((why ≡ stop.WriteFault) × ((text : List ℕ) × IsText a text × FailsIn out text))
      → why ≡ stop.KeeperFault → ⊥
  replay_keeper why (inl plain) e = subst (IsStop a) e plain.0
  replay_keeper why (inr fails) e = let other : stop.WriteFault ≡ stop.KeeperFault = sym fails.0 ∙ e in cc

  -- if a fault of the output is why a replay is not written, the count of its failed calls rose
  pub replay_output : (why : Stop)
      → (IsStop a why × Writes out []) ⊎ ((why ≡ stop.WriteFault) × ((text : List ℕ) × IsText a text × FailsIn out text))
      → why ≡ stop.WriteFault → Rose out.faults_before out.faults
  replay_output why (inl plain) e = absurd (subst (IsStop a) e plain.0)
  replay_output why (inr (is, (text, asked_for, (count, less, front, rose)))) e = rose
