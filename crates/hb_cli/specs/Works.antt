-- What is done and written for the words and the input, at the end of the work and at each stop?
--
-- `Was` and `Left` are what the keeper tells before a run of the program and behind it, and `sure`
-- is whether a content that it tells can be relied on; `out` is what the output holds.
use Rattle.std.specs.Prelude.{◌≡◌, ◌⊎◌, ℕ, Bool, true, false, List, [], Result}
use Rattle.std.specs.declared.result.Result.TheVariants.{Ok}
use Rattle.hb_keeper.specs.declared.errors.KeepError.{KeepError}
use Rattle.hb_keeper.specs.declared.errors.KeepError.TheVariants as keep
use Rattle.hb_keeper.specs.declared.rows.Line.{Line}
use Rattle.hb_keeper.specs.KeptGames.{Content, of_member_on, open_run_on}
use Rattle.hb_club.specs.Fronts.{no_events}
use Rattle.hb_house.specs.declared.plain.TheConstants.{MOST_ROOMS}
use Rattle.hb_house.specs.KeeperSteps.{Failed, IsSure, Telling, Worked}
use Rattle.hb_house.specs.PlainHalls.{house_with}
use Rattle.hb_script.specs.declared.scripts.Script.{Script}
use Rattle.hb_script.specs.GamesText.{games_text}
use Rattle.hb_script.specs.MadeScripts.{made_text}
use Rattle.hb_run.specs.declared.ends.RunEnd.{RunEnd}
use Rattle.hb_run.specs.declared.ends.RunEnd.TheVariants as ends
use Rattle.hb_run.specs.RunLines.{first_state}
use Rattle.hb_run.specs.ScriptRuns.{RunsAll, RunsSome}
use Rattle.hb_cli.specs.declared.status.Stop.{Stop}
use Rattle.hb_cli.specs.declared.status.Stop.TheVariants as stop
use Rattle.hb_cli.specs.Asked.{Asked, AsksGames, AsksMade, AsksScript, IsScriptText, IsStop, IsText}
use Rattle.hb_cli.specs.Begun.{Begun}
use Rattle.hb_cli.specs.MadeRuns.{RanMade}
use Rattle.hb_cli.specs.Written.{FailsIn, Sent, Writes}

-- at each content and plan that the keeper told before
abbrev pub AtTold : (Telling → Type 0) → Type 0 → (Telling → Type 0) → Type 0
AtTold Was sure Does = (c : Telling) → Was c → IsSure sure c → Does c

-- the keeper refused a call with this work, and nothing was written
pub record KeeperRefused {A : Type 0} (Left : Telling → Type 0) (refusal : KeepError)
    (work : Content → Result A KeepError × Content) (out : Sent) (c : Telling) : Type 0 where
  pub left : Telling
  pub told : Left left
  pub failed : Failed refusal work c left
  pub nothing : Writes out []

-- a script

-- the keeper began a run, and behind it the lines of a script were run to their end, in a plain
-- hall of that run
pub record RanScript (Left : Telling → Type 0) (script : Script) (faulted : Bool) (out : Sent)
    (c : Telling) : Type 0 where
  pub begun : Begun c
  pub lines : RunsAll (λ s. Left s.keeper × (s.faulted ≡ faulted))
      (house_with script.shoe begun.run) MOST_ROOMS true script.lines
      (first_state no_events begun.keeper) out.held_before out.held

-- behind it the run of its lines stopped for a cause
pub record StoppedScript (Left : Telling → Type 0) (script : Script) (why : RunEnd) (out : Sent)
    (c : Telling) : Type 0 where
  pub begun : Begun c
  pub lines : RunsSome (λ s. Left s.keeper)
      (house_with script.shoe begun.run) MOST_ROOMS true script.lines
      (first_state no_events begun.keeper) out.held_before out.held why

-- the words ask for a script, and this is done with it
abbrev pub OfScript : Asked → (Telling → Type 0) → Type 0 → (Script → Telling → Type 0) → Type 0
OfScript a Was sure Does = (s : Script) × AsksScript a (IsScriptText s) × AtTold Was sure (Does s)

-- kept games

-- the keeper listed the games of a member, and their text was written so
pub record ListedGames (Left : Telling → Type 0) (Wrote : List ℕ → Type 0) (name : List ℕ)
    (c : Telling) : Type 0 where
  pub lines : List Line
  pub left : Telling
  pub told : Left left
  pub listed : Worked (of_member_on name) c (Ok lines) left
  pub wrote : Wrote (games_text lines)

-- the words ask for the games of a member, and this is done with the name
abbrev pub OfGames : Asked → (Telling → Type 0) → Type 0 → (List ℕ → Telling → Type 0) → Type 0
OfGames a Was sure Does = AsksGames a (λ name. AtTold Was sure (Does name))

-- a made script

-- the words ask for one; its lines were run, and the line that sums them up was written so
abbrev pub OfMade : Asked → (List ℕ → Type 0) → Type 0
OfMade a Wrote = AsksMade a (λ tables seed. (bytes : ℕ) × RanMade tables seed bytes
    × Wrote (made_text tables seed bytes))

-- all work

-- the whole output was written; `faulted` says that the keeper met a fault at a line of the clerk
abbrev pub Works : Asked → (Was Left : Telling → Type 0) → (sure : Type 0) → (faulted : Bool)
    → Sent → Type 0
Works a Was Left sure faulted out =
    OfScript a Was sure (λ s. RanScript Left s faulted out)
    ⊎ ((faulted ≡ false) × (((text : List ℕ) × IsText a text × Writes out text)
    ⊎ OfGames a Was sure (ListedGames Left (Writes out))
    ⊎ OfMade a (Writes out)))

-- the output failed in what was to be written
abbrev pub FailsOut : Asked → (Was Left : Telling → Type 0) → (sure : Type 0) → Sent → Type 0
FailsOut a Was Left sure out =
    OfScript a Was sure (λ s. StoppedScript Left s ends.WriteFault out)
    ⊎ ((text : List ℕ) × IsText a text × FailsIn out text)
    ⊎ OfGames a Was sure (ListedGames Left (FailsIn out))
    ⊎ OfMade a (FailsIn out)

-- the keeper refused to begin the run of a script
abbrev pub RunRefused : Asked → (Was Left : Telling → Type 0) → (sure : Type 0) → KeepError
    → Sent → Type 0
RunRefused a Was Left sure refusal out =
    OfScript a Was sure (λ s. KeeperRefused Left refusal open_run_on out)

-- why the work stopped, and what was done and written by then
abbrev pub Stops : Asked → (Was Left : Telling → Type 0) → (sure : Type 0) → Sent → Stop → Type 0
Stops a Was Left sure out stop.WriteFault = FailsOut a Was Left sure out
Stops a Was Left sure out stop.KeeperFault =
    Works a Was Left sure true out
    ⊎ RunRefused a Was Left sure keep.Fault out
    ⊎ OfGames a Was sure (λ name. KeeperRefused Left keep.Fault (of_member_on name) out)
Stops a Was Left sure out (stop.StoreDiffers id) =
    OfScript a Was sure (λ s. StoppedScript Left s (ends.KeyDiffers id) out)
Stops a Was Left sure out stop.UsedUp =
    OfScript a Was sure (λ s. StoppedScript Left s ends.UsedUp out)
    ⊎ RunRefused a Was Left sure keep.UsedUp out
Stops a Was Left sure out stop.NoMemory =
    OfScript a Was sure (λ s. StoppedScript Left s ends.NoMemory out) ⊎ Writes out []
Stops a Was Left sure out why = IsStop a why × Writes out []
