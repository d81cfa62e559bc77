-- What does the run of a made script come to?
use Rattle.std.specs.Prelude.{◌≡◌, ℕ, Bool, true, List, [], Some, min}
use Rattle.hb_club.specs.Fronts.{House, no_events}
use Rattle.hb_house.specs.declared.plain.TheConstants.{MOST_ROOMS}
use Rattle.hb_house.specs.KeeperSteps.{Telling}
use Rattle.hb_house.specs.PlainHalls.{house_with}
use Rattle.hb_run.specs.HeldRuns.{MOST_BYTES}
use Rattle.hb_run.specs.RunLines.{RunState, first_state}
use Rattle.hb_run.specs.ScriptRuns.{Runs}
use Rattle.hb_script.specs.MadeScripts.{made_acts, made_lines, made_score, made_shoe}
use Rattle.hb_cli.specs.declared.made_runs.Sums.{Sums}
use Rattle.hb_cli.specs.Begun.{Begun}

-- its lines lead from this state to another, and the sums are those of its games, and of the texts
-- that its sessions sent
pub record RunsMade (h : House) (count : ℕ) (alone : Bool) (tables seed : ℕ) (begin : RunState)
    (sums : Sums) : Type 0 where
  pub state : RunState
  pub text : List ℕ
  pub runs : Runs h count alone (made_lines tables seed) begin state text
  pub bytes : sums.bytes ≡ min state.bytes MOST_BYTES
  pub acts : sums.acts ≡ made_acts tables seed
  pub score : sums.score ≡ made_score tables seed

-- a keeper of which no call fails, and which keeps no game of an earlier run
abbrev pub fresh_keeper : Telling
fresh_keeper = record { content = Some (record { last_run = 0; rows = [] }); plan = Some [] }

-- its lines are run in a plain hall, in the first run of a fresh keeper, and its sessions send
-- texts of so many bytes
pub record RanMade (tables seed bytes : ℕ) : Type 0 where
  pub begun : Begun fresh_keeper
  pub state : RunState
  pub text : List ℕ
  pub runs : Runs (house_with (made_shoe seed) begun.run) MOST_ROOMS true
      (made_lines tables seed) (first_state no_events begun.keeper) state text
  pub sent : bytes ≡ state.bytes
