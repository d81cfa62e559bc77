-- Do lines stop because a key is kept with another game, if the keeper contains the games of the
-- run alone?
use Rattle.std.specs.Prelude.{ℕ, Bool, List, Option}
use Rattle.hb_club.specs.Fronts.{House}
use Rattle.hb_house.specs.KeeperSteps.{IsTold}
use Rattle.hb_house.specs.KeptOnce.{OwnIfTold}
use Rattle.hb_talk.specs.declared.scripts.ScriptLine.{ScriptLine}
use Rattle.hb_run.specs.declared.ends.RunEnd.TheVariants.{KeyDiffers}
use Rattle.hb_run.specs.RunLines.{RunState}
use Rattle.hb_run.specs.ScriptRuns.{HaltsBy, Runs}

-- no, if it tells what it contains
abbrev pub RunsNeverDiffer : Type 0
RunsNeverDiffer = (h : House) (count : ℕ) (alone : Bool) (lines : List ScriptLine)
    (next : Option ScriptLine) (s t rest : RunState) (text : List ℕ) (id : ℕ) → IsTold s.keeper
    → OwnIfTold h s.fronts s.keeper → Runs h count alone lines s t text
    → HaltsBy h count alone (KeyDiffers id) next t rest → ⊥
