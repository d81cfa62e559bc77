-- What is written of lines over a hall that nobody else calls, with a keeper that tells what it
-- contains, and which of its calls fail or that none did? The text that `script_text` says of them.
use Rattle.std.specs.Prelude.{◌≡◌, ◌⊎◌, ℕ, Bool, true, false, ⊤, List, [], Option, Some, None, reverse, slice_get, take}
use Rattle.hb_keeper.specs.declared.errors.KeepError.{KeepError}
use Rattle.hb_keeper.specs.declared.errors.KeepError.TheVariants as keep
use Rattle.hb_club.specs.Fronts.{House}
use Rattle.hb_house.specs.ClerkReports.{by_keeper}
use Rattle.hb_house.specs.KeeperSteps.{Telling}
use Rattle.hb_talk.specs.declared.scripts.ScriptLine.{ScriptLine}
use Rattle.hb_talk.specs.Keeping.{Keeping}
use Rattle.hb_talk.specs.Scripts.{Stage, script_text, stage_after}
use Rattle.hb_run.specs.RunLines.{RunState}
use Rattle.hb_run.specs.ScriptRuns.{ClerkEnds, Runs}
use Rattle.hb_run.specs.WrittenFronts.{AppendsFront}

-- what a keeper tells that tells what it contains, and which of its calls fail if `planned`
abbrev pub telling : Bool → Keeping → Telling
telling true k = record { content = Some k.content; plan = Some k.plan }
telling false k = record { content = Some k.content; plan = None }

-- A run stands where a script does; lists of rooms are compared room by room. If it is not told
-- which calls of the keeper fail, the script is that in which none does
pub record IsStage (planned : Bool) (s : RunState) (stage : Stage) : Type 0 where
  pub rooms : (room : ℕ) → s.fronts.rooms room ≡ stage.fronts.rooms room
  pub lobby : s.fronts.lobby ≡ stage.fronts.lobby
  pub keeper : s.keeper ≡ telling planned stage.keeping
  pub plan : planned ≡ false → stage.keeping.plan ≡ []
  pub sessions : s.sessions ≡ stage.sessions
  pub faulted : s.faulted ≡ stage.faulted

-- it is told which calls of the keeper fail, or the keeper has met no fault by now
abbrev pub KnowsFaults : Bool → RunState → Type 0
KnowsFaults planned s = (planned ≡ true) ⊎ (s.faulted ≡ false)

-- A script writes this text with these lines, and then it stands as a run does, stopped for this
-- cause. (`script_text` takes its lines newest first)
pub record IsScript (planned : Bool) (h : House) (count : ℕ) (stage : Stage)
    (lines : List ScriptLine) (text : List ℕ) (s : RunState) (stopped : Option KeepError)
    : Type 0 where
  pub text_is : text ≡ script_text h count stage (reverse lines)
  pub stands : IsStage planned s (stage_after h count stage (reverse lines))
  pub stopped_by : (stage_after h count stage (reverse lines)).stopped ≡ stopped

-- lines that are run do and write what the script does
abbrev pub LoneRuns : Type 0
LoneRuns = (planned : Bool) (h : House) (count : ℕ) (lines : List ScriptLine) (stage : Stage)
    (s t : RunState) (text : List ℕ) → IsStage planned s stage → stage.stopped ≡ None
    → KnowsFaults planned t → Runs h count true lines s t text
    → IsScript planned h count stage lines text t None

-- the keeper's refusals that stop a script
abbrev pub StopsScript : KeepError → Type 0
StopsScript (keep.KeyDiffers id) = ⊤
StopsScript keep.UsedUp = ⊤
StopsScript keep.Fault = ⊥
StopsScript keep.NoMemory = ⊥

-- if such a refusal stops a run, it stops the script too, and the text of the lines before is all
-- that the script writes
abbrev pub LoneEnds : Type 0
LoneEnds = (planned : Bool) (h : House) (count : ℕ) (lines : List ScriptLine) (done : ℕ)
    (stage : Stage) (s t rest : RunState) (text : List ℕ) (why : KeepError)
    → IsStage planned s stage → stage.stopped ≡ None → KnowsFaults planned t
    → Runs h count true (take done lines) s t text → StopsScript why
    → ClerkEnds h count true (by_keeper why) (slice_get lines done) t rest
    → IsScript planned h count stage lines text rest (Some why)

-- what a script writes with its first lines is a front of what it writes with all
abbrev pub LoneFronts : Type 0
LoneFronts = (h : House) (count : ℕ) (lines : List ScriptLine) (done : ℕ) (stage : Stage)
    (before after : Option (List ℕ))
    → AppendsFront before after (script_text h count stage (reverse (take done lines)))
    → AppendsFront before after (script_text h count stage (reverse lines))
