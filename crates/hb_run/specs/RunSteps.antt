-- Internal: no public clause cites this.
-- What does the run of one line do and write, also if it stops there?
use Rattle.std.specs.Prelude.{◌⊎◌, ℕ, Bool, ⊤, List, [], Option, Some}
use Rattle.std.specs.Io.KnownBytes.{Appends}
use Rattle.hb_club.specs.Fronts.{House}
use Rattle.hb_house.specs.KeeperSteps.{Telling}
use Rattle.hb_talk.specs.declared.scripts.ScriptLine.{ScriptLine}
use Rattle.hb_run.specs.declared.ends.RunEnd.{RunEnd}
use Rattle.hb_run.specs.RunLines.{LineRuns, RunState}
use Rattle.hb_run.specs.ScriptRuns.{HaltsBy}
use Rattle.hb_run.specs.WrittenFronts.{AppendsFront, IsWriteEnd}

-- nothing is asked of what a keeper tells
abbrev pub AnyTelling : Telling → Type 0
AnyTelling c = ⊤

-- a line was run, and its text was written
pub record RunsLine (Left : RunState → Type 0) (h : House) (count : ℕ) (alone : Bool)
    (l : ScriptLine) (begin : RunState) (before after : Option (List ℕ)) : Type 0 where
  pub state : RunState
  pub text : List ℕ
  pub runs : LineRuns h count alone l begin state text
  pub left : Left state
  pub written : Appends before after text

-- a line was run, and writing stopped within its text
pub record CutsLine (Left : RunState → Type 0) (h : House) (count : ℕ) (alone : Bool)
    (l : ScriptLine) (begin : RunState) (before after : Option (List ℕ)) (why : RunEnd)
    : Type 0 where
  pub writing : IsWriteEnd why
  pub state : RunState
  pub text : List ℕ
  pub runs : LineRuns h count alone l begin state text
  pub left : Left state
  pub written : AppendsFront before after text

-- a line stopped, and nothing was written
pub record HaltsLine (Left : RunState → Type 0) (h : House) (count : ℕ) (alone : Bool)
    (l : ScriptLine) (begin : RunState) (before after : Option (List ℕ)) (why : RunEnd)
    : Type 0 where
  pub rest : RunState
  pub left : Left rest
  pub halts : HaltsBy h count alone why (Some l) begin rest
  pub written : Appends before after []

abbrev pub StopsLine : (RunState → Type 0) → House → ℕ → Bool → ScriptLine → RunState
    → (before after : Option (List ℕ)) → RunEnd → Type 0
StopsLine Left h count alone l begin before after why =
    HaltsLine Left h count alone l begin before after why
    ⊎ CutsLine Left h count alone l begin before after why
