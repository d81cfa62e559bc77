-- Do lists of lines that are run one after the other do what their lines do in one list?
use Rattle.std.specs.Prelude.{ℕ, Bool, List, ◌++◌}
use Rattle.hb_club.specs.Fronts.{House}
use Rattle.hb_talk.specs.declared.scripts.ScriptLine.{ScriptLine}
use Rattle.hb_run.specs.RunLines.{RunState}
use Rattle.hb_run.specs.ScriptRuns.{Runs}

-- yes
abbrev pub RunsJoin : Type 0
RunsJoin = (h : House) (count : ℕ) (alone : Bool) (lines others : List ScriptLine)
    (s t u : RunState) (text more : List ℕ) → Runs h count alone lines s t text
    → Runs h count alone others t u more → Runs h count alone (lines ++ others) s u (text ++ more)
