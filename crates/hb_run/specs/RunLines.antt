-- What does a line of a script do to the state of a run, and what does it write? Events of others
-- may come to the rooms and to the lobby meanwhile.
use Rattle.std.specs.Prelude.{◌≡◌, ◌<◌, ◌+◌, ◌⊎◌, ℕ, suc, Bool, true, false, List, [], ◌∷◌, ◌++◌, codes, decimal, length, map, sum}
use Rattle.hb_club.specs.Fronts.{Fronts, House, site_of}
use Rattle.hb_house.specs.declared.reports.ClerkError.{ClerkError}
use Rattle.hb_house.specs.declared.reports.ClerkError.TheVariants.{KeeperFault}
use Rattle.hb_house.specs.declared.reports.Report.{Report}
use Rattle.hb_house.specs.ClerkRounds.{Place, Rounds, StepAt, Then, begun}
use Rattle.hb_house.specs.ClerkStops.{RoundStops}
use Rattle.hb_house.specs.KeeperSteps.{Telling}
use Rattle.hb_talk.specs.declared.errands.Errand.{Errand}
use Rattle.hb_talk.specs.declared.scripts.ScriptLine.{ScriptLine}
use Rattle.hb_talk.specs.declared.scripts.ScriptLine.TheVariants as line
use Rattle.hb_talk.specs.declared.sessions.Session.{Session}
use Rattle.hb_talk.specs.Errands.{asked}
use Rattle.hb_talk.specs.Scripts.{sent, session_of}
use Rattle.hb_talk.specs.Sessions.{TurnCalls}
use Rattle.hb_talk.specs.Turns.{Turn, turn_of}

-- the state of a run: the lists of the rooms and of the lobby, what the keeper tells, the sessions
-- by their connections, the newest first, whether the keeper met a fault, and how many bytes the
-- texts have that the sessions sent
pub record RunState : Type 0 where
  pub fronts : Fronts
  pub keeper : Telling
  pub sessions : List (ℕ × Session)
  pub faulted : Bool
  pub bytes : ℕ

-- before the first line
abbrev pub first_state : Fronts → Telling → RunState
first_state f c = record { fronts = f; keeper = c; sessions = []; faulted = false; bytes = 0 }

-- what a connection says

-- how many bytes the texts of a turn have
abbrev pub text_bytes : List (List ℕ) → ℕ
text_bytes texts = sum (map length texts)

-- the turn of a connection for an errand, by the lists behind it
abbrev pub turn_behind : House → ℕ → ℕ → Errand → RunState → Fronts → Turn
turn_behind h count conn task before after =
    turn_of h count after (session_of conn before.sessions) task

-- a turn of a connection, whose own call is the newest of the lists behind it
pub record TurnRuns (h : House) (count : ℕ) (alone : Bool) (conn : ℕ) (task : Errand)
    (before after : RunState) (text : List ℕ) : Type 0 where
  pub calls : TurnCalls alone count task before.fronts after.fronts
  pub keeper : after.keeper ≡ before.keeper
  pub sessions : after.sessions
      ≡ (conn, (turn_behind h count conn task before after.fronts).left) ∷ before.sessions
  pub faulted : after.faulted ≡ before.faulted
  pub bytes : after.bytes
      ≡ before.bytes + text_bytes (turn_behind h count conn task before after.fronts).texts
  pub sends : text ≡ sent conn (turn_behind h count conn task before after.fronts).texts

-- the clerk

abbrev pub place_of : RunState → Report → Place
place_of s report = record { fronts = s.fronts; keeper = s.keeper; report = report }

abbrev pub report_line : Report → List ℕ
report_line r =
    codes "clerk saved " ++ (decimal r.saved ++ (codes " loaded " ++ (decimal r.loaded
    ++ (codes " missing " ++ (decimal r.missing ++ codes "\n")))))

abbrev pub fault_line : List ℕ
fault_line = codes "clerk fault\n"

-- the clerk went through all rooms
pub record ClerkRuns (h : House) (count : ℕ) (alone : Bool) (moment : ℕ)
    (before after : RunState) (text : List ℕ) : Type 0 where
  pub report : Report
  pub rounds : Rounds alone h moment (begun before.fronts before.keeper) count
      (place_of after report)
  pub sessions : after.sessions ≡ before.sessions
  pub faulted : after.faulted ≡ before.faulted
  pub bytes : after.bytes ≡ before.bytes
  pub tells : text ≡ report_line report

-- the clerk went through the first rooms, and stopped in the round of the next for this cause
pub record ClerkHalts (h : House) (count : ℕ) (alone : Bool) (moment : ℕ) (why : ClerkError)
    (before after : RunState) : Type 0 where
  pub report : Report
  pub done : ℕ
  pub within : done < count
  pub rounds : Then (Rounds alone h moment (begun before.fronts before.keeper) done)
      (StepAt (suc done) (RoundStops alone (site_of h (suc done)) moment why))
      (place_of after report)
  pub sessions : after.sessions ≡ before.sessions
  pub bytes : after.bytes ≡ before.bytes

-- the keeper met a fault: it stops the clerk, and not the run
pub record ClerkFaults (h : House) (count : ℕ) (alone : Bool) (moment : ℕ)
    (before after : RunState) (text : List ℕ) : Type 0 where
  pub halts : ClerkHalts h count alone moment KeeperFault before after
  pub faulted : after.faulted ≡ true
  pub tells : text ≡ fault_line

-- a line of a script, in a house of so many rooms: it leads from one state to another, and writes
-- this text
abbrev pub LineRuns : House → ℕ → Bool → ScriptLine → RunState → RunState → List ℕ → Type 0
LineRuns h count alone (line.Clerk moment) before after text =
    ClerkRuns h count alone moment before after text
    ⊎ ClerkFaults h count alone moment before after text
LineRuns h count alone (line.Says moment conn got) before after text =
    TurnRuns h count alone conn (asked (session_of conn before.sessions) moment got)
    before after text
