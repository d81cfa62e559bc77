-- Which state of a run does the program hold, and for which does what is outside stand?
use Rattle.std.specs.Prelude.{◌≡◌, ℕ, ◌-◌, ◌^◌, Bool, IsTrue, List, Some, min, slice_get}
use Rattle.hb_io.specs.Causes.{Rose}
use Rattle.hb_club.specs.Fronts.{Fronts, House}
use Rattle.hb_house.specs.KeeperSteps.{IsSure, Telling}
use Rattle.hb_talk.specs.Scripts.{session_of}
use Rattle.hb_desk.specs.declared.desks.Desk.{Desk}
use Rattle.hb_desk.specs.Desks.{DeskFits, session_of as desk_session}
use Rattle.hb_run.specs.declared.held.ScriptRun.{ScriptRun}
use Rattle.hb_run.specs.RunLines.{RunState}

-- the hall stands for the lists of a state, and the keeper tells what the state says that it tells
pub record StandsAt (Stands : Fronts → Type 0) (Tells : Telling → Type 0) (s : RunState)
    : Type 0 where
  pub stands_for : Stands s.fronts
  pub told : Tells s.keeper

-- the session that is held of a connection is that of the state, and fits its lists
pub record IsDesk (h : House) (s : RunState) (conn : ℕ) (d : Desk) : Type 0 where
  pub session : desk_session d ≡ session_of conn s.sessions
  pub fits : DeskFits h s.fronts d

-- so it is of each connection; the place of a session is its connection's number
abbrev pub AreDesks : House → RunState → List Desk → Type 0
AreDesks h s desks = (conn : ℕ) (d : Desk) → slice_get desks conn ≡ Some d → IsDesk h s conn d

-- the keeper met a fault
abbrev pub has_failed : ScriptRun → Bool
has_failed run = run.failed

-- how many bytes of texts are counted; the greatest count stands for more, too
abbrev pub MOST_BYTES : ℕ
MOST_BYTES = 2 ^ 64 - 1

abbrev pub counted_bytes : ScriptRun → ℕ
counted_bytes run = run.bytes

-- a run holds the sessions of a state, whether the keeper met a fault, and the count of bytes
pub record Holds (h : House) (run : ScriptRun) (s : RunState) : Type 0 where
  pub desks : AreDesks h s run.desks.items
  pub faulted : has_failed run ≡ s.faulted
  pub bytes : counted_bytes run ≡ min s.bytes MOST_BYTES

-- a run is at a state: within the program, and outside of it
pub record IsAt (Stands : Fronts → Type 0) (Tells : Telling → Type 0) (h : House)
    (run : ScriptRun) (s : RunState) : Type 0 where
  pub outside : StandsAt Stands Tells s
  pub inside : Holds h run s

-- the run came to its end: what is outside stands for the state, and the answer says whether the
-- keeper met a fault
pub record EndsAt (Stands : Fronts → Type 0) (Tells : Telling → Type 0) (failed : Bool)
    (s : RunState) : Type 0 where
  pub outside : StandsAt Stands Tells s
  pub answer : failed ≡ s.faulted

-- the run stopped: what is outside stands for the state, and the keeper's count of faults rose if
-- the keeper met one
pub record StopsAt (Stands : Fronts → Type 0) (Tells : Telling → Type 0) (before now : ℕ)
    (s : RunState) : Type 0 where
  pub outside : StandsAt Stands Tells s
  pub fault : IsTrue s.faulted → Rose before now

-- what a call does, from each state at which the run may have been before it; a content that the
-- keeper told can be relied on
abbrev pub FromEach : (RunState → Type 0) → Type 0 → (RunState → Type 0) → Type 0
FromEach Was sure Does = (s : RunState) → Was s → IsSure sure s.keeper → Does s
