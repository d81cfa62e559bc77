-- Internal: no public clause cites this.
-- What does a part of the clerk's round do at its room, and what may it add to the report?
use Rattle.std.specs.Prelude.{◌≡◌, ◌≤◌, ◌<◌, ◌^◌, ◌-◌, ℕ, ◌+◌, List}
use Rattle.hb_club.specs.Fronts.{ElseSame, Fronts}
use Rattle.hb_club.specs.RoomEvents.{RoomEvent}
use Rattle.hb_house.specs.declared.reports.Report.{Report}
use Rattle.hb_house.specs.KeeperSteps.{Telling}

-- the numbers can take one more
pub record HasSpace (r : Report) : Type 0 where
  pub saved : r.saved < 2 ^ 32 - 1
  pub loaded : r.loaded < 2 ^ 32 - 1
  pub missing : r.missing < 2 ^ 32 - 1

-- at most one game more is saved
pub record CountsSaved (r t : Report) : Type 0 where
  pub saved : t.saved ≤ r.saved + 1
  pub loaded : t.loaded ≡ r.loaded
  pub missing : t.missing ≡ r.missing

-- at most one game more is loaded, or missing
pub record CountsLoaded (r t : Report) : Type 0 where
  pub saved : t.saved ≡ r.saved
  pub loaded : t.loaded ≤ r.loaded + 1
  pub missing : t.missing ≤ r.missing + 1

-- each of the numbers is at most one more
pub record CountsOnce (r t : Report) : Type 0 where
  pub saved : t.saved ≤ r.saved + 1
  pub loaded : t.loaded ≤ r.loaded + 1
  pub missing : t.missing ≤ r.missing + 1

-- a note at one room
pub record NoteStep (Stands : Fronts → Type 0) (room : ℕ) (f : Fronts)
    (Step : (old new : List RoomEvent) → Type 0) : Type 0 where
  pub after : Fronts
  pub stands_for : Stands after
  pub others : ElseSame room f after
  pub step : Step (f.rooms room) (after.rooms room)

-- a step at one room, and what the keeper tells behind it
pub record RoomStep (Stands : Fronts → Type 0) (Tells : Telling → Type 0) (room : ℕ)
    (f : Fronts) (Step : List RoomEvent → Telling → Type 0) : Type 0 where
  pub after : Fronts
  pub stands_for : Stands after
  pub others : ElseSame room f after
  pub keeper : Telling
  pub told : Tells keeper
  pub step : Step (after.rooms room) keeper
