-- What does the clerk report, and why does it stop?
use Rattle.std.specs.Prelude.{◌≡◌, ◌≢◌, ◌≤◌, ◌⊎◌, ℕ, ◌+◌, Result, Err}
use Rattle.hb_io.specs.Causes.{Rose}
use Rattle.hb_keeper.specs.declared.errors.KeepError.{KeepError}
use Rattle.hb_keeper.specs.declared.errors.KeepError.TheVariants as keep
use Rattle.hb_club.specs.declared.clerks.Noted.{Noted}
use Rattle.hb_club.specs.declared.clerks.Noted.TheVariants as noted
use Rattle.hb_house.specs.declared.reports.ClerkError.{ClerkError}
use Rattle.hb_house.specs.declared.reports.ClerkError.TheVariants.{KeeperFault, KeyDiffers, NoMemory, UsedUp, Worn}
use Rattle.hb_house.specs.declared.reports.Report.{Report}

-- why the clerk stops if a keeper refuses
abbrev pub by_keeper : KeepError → ClerkError
by_keeper keep.Fault = KeeperFault
by_keeper (keep.KeyDiffers id) = KeyDiffers id
by_keeper keep.UsedUp = UsedUp
by_keeper keep.NoMemory = NoMemory

-- and if a hall refuses
abbrev pub IsByHall : ClerkError → Type 0
IsByHall why = (why ≡ Worn) ⊎ (why ≡ NoMemory)

-- the keeper's count of faults never falls, rose if the clerk met a fault, and is as before after
-- every other answer
pub record FaultCause {A : Type 0} (before now : ℕ) (answer : Result A ClerkError) : Type 0 where
  pub later : before ≤ now
  pub fault : answer ≡ Err KeeperFault → Rose before now
  pub kept : answer ≢ Err KeeperFault → now ≡ before

-- the report before anything is done
abbrev pub nothing_done : Report
nothing_done = record { saved = 0; loaded = 0; missing = 0 }

-- the report behind the note of a game that is kept, by the item that the note added
abbrev pub with_saved : Noted → Report → Report
with_saved noted.Saved r = record r { saved = r.saved + 1 }
with_saved noted.Loaded r = r
with_saved noted.NoGame r = r
with_saved noted.Nothing r = r

-- and behind the note of a game that was asked for
abbrev pub with_loaded : Noted → Report → Report
with_loaded noted.Loaded r = record r { loaded = r.loaded + 1 }
with_loaded noted.NoGame r = record r { missing = r.missing + 1 }
with_loaded noted.Saved r = r
with_loaded noted.Nothing r = r
