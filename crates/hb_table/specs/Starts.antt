-- Internal: no public clause cites this.
-- Which game starts at a table?
use Rattle.std.specs.Prelude.{◌≡◌, ℕ, false, Option, Some, None, is_some, length}
use Rattle.hb_rules.specs.Setup.{Position}
use Rattle.hb_timer.specs.Timer.{History}
use Rattle.hb_suits.specs.VariantNames.{variant_of}
use Rattle.hb_club.specs.declared.commands.Command.TheVariants as command
use Rattle.hb_club.specs.declared.commands.Entry.{Entry}
use Rattle.hb_playing.specs.RoomClocks.{timer_of}
use Rattle.hb_playing.specs.RoomDeals.{IsDealt}
use Rattle.hb_table.specs.declared.room.Room.{Room}
use Rattle.hb_table.specs.Keeps.{site_in}
use Rattle.hb_table.specs.Steps.{IsTaken}

-- the game of those who are seated; there is none if the table was opened with no variant's name
abbrev pub IsDealtFor : Room → Option Position → Type 0
IsDealtFor r None = variant_of r.name ≡ None
IsDealtFor r (Some p) = IsDealt (site_in r) r.latest (r.name, r.options) (length r.seats.items) p

-- its timer, if it is timed
abbrev pub timer_when : ℕ → Option Position → Option History
timer_when moment None = None
timer_when moment (Some p) = timer_of p.setup.options.timed moment p

-- an entry asks for a start at a table of which no game was started
pub record IsStart (e : Entry) (r : Room) : Type 0 where
  pub command_is : e.command ≡ command.Start
  pub bare : is_some r.names ≡ false

-- and no row refuses it
pub record IsStarting (e : Entry) (r : Room) : Type 0 where
  pub start : IsStart e r
  pub taken : IsTaken e r
