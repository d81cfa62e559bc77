-- How does a server end, by what came of its links?
use Rattle.std.specs.Prelude.{Bool, Option, Some, None, Result, Ok, Err, if◌then◌else◌}
use Rattle.hb_house.specs.declared.reports.ClerkError.{ClerkError}
use Rattle.hb_house.specs.declared.reports.ClerkError.TheVariants as clerk
use Rattle.hb_serve.specs.declared.accepts.Closing.TheVariants as closing
use Rattle.hb_serve.specs.declared.accepts.Closing.{Closing}
use Rattle.hb_serve.specs.declared.serving.Outcome.{Outcome}
use Rattle.hb_serve.specs.declared.verdicts.ServeEnd.{ServeEnd}
use Rattle.hb_serve.specs.declared.verdicts.ServeEnd.TheVariants as end

-- once the door is closed, by whether the keeper met a fault and by the clerk's last answer
abbrev pub closed_end : Bool → Option (Result (Unit {0}) ClerkError) → ServeEnd
closed_end failed (Some (Ok done)) = if failed then end.KeeperFault else end.Done
closed_end failed (Some (Err clerk.KeeperFault)) = end.KeeperFault
closed_end failed (Some (Err (clerk.KeyDiffers id))) = end.StoreDiffers id
closed_end failed (Some (Err clerk.UsedUp)) = end.UsedUp
closed_end failed (Some (Err clerk.Worn)) = end.NoMemory
closed_end failed (Some (Err clerk.NoMemory)) = end.NoMemory
closed_end failed None = end.NoMemory

-- by why no more links were accepted, and whether a turn of a session was refused
abbrev pub end_by : Closing → Bool → Bool → Option (Result (Unit {0}) ClerkError) → ServeEnd
end_by closing.Closed refused failed last =
    if refused then end.NoMemory else closed_end failed last
end_by closing.DoorFault refused failed last = end.DoorFault
end_by (closing.StoreDiffers id) refused failed last = end.StoreDiffers id
end_by closing.UsedUp refused failed last = end.UsedUp
end_by closing.NoMemory refused failed last = end.NoMemory

-- how a server ends
abbrev pub end_of : Outcome → ServeEnd
end_of o = end_by o.closing o.refused o.failed o.last
