-- What does a server say on the error output at its end, and with which status does it end?
use Rattle.std.specs.Prelude.{◌≡◌, ◌⊎◌, ℕ, Bool, true, false, List, [], ◌++◌, Option, Some, None, Result, Ok, Err, codes, decimal, if◌then◌else◌}
use Rattle.hb_cli.specs.declared.status.Status.{Status}
use Rattle.hb_cli.specs.declared.status.Status.TheVariants as status
use Rattle.hb_cli.specs.declared.status.Stop.{Stop}
use Rattle.hb_cli.specs.declared.status.Stop.TheVariants as stop
use Rattle.hb_cli.specs.Statuses.{line_of, status_of}
use Rattle.hb_cli.specs.Written.{FailsIn, Sent, Writes}
use Rattle.hb_serve.specs.declared.serving.Outcome.{Outcome}
use Rattle.hb_serve.specs.declared.verdicts.ServeEnd.{ServeEnd}
use Rattle.hb_serve.specs.declared.verdicts.ServeEnd.TheVariants as end
use Rattle.hb_serve.specs.Verdicts.{end_of}
use Rattle.hb_server.specs.declared.ends.Unserved.{Unserved}
use Rattle.hb_server.specs.declared.ends.Unserved.TheVariants as unserved

-- the cause of the end

-- if no link was served
abbrev pub stop_unserved : Unserved → Stop
stop_unserved unserved.Usage = stop.Usage
stop_unserved unserved.KeeperFault = stop.KeeperFault
stop_unserved unserved.UsedUp = stop.UsedUp
stop_unserved unserved.DiceFault = stop.DiceFault
stop_unserved unserved.NoMemory = stop.NoMemory

-- if links were served; there is none if all was done
abbrev pub stop_at : ServeEnd → Option Stop
stop_at end.Done = None
stop_at end.KeeperFault = Some stop.KeeperFault
stop_at end.NoMemory = Some stop.NoMemory
stop_at (end.StoreDiffers id) = Some (stop.StoreDiffers id)
stop_at end.DoorFault = Some stop.DoorFault
stop_at end.UsedUp = Some stop.UsedUp

abbrev pub end_stop : Result Outcome Unserved → Option Stop
end_stop (Ok o) = stop_at (end_of o)
end_stop (Err why) = Some (stop_unserved why)

-- its status

abbrev pub status_at : Option Stop → Status
status_at None = status.Ok
status_at (Some why) = status_of why

-- its text

-- the report is made once the door is closed, if memory did not run out and the clerk could go on
abbrev pub has_report : ServeEnd → Bool
has_report end.Done = true
has_report end.KeeperFault = true
has_report _ = false

-- how many sessions were held, and how many links were turned away
abbrev pub report_text : Outcome → List ℕ
report_text o =
    codes "served " ++ (decimal o.served ++ (codes " turned " ++ (decimal o.turned ++ codes "\n")))

abbrev pub line_at : Option Stop → List ℕ
line_at None = []
line_at (Some why) = line_of why

-- the report, if there is one, and then the line of the cause, if there is one
abbrev pub end_text : Result Outcome Unserved → List ℕ
end_text (Ok o) =
    (if has_report (end_of o) then report_text o else []) ++ line_at (stop_at (end_of o))
end_text (Err why) = line_of (stop_unserved why)

-- the text of the end was written, with its status; or, as there was no memory for it, the line and
-- the status of that
abbrev pub SaysEnd : Sent → Status → Result Outcome Unserved → Type 0
SaysEnd err result e = ((result ≡ status_at (end_stop e)) × Writes err (end_text e))
    ⊎ ((result ≡ status.NoMemory) × Writes err (line_of stop.NoMemory))

-- the error output failed in the text of the end, or in the line that there was no memory for it
abbrev pub FailsEnd : Sent → Result Outcome Unserved → Type 0
FailsEnd err e = FailsIn err (end_text e) ⊎ FailsIn err (line_of stop.NoMemory)
