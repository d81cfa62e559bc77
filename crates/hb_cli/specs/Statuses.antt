-- Which status and which line on the error output does each cause have?
use Rattle.std.specs.Prelude.{ℕ, Bool, true, false, List, ◌++◌, codes, decimal, Result, Ok, Err, ⊤}
use Rattle.hb_io.specs.declared.read.ReadAll.{ReadAll}
use Rattle.hb_io.specs.declared.read.ReadAll.TheVariants as read_all
use Rattle.hb_keeper.specs.declared.errors.KeepError.{KeepError}
use Rattle.hb_keeper.specs.declared.errors.KeepError.TheVariants as keep
use Rattle.hb_replay.specs.declared.errors.ReplayError.{ReplayError}
use Rattle.hb_replay.specs.declared.errors.ReplayError.TheVariants as refusal
use Rattle.hb_replay.specs.Errors.{refusal_text}
use Rattle.hb_run.specs.declared.ends.RunEnd.{RunEnd}
use Rattle.hb_run.specs.declared.ends.RunEnd.TheVariants as ends
use Rattle.hb_script.specs.declared.scripts.ScriptError.{ScriptError}
use Rattle.hb_script.specs.declared.scripts.ScriptError.TheVariants as script_error
use Rattle.hb_cli.specs.declared.status.Status.{Status}
use Rattle.hb_cli.specs.declared.status.Status.TheVariants as status
use Rattle.hb_cli.specs.declared.status.Stop.{Stop}
use Rattle.hb_cli.specs.declared.status.Stop.TheVariants as stop

-- the exit status
abbrev pub code_of : Status → ℕ
code_of status.Ok = 0
code_of status.Usage = 1
code_of status.ReadFault = 2
code_of status.WriteFault = 3
code_of status.TooLong = 4
code_of status.Json = 5
code_of status.Replay = 6
code_of status.Broken = 7
code_of status.Line = 8
code_of status.KeeperFault = 9
code_of status.NoSuchView = 10
code_of status.NoMemory = 11
code_of status.StoreDiffers = 12
code_of status.DoorFault = 13
code_of status.DiceFault = 14
code_of status.UsedUp = 15
code_of status.StoreVersion = 17

-- a status that says why the work was not done, and with it a line on the error output
abbrev pub IsRefused : Status → Type 0
IsRefused status.Ok = ⊥
IsRefused status.WriteFault = ⊥
IsRefused _ = ⊤

-- a status before which no work begins, whatever the words ask for: nothing is written to the
-- output, and the keeper is not called
abbrev pub IsSilent : Status → Type 0
IsSilent status.Ok = ⊥
IsSilent status.WriteFault = ⊥
IsSilent status.KeeperFault = ⊥
IsSilent status.NoMemory = ⊥
IsSilent status.StoreDiffers = ⊥
IsSilent status.DoorFault = ⊥
IsSilent status.DiceFault = ⊥
IsSilent status.UsedUp = ⊥
IsSilent _ = ⊤

-- a status before which a command that reads has read the input to its end
abbrev pub HasRead : Status → Type 0
HasRead status.Usage = ⊥
HasRead status.ReadFault = ⊥
HasRead status.WriteFault = ⊥
HasRead status.TooLong = ⊥
HasRead status.NoMemory = ⊥
HasRead status.DoorFault = ⊥
HasRead status.DiceFault = ⊥
HasRead status.StoreVersion = ⊥
HasRead _ = ⊤

-- the status of a refusal of a replay
abbrev pub refusal_status : ReplayError → Status
refusal_status refusal.Json = status.Json
refusal_status (refusal.Action k rule) = status.Broken
refusal_status refusal.NoMemory = status.NoMemory
refusal_status _ = status.Replay

-- the status of a cause
abbrev pub status_of : Stop → Status
status_of stop.Usage = status.Usage
status_of stop.ReadFault = status.ReadFault
status_of stop.WriteFault = status.WriteFault
status_of stop.TooLong = status.TooLong
status_of (stop.Refused e) = refusal_status e
status_of (stop.Line number) = status.Line
status_of stop.KeeperFault = status.KeeperFault
status_of stop.NoSuchView = status.NoSuchView
status_of stop.NoMemory = status.NoMemory
status_of (stop.StoreDiffers id) = status.StoreDiffers
status_of stop.DoorFault = status.DoorFault
status_of stop.DiceFault = status.DiceFault
status_of stop.UsedUp = status.UsedUp

-- the status of work that came to an end, `true` if the keeper met a fault at a line of the clerk,
-- or that stopped
abbrev pub status_after : Result Bool Stop → Status
status_after (Ok false) = status.Ok
status_after (Ok true) = status.KeeperFault
status_after (Err why) = status_of why

-- the cause, if the input could not be read
abbrev pub stop_of_reading : ReadAll → Stop
stop_of_reading read_all.Fault = stop.ReadFault
stop_of_reading read_all.TooLong = stop.TooLong
stop_of_reading read_all.NoMemory = stop.NoMemory

-- if it is no script
abbrev pub stop_of_script : ScriptError → Stop
stop_of_script (script_error.Line number) = stop.Line number
stop_of_script script_error.NoMemory = stop.NoMemory

-- if the keeper refused
abbrev pub stop_of_keeping : KeepError → Stop
stop_of_keeping keep.Fault = stop.KeeperFault
stop_of_keeping (keep.KeyDiffers id) = stop.StoreDiffers id
stop_of_keeping keep.UsedUp = stop.UsedUp
stop_of_keeping keep.NoMemory = stop.NoMemory

-- and if the run of a script stopped. No mark of a plain hall is ever set
abbrev pub stop_of_run : RunEnd → Stop
stop_of_run ends.WriteFault = stop.WriteFault
stop_of_run (ends.KeyDiffers id) = stop.StoreDiffers id
stop_of_run ends.UsedUp = stop.UsedUp
stop_of_run ends.Worn = stop.NoMemory
stop_of_run ends.NoMemory = stop.NoMemory

-- the line of a cause
abbrev pub line_of : Stop → List ℕ
line_of stop.Usage = codes "usage\nwatch SEAT\nlook SEAT TURN\ncheck\ncopy\nscript STORE\n"
    ++ codes "games STORE NAME\nmake N SEED\nserve ADDR ROOMS STORE\n"
line_of stop.ReadFault = codes "read fault\n"
line_of stop.WriteFault = codes "write fault\n"
line_of stop.TooLong = codes "input too long\n"
line_of (stop.Refused e) = refusal_text e ++ codes "\n"
line_of (stop.Line number) = codes "line " ++ (decimal number ++ codes "\n")
line_of stop.KeeperFault = codes "keeper fault\n"
line_of stop.NoSuchView = codes "no such view\n"
line_of stop.NoMemory = codes "no memory\n"
line_of (stop.StoreDiffers id) = codes "store differs " ++ (decimal id ++ codes "\n")
line_of stop.DoorFault = codes "door fault\n"
line_of stop.DiceFault = codes "dice fault\n"
line_of stop.UsedUp = codes "numbers used up\n"
