-- What is a session to do about what came?
use Rattle.std.specs.Prelude.{ℕ, List, Option, Some, None, Result, Ok, Err}
use Rattle.hb_io.specs.declared.got.Got.{Got}
use Rattle.hb_io.specs.declared.got.Got.TheVariants as got
use Rattle.hb_rules.specs.declared.acts.Action.TheVariants as action
use Rattle.hb_rules.specs.declared.acts.Clue.{Clue}
use Rattle.hb_rules.specs.declared.acts.Clue.TheVariants as clue
use Rattle.hb_request.specs.declared.errors.WireError.{WireError}
use Rattle.hb_request.specs.declared.requests.Ask.{Ask}
use Rattle.hb_request.specs.declared.requests.Ask.TheVariants as ask
use Rattle.hb_request.specs.declared.requests.Request.{Request}
use Rattle.hb_request.specs.declared.requests.Request.TheVariants as request
use Rattle.hb_request.specs.declared.requests.WireClue.{WireClue}
use Rattle.hb_request.specs.declared.requests.WireClue.TheVariants as wire_clue
use Rattle.hb_request.specs.Opening.{opening_options}
use Rattle.hb_request.specs.Parsed.{parsed}
use Rattle.hb_request.specs.Printed.{game_action}
use Rattle.hb_club.specs.declared.commands.Command.{Command}
use Rattle.hb_club.specs.declared.commands.Command.TheVariants as command
use Rattle.hb_talk.specs.declared.errands.Denial.TheVariants.{NotBound, AlreadyBound}
use Rattle.hb_talk.specs.declared.errands.Errand.{Errand}
use Rattle.hb_talk.specs.declared.errands.Errand.TheVariants as errand
use Rattle.hb_talk.specs.declared.sessions.Session.{Session}

-- the clue of the game that a request means
abbrev pub game_clue : WireClue → Clue
game_clue (wire_clue.Color index) = clue.Color index
game_clue (wire_clue.Rank rank) = clue.Rank rank

-- the command that a request asks for
abbrev pub command_of : Ask → Command
command_of (ask.Open variant empty_clues extra_card less_card timed base_s per_turn_s) =
    command.Open variant
    (opening_options empty_clues extra_card less_card timed base_s per_turn_s)
command_of ask.Sit = command.Sit
command_of ask.Rise = command.Rise
command_of ask.Start = command.Start
command_of (ask.Play order) = command.Act (action.Play order)
command_of (ask.Discard order) = command.Act (action.Discard order)
command_of (ask.Clue to given) = command.Act (action.Clue to (game_clue given))
command_of (ask.Note order text) = command.Note order text
command_of ask.Pause = command.Pause
command_of ask.Resume = command.Resume
command_of ask.Terminate = command.Terminate
command_of (ask.Watch shadow) = command.Watch shadow
command_of ask.Leave = command.Leave
command_of (ask.Load id) = command.Load id
command_of (ask.Go turn) = command.Go turn
command_of (ask.Hypo asked) = command.Hypo (game_action asked)
command_of ask.Undo = command.Undo
command_of ask.Close = command.Close

-- a look at a room
abbrev pub look_at : ℕ → List ℕ → ℕ → Errand
look_at moment member room =
    errand.Calls room
    (record { moment = moment; member = member; table = 0; number = 0; command = command.Look })

-- about a request: before a name is bound only a hello is taken, and after that none
abbrev pub errand_for : ℕ → Option (List ℕ) → Request → Errand
errand_for moment None (request.Hello name key) = errand.Enters (record { name = name; key = key })
errand_for moment None _ = errand.Denied NotBound
errand_for moment (Some member) (request.Hello name key) = errand.Denied AlreadyBound
errand_for moment (Some member) (request.Look room) = look_at moment member room
errand_for moment (Some member) (request.Room room table number what) =
    errand.Calls room (record {
      moment = moment;
      member = member;
      table = table;
      number = number;
      command = command_of what;
    })

abbrev pub errand_of : ℕ → Option (List ℕ) → Result Request WireError → Errand
errand_of moment name (Ok r) = errand_for moment name r
errand_of moment name (Err why) = errand.Bad why

-- if nothing came, a session with a name looks at the room that it follows
abbrev pub idle_errand : ℕ → Option (List ℕ) → Option ℕ → Errand
idle_errand moment (Some member) (Some room) = look_at moment member room
idle_errand moment _ _ = errand.Nothing

-- what a session is to do about what came at a moment
abbrev pub asked : Session → ℕ → Got → Errand
asked s moment (got.Text text) = errand_of moment s.name (parsed text)
asked s moment got.Idle = idle_errand moment s.name s.followed
asked s moment got.Closed = errand.Nothing
