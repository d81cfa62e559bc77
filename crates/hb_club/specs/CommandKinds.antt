-- Which commands is each refusal for, and what does a command ask for?
use Rattle.std.specs.Prelude.{ℕ, Bool, true, false, length, nat_lt, Option, Some, None}
use Rattle.hb_rules.specs.declared.acts.Action.{Action}
use Rattle.hb_rules.specs.declared.acts.Action.TheVariants as action
use Rattle.hb_rules.specs.declared.acts.EndHow.TheVariants.{Terminated}
use Rattle.hb_club.specs.declared.commands.Command.{Command}
use Rattle.hb_club.specs.declared.commands.Command.TheVariants as command
use Rattle.hb_club.specs.declared.limits.TheConstants.{NOTE_LIMIT}

-- single commands

abbrev pub is_open : Command → Bool
is_open (command.Open name options) = true
is_open _ = false

abbrev pub is_sit : Command → Bool
is_sit command.Sit = true
is_sit _ = false

abbrev pub is_start : Command → Bool
is_start command.Start = true
is_start _ = false

abbrev pub is_act : Command → Bool
is_act (command.Act a) = true
is_act _ = false

abbrev pub is_note : Command → Bool
is_note (command.Note order text) = true
is_note _ = false

abbrev pub is_pause : Command → Bool
is_pause command.Pause = true
is_pause _ = false

abbrev pub is_resume : Command → Bool
is_resume command.Resume = true
is_resume _ = false

abbrev pub is_watch : Command → Bool
is_watch (command.Watch shadow) = true
is_watch _ = false

abbrev pub is_leave : Command → Bool
is_leave command.Leave = true
is_leave _ = false

abbrev pub is_close : Command → Bool
is_close command.Close = true
is_close _ = false

abbrev pub is_look : Command → Bool
is_look command.Look = true
is_look _ = false

-- the commands for which the greater limit of kept numbers holds: without them a game could not go
-- on, nor its table be closed
abbrev pub is_pressing : Command → Bool
is_pressing command.Start = true
is_pressing (command.Act a) = true
is_pressing command.Resume = true
is_pressing command.Terminate = true
is_pressing command.Close = true
is_pressing _ = false

-- the steps of a review
abbrev pub is_review_step : Command → Bool
is_review_step (command.Go turn) = true
is_review_step (command.Hypo a) = true
is_review_step command.Undo = true
is_review_step _ = false

-- the commands of the host alone
abbrev pub is_for_host : Command → Bool
is_for_host command.Start = true
is_for_host (command.Load id) = true
is_for_host command.Close = true
is_for_host (command.Go turn) = true
is_for_host (command.Hypo a) = true
is_for_host command.Undo = true
is_for_host _ = false

-- the commands before a game
abbrev pub is_for_gathering : Command → Bool
is_for_gathering command.Sit = true
is_for_gathering command.Rise = true
is_for_gathering command.Start = true
is_for_gathering (command.Load id) = true
is_for_gathering _ = false

-- the commands that bring a game to the table
abbrev pub is_for_beginning : Command → Bool
is_for_beginning command.Start = true
is_for_beginning (command.Load id) = true
is_for_beginning _ = false

-- the commands of a game that is played
abbrev pub is_for_game : Command → Bool
is_for_game (command.Act a) = true
is_for_game (command.Note order text) = true
is_for_game command.Pause = true
is_for_game command.Resume = true
is_for_game command.Terminate = true
is_for_game _ = false

-- the commands of those who are seated
abbrev pub is_for_seated : Command → Bool
is_for_seated command.Rise = true
is_for_seated (command.Act a) = true
is_for_seated (command.Note order text) = true
is_for_seated command.Pause = true
is_for_seated command.Resume = true
is_for_seated command.Terminate = true
is_for_seated _ = false

-- a note with too long a text
abbrev pub is_long_note : Command → Bool
is_long_note (command.Note order text) = nat_lt NOTE_LIMIT (length text)
is_long_note _ = false

-- what a command asks for

-- a kept game, by its id
abbrev pub asked_id : Command → Option ℕ
asked_id (command.Load id) = Some id
asked_id _ = None

-- a seat whose shadow the member is
abbrev pub asked_shadow : Command → Option ℕ
asked_shadow (command.Watch shadow) = shadow
asked_shadow _ = None

-- a card to note at, by its order
abbrev pub asked_order : Command → Option ℕ
asked_order (command.Note order text) = Some order
asked_order _ = None

-- an action in the game
abbrev pub asked_action : Command → Option Action
asked_action (command.Act a) = Some a
asked_action command.Terminate = Some (action.End Terminated)
asked_action _ = None
