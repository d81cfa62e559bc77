-- As which message is a request written?
use Rattle.std.specs.Prelude.{ℕ, List, codes}
use Rattle.serde_json.specs.Data.{Data, string, object, Members, no_members, put}
use Rattle.hb_rules.specs.declared.acts.Action.{Action}
use Rattle.hb_rules.specs.declared.acts.Action.TheVariants as rule_action
use Rattle.hb_rules.specs.declared.acts.Clue.TheVariants as rule_clue
use Rattle.hb_json.specs.Line.{line}
use Rattle.hb_json.specs.Values.{whole, options_data, seat_data, action_data}
use Rattle.hb_request.specs.declared.commands.TableCommand.{TableCommand}
use Rattle.hb_request.specs.declared.commands.TableCommand.TheVariants as table
use Rattle.hb_request.specs.declared.commands.Command.{Command}
use Rattle.hb_request.specs.declared.commands.Command.TheVariants as command
use Rattle.hb_request.specs.declared.requests.WireClue.{WireClue}
use Rattle.hb_request.specs.declared.requests.WireClue.TheVariants as clue
use Rattle.hb_request.specs.declared.requests.WireAction.{WireAction}
use Rattle.hb_request.specs.declared.requests.WireAction.TheVariants as action
use Rattle.hb_request.specs.declared.requests.Ask.{Ask}
use Rattle.hb_request.specs.declared.requests.Ask.TheVariants as ask
use Rattle.hb_request.specs.declared.requests.Request.{Request}
use Rattle.hb_request.specs.declared.requests.Request.TheVariants as request
use Rattle.hb_request.specs.Command.{command_word}
use Rattle.hb_request.specs.Opening.{opening_options}

-- the command that asks this of a table
abbrev pub table_command : Ask → TableCommand
table_command (ask.Open variant empty_clues extra_card less_card timed base_s per_turn_s) =
    table.Open
table_command ask.Sit = table.Sit
table_command ask.Rise = table.Rise
table_command ask.Start = table.Start
table_command (ask.Play order) = table.Play
table_command (ask.Discard order) = table.Discard
table_command (ask.Clue to clue) = table.Clue
table_command (ask.Note order text) = table.Note
table_command ask.Pause = table.Pause
table_command ask.Resume = table.Resume
table_command ask.Terminate = table.Terminate
table_command (ask.Watch shadow) = table.Watch
table_command ask.Leave = table.Leave
table_command (ask.Load id) = table.Load
table_command (ask.Go turn) = table.Go
table_command (ask.Hypo action) = table.Hypo
table_command ask.Undo = table.Undo
table_command ask.Close = table.Close

-- the command of a request
abbrev pub command_for : Request → Command
command_for (request.Hello name key) = command.Hello
command_for (request.Look room) = command.Look
command_for (request.Room room table number ask) = command.Table (table_command ask)

-- the action of the game that a request means
abbrev pub game_action : WireAction → Action
game_action (action.Play order) = rule_action.Play order
game_action (action.Discard order) = rule_action.Discard order
game_action (action.Color to index) = rule_action.Clue to (rule_clue.Color index)
game_action (action.Rank to rank) = rule_action.Clue to (rule_clue.Rank rank)

-- the members, with those of a clue
abbrev pub with_clue : WireClue → Members → Members
with_clue (clue.Color index) ms = put (codes "color") (whole index) ms
with_clue (clue.Rank rank) ms = put (codes "rank") (whole rank) ms

-- the members, with those of what is asked of a table
abbrev pub with_ask : Ask → Members → Members
with_ask (ask.Open variant empty_clues extra_card less_card timed base_s per_turn_s) ms =
    put (codes "options")
    (options_data variant
    (opening_options empty_clues extra_card less_card timed base_s per_turn_s)) ms
with_ask ask.Sit ms = ms
with_ask ask.Rise ms = ms
with_ask ask.Start ms = ms
with_ask (ask.Play order) ms = put (codes "order") (whole order) ms
with_ask (ask.Discard order) ms = put (codes "order") (whole order) ms
with_ask (ask.Clue to clue) ms = put (codes "to") (whole to) (with_clue clue ms)
with_ask (ask.Note order text) ms =
    put (codes "text") (string text) (put (codes "order") (whole order) ms)
with_ask ask.Pause ms = ms
with_ask ask.Resume ms = ms
with_ask ask.Terminate ms = ms
with_ask (ask.Watch shadow) ms = put (codes "shadow") (seat_data shadow) ms
with_ask ask.Leave ms = ms
with_ask (ask.Load id) ms = put (codes "id") (whole id) ms
with_ask (ask.Go turn) ms = put (codes "turn") (whole turn) ms
with_ask (ask.Hypo action) ms = put (codes "action") (action_data 0 (game_action action)) ms
with_ask ask.Undo ms = ms
with_ask ask.Close ms = ms

-- the members of a request; `put` keeps their keys in byte order
abbrev pub request_members : Request → Members
request_members (request.Hello name key) =
    put (codes "key") (string key) (put (codes "name") (string name) no_members)
request_members (request.Look room) = put (codes "room") (whole room) no_members
request_members (request.Room room table number ask) =
    with_ask ask
    (put (codes "table") (whole table)
    (put (codes "room") (whole room)
    (put (codes "number") (whole number) no_members)))

-- what a message says after its word
unfoldable pub request_data : Request → Data
request_data r = object (request_members r)

-- the message of a request
abbrev pub request_text : Request → List ℕ
request_text r = line (command_word (command_for r)) (request_data r)
