-- When are two commands the same?
use Rattle.std.specs.Prelude.{Bool, true, false, ◌&&◌, ◌==◌, bytes_eq}
use Rattle.std.specs.Option.{option_eq}
use Rattle.hb_rules.specs.declared.acts.Action.{Action}
use Rattle.hb_rules.specs.declared.acts.Action.TheVariants as action
use Rattle.hb_rules.specs.declared.acts.Options.{Options}
use Rattle.hb_rules.specs.Marks.{same}
use Rattle.hb_rules.specs.Numbers.{end_number}
use Rattle.hb_rules.specs.Same.{same_clue}
use Rattle.hb_club.specs.declared.commands.Command.{Command}
use Rattle.hb_club.specs.declared.commands.Command.TheVariants as command

abbrev pub same_options : Options → Options → Bool
same_options a b =
    a.starting == b.starting && same a.empty_clues b.empty_clues
    && same a.extra_card b.extra_card && same a.less_card b.less_card
    && same a.timed b.timed && a.base_s == b.base_s && a.per_turn_s == b.per_turn_s

abbrev pub same_action : Action → Action → Bool
same_action (action.Play j) (action.Play k) = j == k
same_action (action.Discard j) (action.Discard k) = j == k
same_action (action.Clue s c) (action.Clue t d) = s == t && same_clue c d
same_action (action.End g) (action.End h) = end_number g == end_number h
same_action _ _ = false

abbrev pub same_command : Command → Command → Bool
same_command (command.Open name options) (command.Open other others) =
    bytes_eq name other && same_options options others
same_command command.Sit command.Sit = true
same_command command.Rise command.Rise = true
same_command command.Start command.Start = true
same_command (command.Act a) (command.Act b) = same_action a b
same_command (command.Note j text) (command.Note k other) = j == k && bytes_eq text other
same_command command.Pause command.Pause = true
same_command command.Resume command.Resume = true
same_command command.Terminate command.Terminate = true
same_command (command.Watch s) (command.Watch t) = option_eq ◌==◌ s t
same_command command.Leave command.Leave = true
same_command (command.Load m) (command.Load n) = m == n
same_command (command.Go m) (command.Go n) = m == n
same_command (command.Hypo a) (command.Hypo b) = same_action a b
same_command command.Undo command.Undo = true
same_command command.Close command.Close = true
same_command command.Look command.Look = true
same_command _ _ = false
