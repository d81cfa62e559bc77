-- Internal: no public clause cites this.
-- Which commands does the parser of command lines take, and of how many values each?
use Rattle.std.specs.Prelude.{◌≡◌, List, [], ◌++◌, codes, true, false}
use Rattle.std.specs.Option.{option_to_list}
use Rattle.clap.specs.Words.{App, Row, Rule, Text, app_of, fault_of, first_of, new_app, new_rule}
use Rattle.clap.specs.Words.{subcommand_of, subcommand_rows_of, with_rule, with_subcommand}
use Rattle.clap.specs.declared.parser.matches.ArgMatches.{ArgMatches}
use Rattle.clap.specs.declared.builder.command.Command.{Command}
use Rattle.clap.specs.declared.builder.command.Command.TheViews.{out-Command}

-- the ids of a command's values, by their places
abbrev pub first_id : Text
first_id = codes "first"

abbrev pub second_id : Text
second_id = codes "second"

-- a value that must be there
abbrev pub value_rule : Text → Rule
value_rule id = record (new_rule id) { required = true }

-- a command of no value, of one and of two
abbrev pub bare : Text → App
bare name = new_app name

abbrev pub with_one : Text → App
with_one name = with_rule (bare name) (value_rule first_id)

abbrev pub with_two : Text → App
with_two name = with_rule (with_one name) (value_rule second_id)

-- the command is this one, and hands no argument down
pub record IsForm (a : App) (c : Command) : Type 0 where
  pub shape : app_of c ≡ a
  pub local : (out-Command c).has_globals ≡ false

-- a program that wants the word of a command, and has no help
abbrev pub no_commands : App
no_commands = let a = new_app (codes "hanabi") in record a {
  top = record a.top {
    no_binary_name = true;
    disable_help_flag = true;
    disable_help_subcommand = true;
    subcommand_required = true;
  };
}

abbrev pub plus : App → App → App
plus above command = with_subcommand above command.top

-- the program with its commands, in their order
abbrev pub all_commands : App
all_commands =
    plus (plus (plus (plus (plus (plus (plus no_commands
    (with_one (codes "watch")))
    (with_two (codes "look")))
    (bare (codes "check")))
    (bare (codes "copy")))
    (with_one (codes "script")))
    (with_two (codes "games")))
    (with_two (codes "make"))

-- the texts of a command's values, by their ids
abbrev pub row_texts : List Row → List Text
row_texts rows = option_to_list (first_of first_id rows) ++ option_to_list (first_of second_id rows)

-- the parser takes the words, and found this
pub record IsTaken (words : List Text) (m : ArgMatches) : Type 0 where
  pub passes : fault_of all_commands words ≡ []
  pub met : subcommand_rows_of m ≡ subcommand_of all_commands words
