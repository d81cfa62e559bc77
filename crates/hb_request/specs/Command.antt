-- Which words are commands? They are this project's own.
use Rattle.std.specs.Prelude.{ℕ, List, Option, codes, find}
use Rattle.std.specs.Str.{bytes_eq}
use Rattle.hb_request.specs.declared.commands.TableCommand.{TableCommand}
use Rattle.hb_request.specs.declared.commands.TableCommand.TheVariants as table
use Rattle.hb_request.specs.declared.commands.Command.{Command}
use Rattle.hb_request.specs.declared.commands.Command.TheVariants as command
use Rattle.hb_request.specs.declared.commands.TheConstants.{COMMANDS}

-- the word of a command at a table
abbrev pub table_word : TableCommand → List ℕ
table_word table.Open = codes "open"
table_word table.Sit = codes "sit"
table_word table.Rise = codes "rise"
table_word table.Start = codes "start"
table_word table.Play = codes "play"
table_word table.Discard = codes "discard"
table_word table.Clue = codes "clue"
table_word table.Note = codes "note"
table_word table.Pause = codes "pause"
table_word table.Resume = codes "resume"
table_word table.Terminate = codes "terminate"
table_word table.Watch = codes "watch"
table_word table.Leave = codes "leave"
table_word table.Load = codes "load"
table_word table.Go = codes "go"
table_word table.Hypo = codes "hypo"
table_word table.Undo = codes "undo"
table_word table.Close = codes "close"

-- the word of any command
abbrev pub command_word : Command → List ℕ
command_word command.Hello = codes "hello"
command_word command.Look = codes "look"
command_word (command.Table t) = table_word t

-- the command with a word
unfoldable pub command_of : List ℕ → Option Command
command_of word = find (λ command. bytes_eq (command_word command) word) COMMANDS
