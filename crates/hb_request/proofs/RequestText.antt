-- The message of a request asks that request.
use Rattle.std.proofs.Common.{◌≡◌, ℕ, ◌≤◌, ◌^◌, List, length, Result, Ok, Bool, true, refl, arith, sym, ap, ◌∙◌}
use Rattle.std.specs.Prelude.{◌&&◌, ◌-◌, is_some, nat_le, nat_lt}
use Rattle.std.specs.declared.option.Option.TheVariants.{None, Some}
use Rattle.serde_json.specs.Data.{Data, Members, depth}
use Rattle.serde_json.specs.Find.{as_object}
use Rattle.serde_json.specs.Read.{read, max_depth}
use Rattle.serde_json.specs.Written.{compact_text}
use Rattle.hb_rules.specs.declared.acts.Options.{Options}
use Rattle.hb_suits.specs.VariantNames.{variant_of}
use Rattle.hb_rules.specs.declared.limits.TheConstants.{HIGHEST_RANK}
use Rattle.hb_request.specs.declared.limits.TheConstants.{HIGHEST_COLOR, HIGHEST_ID, HIGHEST_ORDER, HIGHEST_SEAT, KEY_LIMIT, MESSAGE_LIMIT}
use Rattle.hb_json.specs.Line.{line}
use Rattle.hb_json.specs.Values.{options_data, options_members, action_data}
use Rattle.hb_json.specs.declared.modes.WrittenModes.{WrittenModes}
use Rattle.hb_json.specs.OptionKey.{first_other}
use Rattle.hb_json.specs.WrittenModes.{modes_fault, modes_in, options_with, unless_fault, variant_in}
use Rattle.hb_json.proofs.OptionsData.{SaysBack-options_data, modes_of, options_with-modes_of}
use Rattle.hb_request.specs.declared.commands.TableCommand.TheVariants as table
use Rattle.hb_request.specs.declared.commands.Command.{Command}
use Rattle.hb_request.specs.declared.commands.Command.TheVariants as command
use Rattle.hb_request.specs.declared.errors.FieldName.{FieldName}
use Rattle.hb_request.specs.declared.requests.WireClue.TheVariants as clue
use Rattle.hb_request.specs.declared.requests.WireAction.{WireAction}
use Rattle.hb_request.specs.declared.requests.WireAction.TheVariants as action
use Rattle.hb_request.specs.declared.requests.Ask.{Ask}
use Rattle.hb_request.specs.declared.requests.Ask.TheVariants as ask
use Rattle.hb_request.specs.declared.requests.Request.{Request}
use Rattle.hb_request.specs.declared.requests.Request.TheVariants as request
use Rattle.hb_request.specs.Command.{command_of, command_word}
use Rattle.hb_request.specs.Fields.{request_in, options_in, action_of}
use Rattle.hb_request.specs.Parsed.{parsed}
use Rattle.hb_request.specs.Opening.{opened, opening_options}
use Rattle.hb_request.specs.Printed.{command_for, table_command, game_action, request_data, request_text}
use Rattle.hb_request.specs.Ranges.{IsRequest, IsAsk, IsAction, IsOpening, IsPositive}
use Rattle.hb_json.proofs.IsPlain.{IsPlain}
use Rattle.hb_request.proofs.PlainRequest.{IsPlain-request_data}
use Rattle.hb_request.proofs.WordOf.{has_no_space, word_of-line}

-- no command's word has a space
is-spaceless : (c : Command) → has_no_space (command_word c) ≡ true
is-spaceless command.Hello = refl
is-spaceless command.Look = refl
is-spaceless (command.Table table.Open) = refl
is-spaceless (command.Table table.Sit) = refl
is-spaceless (command.Table table.Rise) = refl
is-spaceless (command.Table table.Start) = refl
is-spaceless (command.Table table.Play) = refl
is-spaceless (command.Table table.Discard) = refl
is-spaceless (command.Table table.Clue) = refl
is-spaceless (command.Table table.Note) = refl
is-spaceless (command.Table table.Pause) = refl
is-spaceless (command.Table table.Resume) = refl
is-spaceless (command.Table table.Terminate) = refl
is-spaceless (command.Table table.Watch) = refl
is-spaceless (command.Table table.Leave) = refl
is-spaceless (command.Table table.Load) = refl
is-spaceless (command.Table table.Go) = refl
is-spaceless (command.Table table.Hypo) = refl
is-spaceless (command.Table table.Undo) = refl
is-spaceless (command.Table table.Close) = refl

-- a command's word is its own, and not empty
word-back : (c : Command) → (command_of (command_word c) ≡ Some c) × (nat_lt 0 (length (command_word c)) ≡ true)
unfolding command_of
word-back command.Hello = (refl, refl)
word-back command.Look = (refl, refl)
word-back (command.Table table.Open) = (refl, refl)
word-back (command.Table table.Sit) = (refl, refl)
word-back (command.Table table.Rise) = (refl, refl)
word-back (command.Table table.Start) = (refl, refl)
word-back (command.Table table.Play) = (refl, refl)
word-back (command.Table table.Discard) = (refl, refl)
word-back (command.Table table.Clue) = (refl, refl)
word-back (command.Table table.Note) = (refl, refl)
word-back (command.Table table.Pause) = (refl, refl)
word-back (command.Table table.Resume) = (refl, refl)
word-back (command.Table table.Terminate) = (refl, refl)
word-back (command.Table table.Watch) = (refl, refl)
word-back (command.Table table.Leave) = (refl, refl)
word-back (command.Table table.Load) = (refl, refl)
word-back (command.Table table.Go) = (refl, refl)
word-back (command.Table table.Hypo) = (refl, refl)
word-back (command.Table table.Undo) = (refl, refl)
word-back (command.Table table.Close) = (refl, refl)

nat_le-inside : (low high n : ℕ) → low ≤ n → n ≤ high → (nat_le low n && nat_le n high) ≡ true
nat_le-inside low high n h k = grind arith

nat_le-under : (high n : ℕ) → n ≤ high → (nat_le 0 n && nat_le n high) ≡ true
nat_le-under high n h = grind arith

nat_lt-byte : (n : ℕ) → n ≤ 2 ^ 8 - 1 → nat_lt n 256 ≡ true
nat_lt-byte n h = grind arith

at-most : (n k : ℕ) → n ≤ k → nat_le n k ≡ true
at-most n k h = grind arith

-- the canonical form of an action says it
action-back : (a : WireAction) → IsAction a
    → (let found : Result WireAction FieldName = action_of (action_data 0 (game_action a)) in found ≡ Ok a)
action-back (action.Play order) h = rw (nat_lt-byte order h) refl
action-back (action.Discard order) h = rw (nat_lt-byte order h) refl
action-back (action.Color to index) h = rw (nat_lt-byte to h.0, nat_lt-byte index h.1) refl
action-back (action.Rank to rank) h = rw (nat_lt-byte to h.0, nat_lt-byte rank h.1) refl

-- an object of options that says a variant and modes in their ranges asks for that opening
options-said : (d : Data) (ms : Members) (name : List ℕ) (modes : WrittenModes) (o : Options) → as_object d ≡ Some ms
    → variant_in d ≡ Ok name → is_some (variant_of name) ≡ true → modes_in d ≡ Ok modes
    → unless_fault (modes_fault modes) (options_with 0 modes) ≡ Ok o → first_other ms ≡ None
    → options_in d ≡ Ok (opened name o)
unfolding options_in
options-said d ms name modes o is_object named variant moded in_range no_other =
    rw (is_object, named, variant, moded, in_range, no_other) refl

-- the options of an opening ask for it
options-back : (name : List ℕ) (e x l t : Bool) (base turn : ℕ) → IsOpening name (opening_options e x l t base turn)
    → options_in (options_data name (opening_options e x l t base turn)) ≡ Ok (ask.Open name e x l t base turn)
options-back name e x l t base turn h =
    let o : Options = opening_options e x l t base turn in
    let says = SaysBack-options_data name o in
    options-said (options_data name o) (options_members name o) name (modes_of o) o refl
    says.variant h.0 says.modes (options_with-modes_of o h.1) says.others

-- the numbers that each request to a table has
record Numbers (room table number : ℕ) : Type 0 where
  room_in : (nat_le 0 room && nat_le room (2 ^ 32 - 1)) ≡ true
  table_in : (nat_le 1 table && nat_le table (2 ^ 32 - 1)) ≡ true
  number_in : (nat_le 1 number && nat_le number (2 ^ 32 - 1)) ≡ true

numbers-in : (room table number : ℕ) → room ≤ 2 ^ 32 - 1 → IsPositive table → IsPositive number → Numbers room table number
numbers-in room table number r t n = record {
  room_in = nat_le-under (2 ^ 32 - 1) room r;
  table_in = nat_le-inside 1 (2 ^ 32 - 1) table t.0 t.1;
  number_in = nat_le-inside 1 (2 ^ 32 - 1) number n.0 n.1;
}

-- likewise of a request to a table
table-back : (room table number : ℕ) (a : Ask) → Numbers room table number → IsAsk a
    → request_in (command.Table (table_command a)) (request_data (request.Room room table number a)) ≡ Ok (request.Room room table number a)
unfolding request_in request_data
table-back room table number (ask.Open name e x l t base turn) n h =
    rw (n.room_in, n.table_in, n.number_in, options-back name e x l t base turn h) refl
table-back room table number ask.Sit n h = rw (n.room_in, n.table_in, n.number_in) refl
table-back room table number ask.Rise n h = rw (n.room_in, n.table_in, n.number_in) refl
table-back room table number ask.Start n h = rw (n.room_in, n.table_in, n.number_in) refl
table-back room table number (ask.Play order) n h = rw (n.room_in, n.table_in, n.number_in, nat_le-under HIGHEST_ORDER order h) refl
table-back room table number (ask.Discard order) n h = rw (n.room_in, n.table_in, n.number_in, nat_le-under HIGHEST_ORDER order h) refl
table-back room table number (ask.Clue to (clue.Color index)) n h =
    rw (n.room_in, n.table_in, n.number_in, nat_le-under HIGHEST_SEAT to h.0, nat_le-under HIGHEST_COLOR index h.1) refl
table-back room table number (ask.Clue to (clue.Rank rank)) n h =
    rw (n.room_in, n.table_in, n.number_in, nat_le-under HIGHEST_SEAT to h.0, nat_le-inside 1 HIGHEST_RANK rank h.1.0 h.1.1) refl
table-back room table number (ask.Note order text) n h = rw (n.room_in, n.table_in, n.number_in, nat_le-under HIGHEST_ORDER order h) refl
table-back room table number ask.Pause n h = rw (n.room_in, n.table_in, n.number_in) refl
table-back room table number ask.Resume n h = rw (n.room_in, n.table_in, n.number_in) refl
table-back room table number ask.Terminate n h = rw (n.room_in, n.table_in, n.number_in) refl
table-back room table number (ask.Watch None) n h = rw (n.room_in, n.table_in, n.number_in) refl
table-back room table number (ask.Watch (Some seat)) n h = rw (n.room_in, n.table_in, n.number_in, nat_le-under HIGHEST_SEAT seat h) refl
table-back room table number ask.Leave n h = rw (n.room_in, n.table_in, n.number_in) refl
table-back room table number (ask.Load id) n h = rw (n.room_in, n.table_in, n.number_in, nat_le-inside 1 HIGHEST_ID id h.0 h.1) refl
table-back room table number (ask.Go turn) n h = rw (n.room_in, n.table_in, n.number_in, nat_le-under (2 ^ 16 - 1) turn h) refl
table-back room table number (ask.Hypo a) n h = rw (n.room_in, n.table_in, n.number_in, action-back a h) refl
table-back room table number ask.Undo n h = rw (n.room_in, n.table_in, n.number_in) refl
table-back room table number ask.Close n h = rw (n.room_in, n.table_in, n.number_in) refl

-- what a message says is what its request asks
request-back : (r : Request) → IsRequest r → request_in (command_for r) (request_data r) ≡ Ok r
unfolding request_in request_data
request-back (request.Hello name key) h = rw (nat_le-inside 1 KEY_LIMIT (length key) h.0 h.1) refl
request-back (request.Look room) h = rw (nat_le-under (2 ^ 32 - 1) room h) refl
request-back (request.Room room table number a) h = table-back room table number a (numbers-in room table number h.0 h.1 h.2) h.3

-- the message of a request asks it, if its JSON text reads back
parsed-message : (r : Request) → IsRequest r → read (compact_text (request_data r)) ≡ Some (request_data r)
    → length (request_text r) ≤ MESSAGE_LIMIT → parsed (request_text r) ≡ Ok r
unfolding parsed request_data
parsed-message r h reads short =
    let word = word-back (command_for r) in
    let parts = word_of-line (command_word (command_for r)) (request_data r) (is-spaceless (command_for r)) in
    rw (at-most (length (request_text r)) MESSAGE_LIMIT short, parts.0, word.1, word.0, parts.1, reads, request-back r h) refl

-- a text that is the message of a request, as it was written
pub parsed-request_text : (r : Request) (c : Command) (word : List ℕ) (d : Data) (text t : List ℕ)
    → c ≡ command_for r → word ≡ command_word c → d ≡ request_data r → text ≡ line word d
    → (depth d ≤ max_depth → read (compact_text d) ≡ Some d) → t ≡ text → IsRequest r → length t ≤ MESSAGE_LIMIT → parsed t ≡ Ok r
parsed-request_text r c word d text t same_command same_word same is_line reads same_text h short =
    let plain : IsPlain 2 d = rw same (IsPlain-request_data r) in
    let reads_back : read (compact_text (request_data r)) ≡ Some (request_data r) = rw (sym same) (reads (omega (arith, plain.low))) in
    let same_line : word ≡ command_word (command_for r) = same_word ∙ ap command_word same_command in
    let message : t ≡ request_text r = same_text ∙ is_line ∙ ap (λ w. line w d) same_line ∙ ap (line (command_word (command_for r))) same in
    rw message (parsed-message r h reads_back (rw (sym message) short))
