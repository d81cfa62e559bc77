-- What does each field of a request say, or why is it refused? A field may be missing or out of its
-- range. The fields of a command are looked at in the order of these definitions. Other keys are
-- ignored.
use Rattle.std.specs.Prelude.{ℕ, ◌-◌, ◌^◌, List, codes, length, Result, nat_le, if◌then◌else◌, ◌&&◌, ◌==◌, is_none, is_some, Option, None, Some, option_map, option_and_then}
use Rattle.std.specs.declared.result.Result.TheVariants.{Ok, Err}
use Rattle.serde_json.specs.Data.{Data, object, no_members}
use Rattle.serde_json.specs.Find.{get, as_str, as_object}
use Rattle.hb_rules.specs.declared.acts.Options.{Options}
use Rattle.hb_rules.specs.declared.limits.TheConstants.{HIGHEST_RANK}
use Rattle.hb_suits.specs.VariantNames.{variant_of}
use Rattle.hb_json.specs.Results.{◌>>=◌, found_or, absent_or, must}
use Rattle.hb_json.specs.OptionKey.{first_other}
use Rattle.hb_json.specs.JsonReading.{present, whole_of, below_of}
use Rattle.hb_json.specs.WrittenModes.{modes_fault, modes_in, options_with, unless_fault, variant_in}
use Rattle.hb_request.specs.declared.asks.TheConstants.{KINDS}
use Rattle.hb_request.specs.declared.commands.TableCommand.{TableCommand}
use Rattle.hb_request.specs.declared.commands.TableCommand.TheVariants as table
use Rattle.hb_request.specs.declared.commands.Command.{Command}
use Rattle.hb_request.specs.declared.commands.Command.TheVariants as command
use Rattle.hb_request.specs.declared.errors.FieldName.{FieldName}
use Rattle.hb_request.specs.declared.errors.FieldName.TheVariants as field
use Rattle.hb_request.specs.declared.limits.TheConstants.{HIGHEST_COLOR, HIGHEST_ID, HIGHEST_ORDER, HIGHEST_SEAT, KEY_LIMIT}
use Rattle.hb_request.specs.declared.requests.WireClue.{WireClue}
use Rattle.hb_request.specs.declared.requests.WireClue.TheVariants as clue
use Rattle.hb_request.specs.declared.requests.WireAction.{WireAction}
use Rattle.hb_request.specs.declared.requests.WireAction.TheVariants as action
use Rattle.hb_request.specs.declared.requests.Ask.{Ask}
use Rattle.hb_request.specs.declared.requests.Ask.TheVariants as ask
use Rattle.hb_request.specs.declared.requests.Request.{Request}
use Rattle.hb_request.specs.declared.requests.Request.TheVariants as request
use Rattle.hb_request.specs.Opening.{opened}
use Rattle.hb_request.specs.WireError.{field_text}

-- a whole number of low to high
abbrev pub within : ℕ → ℕ → Data → Option ℕ
within low high d =
    option_and_then (λ n. if nat_le low n && nat_le n high then Some n else None) (whole_of d)

-- a field that is a whole number of low to high
abbrev pub number_in : FieldName → ℕ → ℕ → Data → Result ℕ FieldName
number_in f low high d = found_or f (option_and_then (within low high) (get (field_text f) d))

-- a field that is a text
abbrev pub text_in : FieldName → Data → Result (List ℕ) FieldName
text_in f d = found_or f (option_and_then as_str (get (field_text f) d))

-- a key of 1 to 64 bytes
abbrev pub as_key : Data → Option (List ℕ)
as_key d = option_and_then
    (λ key. if nat_le 1 (length key) && nat_le (length key) KEY_LIMIT then Some key else None)
    (as_str d)

abbrev pub key_in : Data → Result (List ℕ) FieldName
key_in d = found_or field.Key (option_and_then as_key (get (field_text field.Key) d))

abbrev pub room_in : Data → Result ℕ FieldName
room_in d = number_in field.Room 0 (2 ^ 32 - 1) d

abbrev pub table_in : Data → Result ℕ FieldName
table_in d = number_in field.Table 1 (2 ^ 32 - 1) d

abbrev pub request_number_in : Data → Result ℕ FieldName
request_number_in d = number_in field.Number 1 (2 ^ 32 - 1) d

abbrev pub order_in : Data → Result ℕ FieldName
order_in d = number_in field.Order 0 HIGHEST_ORDER d

abbrev pub seat_in : Data → Result ℕ FieldName
seat_in d = number_in field.To 0 HIGHEST_SEAT d

abbrev pub id_in : Data → Result ℕ FieldName
id_in d = number_in field.Id 1 HIGHEST_ID d

abbrev pub turn_in : Data → Result ℕ FieldName
turn_in d = number_in field.Turn 0 (2 ^ 16 - 1) d

-- a seat, or none if it is absent or null
abbrev pub shadow_in : Data → Result (Option ℕ) FieldName
shadow_in d =
    absent_or None (λ v. found_or field.Shadow (option_map Some (within 0 HIGHEST_SEAT v)))
    (present (get (field_text field.Shadow) d))

-- the clue of a colour or of a rank, of which exactly one is there
abbrev pub clue_of : Option Data → Option Data → Option WireClue
clue_of None None = None
clue_of (Some color) None = option_map clue.Color (within 0 HIGHEST_COLOR color)
clue_of None (Some rank) = option_map clue.Rank (within 1 HIGHEST_RANK rank)
clue_of (Some color) (Some rank) = None

abbrev pub clue_in : Data → Result WireClue FieldName
clue_in d = found_or field.Clue (clue_of (get (codes "color") d) (get (codes "rank") d))

-- a number of an action below n
abbrev pub action_number : ℕ → List ℕ → Data → Result ℕ FieldName
action_number n key d = found_or field.Action (option_and_then (below_of n) (get key d))

-- a clue of type 2 or 3, with its value
abbrev pub clue_action : ℕ → ℕ → ℕ → WireAction
clue_action kind target value =
    if kind == 2 then action.Color target value else action.Rank target value

-- an action of a type; the value of a play or discard is ignored
abbrev pub action_of_kind : ℕ → ℕ → Data → Result WireAction FieldName
action_of_kind kind target d =
    if kind == 0 then Ok (action.Play target)
    else (if kind == 1 then Ok (action.Discard target)
    else (action_number 256 (codes "value") d >>= λ value. Ok (clue_action kind target value)))

-- an action of type 0 to 3
abbrev pub action_of : Data → Result WireAction FieldName
action_of d = do
  kind ← action_number KINDS (codes "type") d
  target ← action_number 256 (codes "target") d
  action_of_kind kind target d

abbrev pub action_in : Data → Result WireAction FieldName
action_in d = found_or field.Action (get (field_text field.Action) d) >>= action_of

-- an option that is wrong makes the field `options` wrong
abbrev pub in_options : {X E : Type 0} → Result X E → Result X FieldName
in_options (Ok x) = Ok x
in_options (Err e) = Err field.Options

-- the name of a variant
abbrev pub variant_name_in : Data → Result (List ℕ) FieldName
variant_name_in d = do
  name ← in_options (variant_in d)
  _ ← must field.Options (is_some (variant_of name))
  Ok name

-- the options of a game in which the first seat has the first turn; `startingPlayer` is ignored
abbrev pub table_options_in : Data → Result Options FieldName
table_options_in d = do
  modes ← in_options (modes_in d)
  in_options (unless_fault (modes_fault modes) (options_with 0 modes))

-- the opening that an object of options asks for: its variant and options are in their ranges, and
-- no other option is true
unfoldable pub options_in : Data → Result Ask FieldName
options_in d = do
  ms ← found_or field.Options (as_object d)
  name ← variant_name_in d
  options ← table_options_in d
  _ ← must field.Options (is_none (first_other ms))
  Ok (opened name options)

-- absent options are those of an empty object
abbrev pub or_empty : Option Data → Data
or_empty None = object no_members
or_empty (Some d) = d

-- an opening
abbrev pub open_in : Data → Result Ask FieldName
open_in d = options_in (or_empty (get (field_text field.Options) d))

-- a clue to a seat
abbrev pub clue_asked : Data → Result Ask FieldName
clue_asked d = do
  to ← seat_in d
  clue ← clue_in d
  Ok (ask.Clue to clue)

-- a text at a card
abbrev pub note_asked : Data → Result Ask FieldName
note_asked d = do
  order ← order_in d
  text ← text_in field.Text d
  Ok (ask.Note order text)

-- what a command asks of a table
abbrev pub asked : TableCommand → Data → Result Ask FieldName
asked table.Open d = open_in d
asked table.Sit d = Ok ask.Sit
asked table.Rise d = Ok ask.Rise
asked table.Start d = Ok ask.Start
asked table.Play d = order_in d >>= λ order. Ok (ask.Play order)
asked table.Discard d = order_in d >>= λ order. Ok (ask.Discard order)
asked table.Clue d = clue_asked d
asked table.Note d = note_asked d
asked table.Pause d = Ok ask.Pause
asked table.Resume d = Ok ask.Resume
asked table.Terminate d = Ok ask.Terminate
asked table.Watch d = shadow_in d >>= λ shadow. Ok (ask.Watch shadow)
asked table.Leave d = Ok ask.Leave
asked table.Load d = id_in d >>= λ id. Ok (ask.Load id)
asked table.Go d = turn_in d >>= λ turn. Ok (ask.Go turn)
asked table.Hypo d = action_in d >>= λ action. Ok (ask.Hypo action)
asked table.Undo d = Ok ask.Undo
asked table.Close d = Ok ask.Close

-- a name and its key
abbrev pub hello_in : Data → Result Request FieldName
hello_in d = do
  name ← text_in field.Name d
  key ← key_in d
  Ok (request.Hello name key)

-- a request to a table of a room
abbrev pub table_request_in : TableCommand → Data → Result Request FieldName
table_request_in t d = do
  room ← room_in d
  table ← table_in d
  number ← request_number_in d
  ask ← asked t d
  Ok (request.Room room table number ask)

-- what a command asks, or the first field that is missing or out of its range
unfoldable pub request_in : Command → Data → Result Request FieldName
request_in command.Hello d = hello_in d
request_in command.Look d = room_in d >>= λ room. Ok (request.Look room)
request_in (command.Table t) d = table_request_in t d
