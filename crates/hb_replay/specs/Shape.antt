-- What does a JSON value say, or which place is the first that has not the right shape, as a
-- function? Members of a list are looked at in their order, and the fields of an object in the
-- order of these definitions.
use Rattle.std.specs.Prelude.{ℕ, ◌+◌, List, [], ◌∷◌, codes, Result, if◌then◌else◌, option_and_then, unwrap_or, ◌==◌}
use Rattle.std.specs.declared.option.Option.{Option}
use Rattle.std.specs.declared.option.Option.TheVariants.{Some}
use Rattle.std.specs.declared.result.Result.TheVariants.{Ok, Err}
use Rattle.serde_json.specs.Data.{Data, object, Items, no_items, item, no_members}
use Rattle.serde_json.specs.Find.{get, as_str, as_array, as_object}
use Rattle.hb_rules.specs.declared.suits.Identity.{Identity}
use Rattle.hb_rules.specs.declared.acts.Clue.TheVariants as clue
use Rattle.hb_replay.specs.declared.fields.TheConstants.{KINDS}
use Rattle.hb_replay.specs.declared.place.Place.{Place}
use Rattle.hb_replay.specs.declared.place.Part.TheVariants as part
use Rattle.hb_replay.specs.declared.place.PlaceField.TheVariants as field
use Rattle.hb_replay.specs.declared.written.WrittenAction.{WrittenAction}
use Rattle.hb_replay.specs.declared.written.WrittenAction.TheVariants as written
use Rattle.hb_replay.specs.declared.written.WrittenOptions.{WrittenOptions}
use Rattle.hb_replay.specs.declared.written.WrittenReplay.{WrittenReplay}
use Rattle.hb_rules.specs.Numbers.{end_of}
use Rattle.hb_json.specs.Results.{◌>>=◌, found_or, absent_or}
use Rattle.hb_json.specs.declared.option_keys.OptionKey.{OptionKey}
use Rattle.hb_json.specs.OptionKey.{first_other}
use Rattle.hb_json.specs.JsonReading.{present, below_of}
use Rattle.hb_json.specs.WrittenModes.{variant_in, starting_in, modes_in}
use Rattle.hb_replay.specs.Places.{part_place, member_place, field_place, option_place, note_place}

-- each member of a list in turn, from the index k on
abbrev pub each_at : {X E : Type 0} → (ℕ → Data → Result X E) → ℕ → Items → Result (List X) E
each_at f k no_items = Ok []
each_at f k (item d ds) = do
  x ← f k d
  xs ← each_at f (k + 1) ds
  Ok (x ∷ xs)

-- the list that is there
abbrev pub list_at : Place → Option Data → Result Items Place
list_at place found = found_or place (option_and_then as_array found)

-- the field of a member that is a whole number below n
abbrev pub number_at : Place → ℕ → List ℕ → Data → Result ℕ Place
number_at place n key d = found_or place (option_and_then (below_of n) (get key d))

-- a player's name
abbrev pub player_at : ℕ → Data → Result (List ℕ) Place
player_at k d = found_or (member_place part.Players k) (as_str d)

abbrev pub players_of : Items → Result (List (List ℕ)) Place
players_of ds = each_at player_at 0 ds

-- a card
abbrev pub card_at : ℕ → Data → Result Identity Place
card_at k d = do
  _ ← found_or (member_place part.Deck k) (as_object d)
  suit ← number_at (field_place part.Deck k field.SuitIndex) 256 (codes "suitIndex") d
  rank ← number_at (field_place part.Deck k field.Rank) 256 (codes "rank") d
  Ok (record { suit = suit; rank = rank })

abbrev pub cards_of : Items → Result (List Identity) Place
cards_of ds = each_at card_at 0 ds

-- an action of type 2, 3 or 4, with its value
abbrev pub valued_action : Place → ℕ → ℕ → ℕ → Result WrittenAction Place
valued_action place kind target value =
    if kind == 2 then Ok (written.Clue target (clue.Color value))
    else (if kind == 3 then Ok (written.Clue target (clue.Rank value))
    else (found_or place (end_of value) >>= λ how. Ok (written.End target how)))

-- an action of a type; the value of a play or discard is ignored
abbrev pub action_of_kind : Place → ℕ → ℕ → Data → Result WrittenAction Place
action_of_kind place kind target d =
    if kind == 0 then Ok (written.Play target)
    else (if kind == 1 then Ok (written.Discard target)
    else (number_at place 256 (codes "value") d >>= valued_action place kind target))

-- an action
abbrev pub action_at : ℕ → Data → Result WrittenAction Place
action_at k d = do
  _ ← found_or (member_place part.Actions k) (as_object d)
  kind ← number_at (field_place part.Actions k field.Kind) KINDS (codes "type") d
  target ← number_at (field_place part.Actions k field.Target) 256 (codes "target") d
  action_of_kind (field_place part.Actions k field.Value) kind target d

abbrev pub actions_of : Items → Result (List WrittenAction) Place
actions_of ds = each_at action_at 0 ds

-- an option that has not its type is a wrong place
abbrev pub option_shape : {X : Type 0} → Result X OptionKey → Result X Place
option_shape (Ok x) = Ok x
option_shape (Err key) = Err (option_place key)

-- the options of an object
unfoldable pub options_in : Data → Result WrittenOptions Place
options_in d = do
  ms ← found_or (part_place part.Options) (as_object d)
  variant ← option_shape (variant_in d)
  starting ← option_shape (starting_in d)
  modes ← option_shape (modes_in d)
  Ok (record { variant = variant; starting = starting; modes = modes; other = first_other ms })

-- the options; if none are written, they are those of an empty object
abbrev pub options_of : Option Data → Result WrittenOptions Place
options_of found = options_in (unwrap_or (present found) (object no_members))

-- a note; null is the empty text
abbrev pub note_at : ℕ → ℕ → Data → Result (List ℕ) Place
note_at k j d = absent_or [] (λ v. found_or (note_place k j) (as_str v)) (present (Some d))

-- a list of notes; null is the empty list
abbrev pub note_list_at : ℕ → Data → Result (List (List ℕ)) Place
note_list_at k d =
    absent_or []
    (λ v. found_or (member_place part.Notes k) (as_array v) >>= each_at (note_at k) 0)
    (present (Some d))

abbrev pub note_lists_of : Items → Result (List (List (List ℕ))) Place
note_lists_of ds = each_at note_list_at 0 ds

abbrev pub notes_of : Option Data → Result (List (List (List ℕ))) Place
notes_of found =
    absent_or []
    (λ v. found_or (part_place part.Notes) (as_array v) >>= note_lists_of)
    (present found)

-- what a value says; other keys are ignored
unfoldable pub shape_of : Data → Result WrittenReplay Place
shape_of d = do
  _ ← found_or (part_place part.Root) (as_object d)
  players ← list_at (part_place part.Players) (get (codes "players") d) >>= players_of
  deck ← list_at (part_place part.Deck) (get (codes "deck") d) >>= cards_of
  actions ← list_at (part_place part.Actions) (get (codes "actions") d) >>= actions_of
  options ← options_of (get (codes "options") d)
  notes ← notes_of (get (codes "notes") d)
  Ok (record {
    players = players;
    deck = deck;
    actions = actions;
    options = options;
    notes = notes;
  })
