-- Which JSON data do replays and messages have in common? `put` keeps the keys of an object in byte
-- order.
use Rattle.std.specs.Prelude.{ℕ, List, codes, map, Bool, true, false, not, ◌==◌, Option, None, Some}
use Rattle.serde_json.specs.Data.{Data, null, number, unsigned, string, boolean, array, object, Members, no_members, member, put}
use Rattle.serde_json.specs.View.{items_of}
use Rattle.hb_rules.specs.declared.acts.Action.{Action}
use Rattle.hb_rules.specs.declared.acts.Action.TheVariants as action
use Rattle.hb_rules.specs.declared.acts.Clue.TheVariants as clue
use Rattle.hb_rules.specs.declared.acts.Options.{Options}
use Rattle.hb_rules.specs.Numbers.{end_number}
use Rattle.hb_json.specs.declared.option_keys.OptionKey.{OptionKey}
use Rattle.hb_json.specs.declared.option_keys.OptionKey.TheVariants as option
use Rattle.hb_json.specs.OptionKey.{option_name}

-- a whole number
abbrev pub whole : ℕ → Data
whole n = number (unsigned n)

-- a list of whole numbers
abbrev pub wholes_data : List ℕ → Data
wholes_data numbers = array (items_of (map whole numbers))

-- a list of texts
abbrev pub texts_data : List (List ℕ) → Data
texts_data texts = array (items_of (map string texts))

-- the members with one more, if it is written
abbrev pub put_if : Bool → List ℕ → Data → Members → Members
put_if true key d ms = put key d ms
put_if false key d ms = ms

-- the members with an option, if it is true
abbrev pub put_flag : OptionKey → Bool → Members → Members
put_flag key flag ms = put_if flag (option_name key) (boolean true) ms

-- the members with a time, if the game is timed
abbrev pub put_seconds : OptionKey → Bool → ℕ → Members → Members
put_seconds key timed seconds ms = put_if timed (option_name key) (whole seconds) ms

-- the members of the canonical options object: the variant's name always, the times if the game is
-- timed, and each other option if it is not its default
abbrev pub options_members : List ℕ → Options → Members
options_members name o =
    put_seconds option.TimePerTurn o.timed o.per_turn_s
    (put_seconds option.TimeBase o.timed o.base_s
    (put_flag option.Timed o.timed
    (put_if (not (o.starting == 0)) (option_name option.StartingPlayer) (whole o.starting)
    (put_flag option.OneLessCard o.less_card
    (put_flag option.OneExtraCard o.extra_card
    (put_flag option.EmptyClues o.empty_clues
    (put (option_name option.Variant) (string name) no_members)))))))

-- the canonical options object
abbrev pub options_data : List ℕ → Options → Data
options_data name o = object (options_members name o)

-- a seat, or null
abbrev pub seat_data : Option ℕ → Data
seat_data None = null
seat_data (Some seat) = whole seat

-- an action of type 0 or 1
abbrev pub card_action_data : ℕ → ℕ → Data
card_action_data target kind =
    object (member (codes "target") (whole target)
    (member (codes "type") (whole kind) no_members))

-- an action of type 2, 3 or 4
abbrev pub valued_action_data : ℕ → ℕ → ℕ → Data
valued_action_data target kind value =
    object (member (codes "target") (whole target)
    (member (codes "type") (whole kind)
    (member (codes "value") (whole value) no_members)))

-- an action; the seat that takes it is written of an end alone
abbrev pub action_data : ℕ → Action → Data
action_data who (action.Play order) = card_action_data order 0
action_data who (action.Discard order) = card_action_data order 1
action_data who (action.Clue to (clue.Color c)) = valued_action_data to 2 c
action_data who (action.Clue to (clue.Rank r)) = valued_action_data to 3 r
action_data who (action.End how) = valued_action_data who 4 (end_number how)
