-- Which options of a game are understood, and by which names (after Hanabi Live)?
use Rattle.std.specs.Prelude.{ℕ, List, codes, if◌then◌else◌, Bool, false, not, ◌&&◌, Option, None, Some, bytes_eq}
use Rattle.std.specs.List.{list_any}
use Rattle.serde_json.specs.Data.{Members, no_members, member}
use Rattle.serde_json.specs.Find.{as_bool}
use Rattle.hb_json.specs.declared.option_keys.OptionKey.{OptionKey}
use Rattle.hb_json.specs.declared.option_keys.OptionKey.TheVariants as option
use Rattle.hb_json.specs.declared.option_keys.TheConstants.OptionKey.{ALL}

-- the name of an option
abbrev pub option_name : OptionKey → List ℕ
option_name option.Variant = codes "variant"
option_name option.StartingPlayer = codes "startingPlayer"
option_name option.EmptyClues = codes "emptyClues"
option_name option.OneExtraCard = codes "oneExtraCard"
option_name option.OneLessCard = codes "oneLessCard"
option_name option.Timed = codes "timed"
option_name option.TimeBase = codes "timeBase"
option_name option.TimePerTurn = codes "timePerTurn"

-- some option has this name
abbrev pub is_understood : List ℕ → Bool
is_understood name = list_any (λ key. bytes_eq (option_name key) name) ALL

-- the value is true
abbrev pub is_true : Option Bool → Bool
is_true None = false
is_true (Some b) = b

-- the first member that is true and not understood; the members of an object stand in byte order of
-- their names
abbrev pub first_other : Members → Option (List ℕ)
first_other no_members = None
first_other (member name d ms) =
    if not (is_understood name) && is_true (as_bool d) then Some name else first_other ms
