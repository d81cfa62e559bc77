-- What does an object of options say of a game? Each option has its type, its default and its range
-- here.
use Rattle.std.specs.Prelude.{◌≡◌, ◌≤◌, ℕ, List, codes, Result, nat_lt, if◌then◌else◌, Bool, true, false, ◌&&◌, Option, None, Some}
use Rattle.std.specs.declared.result.Result.TheVariants.{Ok, Err}
use Rattle.serde_json.specs.Data.{Data}
use Rattle.serde_json.specs.Find.{get, as_bool, as_str}
use Rattle.hb_rules.specs.declared.acts.Options.{Options}
use Rattle.hb_rules.specs.declared.limits.TheConstants.{DEFAULT_BASE_SECONDS, DEFAULT_TURN_SECONDS, MOST_SECONDS}
use Rattle.hb_json.specs.declared.modes.OptionFault.{OptionFault}
use Rattle.hb_json.specs.declared.modes.OptionFault.TheVariants as fault
use Rattle.hb_json.specs.declared.modes.WrittenModes.{WrittenModes}
use Rattle.hb_json.specs.declared.option_keys.OptionKey.{OptionKey}
use Rattle.hb_json.specs.declared.option_keys.OptionKey.TheVariants as option
use Rattle.hb_json.specs.OptionKey.{option_name}
use Rattle.hb_json.specs.JsonReading.{present, whole_of}
use Rattle.hb_json.specs.Results.{◌>>=◌, absent_or, found_or}

-- an option: the default if it is absent or null, and else what it is read as
abbrev pub option_in : {X : Type 0} → (Data → Option X) → OptionKey → X → Data → Result X OptionKey
option_in as_type key default d =
    absent_or default (λ v. found_or key (as_type v)) (present (get (option_name key) d))

-- the variant's name
abbrev pub variant_in : Data → Result (List ℕ) OptionKey
variant_in d = option_in as_str option.Variant (codes "No Variant") d

-- the starting player
abbrev pub starting_in : Data → Result ℕ OptionKey
starting_in d = option_in whole_of option.StartingPlayer 0 d

-- an option that is true or false, and false by default
abbrev pub flag_in : OptionKey → Data → Result Bool OptionKey
flag_in key d = option_in as_bool key false d

-- the options except the variant and the starting player
abbrev pub modes_in : Data → Result WrittenModes OptionKey
modes_in d = do
  empty_clues ← flag_in option.EmptyClues d
  extra_card ← flag_in option.OneExtraCard d
  less_card ← flag_in option.OneLessCard d
  timed ← flag_in option.Timed d
  base_s ← option_in whole_of option.TimeBase DEFAULT_BASE_SECONDS d
  per_turn_s ← option_in whole_of option.TimePerTurn DEFAULT_TURN_SECONDS d
  Ok (record {
    empty_clues = empty_clues;
    extra_card = extra_card;
    less_card = less_card;
    timed = timed;
    base_s = base_s;
    per_turn_s = per_turn_s;
  })

-- the first of them that is out of its range
abbrev pub modes_fault : WrittenModes → Option OptionFault
modes_fault m =
    if m.extra_card && m.less_card then Some fault.OneLessCard
    else (if m.timed && nat_lt MOST_SECONDS m.base_s then Some fault.TimeBase
    else (if m.timed && nat_lt MOST_SECONDS m.per_turn_s then Some fault.TimePerTurn else None))

-- the option that a fault is of
abbrev pub fault_key : OptionFault → OptionKey
fault_key fault.OneLessCard = option.OneLessCard
fault_key fault.TimeBase = option.TimeBase
fault_key fault.TimePerTurn = option.TimePerTurn

-- the options of a game in which a seat has the first turn; the times of a game that is not timed
-- are ignored
abbrev pub options_with : ℕ → WrittenModes → Options
options_with starting m = record {
  starting = starting;
  empty_clues = m.empty_clues;
  extra_card = m.extra_card;
  less_card = m.less_card;
  timed = m.timed;
  base_s = if m.timed then m.base_s else DEFAULT_BASE_SECONDS;
  per_turn_s = if m.timed then m.per_turn_s else DEFAULT_TURN_SECONDS;
}

-- this value, unless there is a fault
abbrev pub unless_fault : {X E : Type 0} → Option E → X → Result X E
unless_fault None x = Ok x
unless_fault (Some e) x = Err e

-- the seconds of a timed game are at most a million, and those of a game that is not timed the
-- default
abbrev pub AreSeconds : Bool → ℕ → ℕ → Type 0
AreSeconds true default seconds = seconds ≤ MOST_SECONDS
AreSeconds false default seconds = seconds ≡ default

-- not both card options are true, and the times are in their ranges
abbrev pub AreModes : Options → Type 0
AreModes o =
    ((o.extra_card && o.less_card) ≡ false)
    × AreSeconds o.timed DEFAULT_BASE_SECONDS o.base_s
    × AreSeconds o.timed DEFAULT_TURN_SECONDS o.per_turn_s
