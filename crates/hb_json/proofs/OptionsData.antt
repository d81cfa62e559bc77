-- The canonical options object says the options that it was written from.
use Rattle.std.proofs.Common.{◌≡◌, ◌≤◌, ◌∙◌, ℕ, Ok, Bool, true, false, refl, List, ap, arith}
use Rattle.std.specs.Prelude.{if◌then◌else◌, nat_lt, not, ◌==◌}
use Rattle.std.specs.declared.option.Option.TheVariants.{None}
use Rattle.serde_json.specs.Data.{Members, no_members, object, put, string}
use Rattle.hb_rules.specs.declared.acts.Options.{Options}
use Rattle.hb_rules.specs.declared.limits.TheConstants.{DEFAULT_BASE_SECONDS, DEFAULT_TURN_SECONDS, MOST_SECONDS}
use Rattle.hb_json.specs.declared.modes.WrittenModes.{WrittenModes}
use Rattle.hb_json.specs.declared.option_keys.OptionKey.TheVariants as option
use Rattle.hb_json.specs.OptionKey.{first_other, option_name}
use Rattle.hb_json.specs.Values.{options_data, options_members, put_flag, put_if, put_seconds, whole}
use Rattle.hb_json.specs.WrittenModes.{AreModes, modes_fault, modes_in, options_with, starting_in, unless_fault, variant_in}

-- the modes of options, with the default times if the game is not timed
abbrev pub modes_of : Options → WrittenModes
modes_of o = record {
  empty_clues = o.empty_clues;
  extra_card = o.extra_card;
  less_card = o.less_card;
  timed = o.timed;
  base_s = if o.timed then o.base_s else DEFAULT_BASE_SECONDS;
  per_turn_s = if o.timed then o.per_turn_s else DEFAULT_TURN_SECONDS;
}

abbrev options : ℕ → ℕ → ℕ → Bool → Bool → Bool → Bool → Options
options starting base turn e x l t = record {
  starting = starting;
  empty_clues = e;
  extra_card = x;
  less_card = l;
  timed = t;
  base_s = base;
  per_turn_s = turn;
}

-- each reader finds what was written, and no other option is true
pub record SaysBack (name : List ℕ) (o : Options) : Type 0 where
  pub variant : variant_in (options_data name o) ≡ Ok name
  pub starting : starting_in (options_data name o) ≡ Ok o.starting
  pub modes : modes_in (options_data name o) ≡ Ok (modes_of o)
  pub others : first_other (options_members name o) ≡ None

-- the members that are written of options, with the test that the starting player is not 0 as an argument
abbrev written : List ℕ → ℕ → ℕ → ℕ → Bool → Bool → Bool → Bool → Bool → Members
written name starting base turn later e x l t =
    put_seconds option.TimePerTurn t turn
    (put_seconds option.TimeBase t base
    (put_flag option.Timed t
    (put_if later (option_name option.StartingPlayer) (whole starting)
    (put_flag option.OneLessCard l
    (put_flag option.OneExtraCard x
    (put_flag option.EmptyClues e
    (put (option_name option.Variant) (string name) no_members)))))))

abbrev modes : ℕ → ℕ → Bool → Bool → Bool → Bool → WrittenModes
modes base turn e x l t = record {
  empty_clues = e;
  extra_card = x;
  less_card = l;
  timed = t;
  base_s = if t then base else DEFAULT_BASE_SECONDS;
  per_turn_s = if t then turn else DEFAULT_TURN_SECONDS;
}

record Says (name : List ℕ) (starting base turn : ℕ) (later e x l t : Bool) : Type 0 where
  a_variant : variant_in (object (written name starting base turn later e x l t)) ≡ Ok name
  a_starting : starting_in (object (written name starting base turn later e x l t)) ≡ Ok (if later then starting else 0)
  some_modes : modes_in (object (written name starting base turn later e x l t)) ≡ Ok (modes base turn e x l t)
  no_others : first_other (written name starting base turn later e x l t) ≡ None

-- by cases of what is true or false
options-says : (name : List ℕ) (starting base turn : ℕ) (later e x l t : Bool) → Says name starting base turn later e x l t
options-says name starting base turn true true true true true =
    record { a_variant = refl; a_starting = refl; some_modes = refl; no_others = refl }
options-says name starting base turn true true true true false =
    record { a_variant = refl; a_starting = refl; some_modes = refl; no_others = refl }
options-says name starting base turn true true true false true =
    record { a_variant = refl; a_starting = refl; some_modes = refl; no_others = refl }
options-says name starting base turn true true true false false =
    record { a_variant = refl; a_starting = refl; some_modes = refl; no_others = refl }
options-says name starting base turn true true false true true =
    record { a_variant = refl; a_starting = refl; some_modes = refl; no_others = refl }
options-says name starting base turn true true false true false =
    record { a_variant = refl; a_starting = refl; some_modes = refl; no_others = refl }
options-says name starting base turn true true false false true =
    record { a_variant = refl; a_starting = refl; some_modes = refl; no_others = refl }
options-says name starting base turn true true false false false =
    record { a_variant = refl; a_starting = refl; some_modes = refl; no_others = refl }
options-says name starting base turn true false true true true =
    record { a_variant = refl; a_starting = refl; some_modes = refl; no_others = refl }
options-says name starting base turn true false true true false =
    record { a_variant = refl; a_starting = refl; some_modes = refl; no_others = refl }
options-says name starting base turn true false true false true =
    record { a_variant = refl; a_starting = refl; some_modes = refl; no_others = refl }
options-says name starting base turn true false true false false =
    record { a_variant = refl; a_starting = refl; some_modes = refl; no_others = refl }
options-says name starting base turn true false false true true =
    record { a_variant = refl; a_starting = refl; some_modes = refl; no_others = refl }
options-says name starting base turn true false false true false =
    record { a_variant = refl; a_starting = refl; some_modes = refl; no_others = refl }
options-says name starting base turn true false false false true =
    record { a_variant = refl; a_starting = refl; some_modes = refl; no_others = refl }
options-says name starting base turn true false false false false =
    record { a_variant = refl; a_starting = refl; some_modes = refl; no_others = refl }
options-says name starting base turn false true true true true =
    record { a_variant = refl; a_starting = refl; some_modes = refl; no_others = refl }
options-says name starting base turn false true true true false =
    record { a_variant = refl; a_starting = refl; some_modes = refl; no_others = refl }
options-says name starting base turn false true true false true =
    record { a_variant = refl; a_starting = refl; some_modes = refl; no_others = refl }
options-says name starting base turn false true true false false =
    record { a_variant = refl; a_starting = refl; some_modes = refl; no_others = refl }
options-says name starting base turn false true false true true =
    record { a_variant = refl; a_starting = refl; some_modes = refl; no_others = refl }
options-says name starting base turn false true false true false =
    record { a_variant = refl; a_starting = refl; some_modes = refl; no_others = refl }
options-says name starting base turn false true false false true =
    record { a_variant = refl; a_starting = refl; some_modes = refl; no_others = refl }
options-says name starting base turn false true false false false =
    record { a_variant = refl; a_starting = refl; some_modes = refl; no_others = refl }
options-says name starting base turn false false true true true =
    record { a_variant = refl; a_starting = refl; some_modes = refl; no_others = refl }
options-says name starting base turn false false true true false =
    record { a_variant = refl; a_starting = refl; some_modes = refl; no_others = refl }
options-says name starting base turn false false true false true =
    record { a_variant = refl; a_starting = refl; some_modes = refl; no_others = refl }
options-says name starting base turn false false true false false =
    record { a_variant = refl; a_starting = refl; some_modes = refl; no_others = refl }
options-says name starting base turn false false false true true =
    record { a_variant = refl; a_starting = refl; some_modes = refl; no_others = refl }
options-says name starting base turn false false false true false =
    record { a_variant = refl; a_starting = refl; some_modes = refl; no_others = refl }
options-says name starting base turn false false false false true =
    record { a_variant = refl; a_starting = refl; some_modes = refl; no_others = refl }
options-says name starting base turn false false false false false =
    record { a_variant = refl; a_starting = refl; some_modes = refl; no_others = refl }

unless-zero : (n : ℕ) → (if not (n == 0) then n else 0) ≡ n
unless-zero n = grind arith

-- what options_data writes is said back
pub SaysBack-options_data : (name : List ℕ) (o : Options) → SaysBack name o
SaysBack-options_data name o =
    let h = options-says name o.starting o.base_s o.per_turn_s (not (o.starting == 0)) o.empty_clues o.extra_card o.less_card o.timed in
    record { variant = h.a_variant; starting = h.a_starting ∙ ap Ok (unless-zero o.starting); modes = h.some_modes; others = h.no_others }

not-above : (n : ℕ) → n ≤ MOST_SECONDS → nat_lt MOST_SECONDS n ≡ false
not-above n h = grind arith

modes_fault-modes_of : (starting base turn : ℕ) (e x l t : Bool) → AreModes (options starting base turn e x l t)
    → modes_fault (modes_of (options starting base turn e x l t)) ≡ None
modes_fault-modes_of starting base turn e x l true h = rw (h.0, not-above base h.1, not-above turn h.2) refl
modes_fault-modes_of starting base turn e x l false h = rw h.0 refl

options_with-same : (starting base turn : ℕ) (e x l t : Bool) → AreModes (options starting base turn e x l t)
    → options_with starting (modes_of (options starting base turn e x l t)) ≡ options starting base turn e x l t
options_with-same starting base turn e x l true h = refl
options_with-same starting base turn e x l false h = rw (h.1, h.2) refl

-- options in their ranges are those of their modes
pub options_with-modes_of : (o : Options) → AreModes o
    → unless_fault (modes_fault (modes_of o)) (options_with o.starting (modes_of o)) ≡ Ok o
options_with-modes_of o h =
    let no_fault : modes_fault (modes_of o) ≡ None =
    modes_fault-modes_of o.starting o.base_s o.per_turn_s o.empty_clues o.extra_card o.less_card o.timed h in
    let it : options_with o.starting (modes_of o) ≡ o =
    options_with-same o.starting o.base_s o.per_turn_s o.empty_clues o.extra_card o.less_card o.timed h in
    rw (no_fault, it) refl
