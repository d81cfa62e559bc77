-- Which refusal of what has the shape of a replay is the first, as a function, and which game is
-- played?
use Rattle.std.specs.Prelude.{ℕ, ◌+◌, List, [], ◌∷◌, Result, nat_lt, if◌then◌else◌, ◌&&◌, ◌==◌, length}
use Rattle.std.specs.declared.option.Option.{Option}
use Rattle.std.specs.declared.option.Option.TheVariants.{None, Some}
use Rattle.std.specs.declared.result.Result.TheVariants.{Ok, Err}
use Rattle.serde_json.specs.Data.{Data}
use Rattle.hb_rules.specs.declared.suits.Identity.{Identity}
use Rattle.hb_rules.specs.declared.variants.Variant.{Variant}
use Rattle.hb_rules.specs.declared.acts.Act.{Act}
use Rattle.hb_rules.specs.declared.acts.Options.{Options}
use Rattle.hb_rules.specs.declared.acts.Rule.{Rule}
use Rattle.hb_rules.specs.Setup.{Position}
use Rattle.hb_rules.specs.Start.{are_players, started}
use Rattle.hb_rules.specs.Cards.{is_deck}
use Rattle.hb_rules.specs.Positions.{after, rule}
use Rattle.hb_suits.specs.VariantNames.{variant_of}
use Rattle.hb_replay.specs.declared.written.WrittenAction.{WrittenAction}
use Rattle.hb_replay.specs.declared.written.WrittenOptions.{WrittenOptions}
use Rattle.hb_replay.specs.declared.written.WrittenReplay.{WrittenReplay}
use Rattle.hb_replay.specs.declared.place.Place.{Place}
use Rattle.hb_replay.specs.declared.errors.OptName.TheVariants as option
use Rattle.hb_replay.specs.declared.errors.ReplayError.{ReplayError}
use Rattle.hb_replay.specs.declared.errors.ReplayError.TheVariants as fault
use Rattle.hb_replay.specs.Contents.{Contents, notes_fit}
use Rattle.hb_replay.specs.Places.{index}
use Rattle.hb_json.specs.declared.modes.OptionFault.{OptionFault}
use Rattle.hb_json.specs.Results.{◌>>=◌, found_or, must}
use Rattle.hb_json.specs.WrittenModes.{modes_fault, options_with, unless_fault}
use Rattle.hb_replay.specs.Errors.{refused_mode}
use Rattle.hb_replay.specs.Shape.{shape_of}
use Rattle.hb_replay.specs.WrittenReplay.{act_of, says_end, contents_of}

-- a mode out of its range is a refused option
abbrev pub in_range : {X : Type 0} → Result X OptionFault → Result X ReplayError
in_range (Ok x) = Ok x
in_range (Err mode) = Err (fault.Option (refused_mode mode))

-- an option that is not understood is refused
abbrev pub no_other : Option (List ℕ) → Result (Unit {0}) ReplayError
no_other None = Ok tt
no_other (Some name) = Err (fault.Option (option.Other name))

-- the options of a game of n players, or the first that is refused
unfoldable pub options_for : ℕ → WrittenOptions → Result Options ReplayError
options_for n o = do
  _ ← must (fault.Option option.StartingPlayer) (nat_lt o.starting n)
  found ← in_range (unless_fault (modes_fault o.modes) (options_with o.starting o.modes))
  _ ← no_other o.other
  Ok found

-- the game with one more act, unless it breaks a rule; k is the index of its action
abbrev pub with_act : ℕ → Position → Act → Option Rule → Result Position ReplayError
with_act k p act None = Ok (after p act)
with_act k p act (Some r) = Err (fault.Action (index k) r)

-- the game with the actions in turn, from the index k on; the last one is ignored if it says the
-- end that the game has come to
abbrev pub played : ℕ → Position → List WrittenAction → Result Position ReplayError
played k p [] = Ok p
played k p (a ∷ rest) = if length rest == 0 && says_end p a then Ok p
    else (with_act k p (act_of p a) (rule p (act_of p a)) >>= λ q. played (k + 1) q rest)

-- the game before its first act, unless the cards are no deck
abbrev pub opening : Variant → Options → ℕ → List Identity → Result Position ReplayError
opening v o n deck = must fault.Deck (is_deck v deck) >>= λ _. Ok (started v o n deck)

-- the game that is played, or the first refusal
unfoldable pub game_in : WrittenReplay → Result Position ReplayError
game_in w = do
  _ ← must fault.Players (are_players (length w.players))
  v ← found_or fault.Variant (variant_of w.options.variant)
  o ← options_for (length w.players) w.options
  p ← opening v o (length w.players) w.deck
  q ← played 0 p w.actions
  _ ← must fault.Notes (notes_fit w.notes)
  Ok q

-- a wrong place is a refusal
abbrev pub shaped : {X : Type 0} → Result X Place → Result X ReplayError
shaped (Ok x) = Ok x
shaped (Err place) = Err (fault.Shape place)

-- the replay that is written, or the first refusal after those of the shape
abbrev pub replay_in : WrittenReplay → Result Contents ReplayError
replay_in w = game_in w >>= λ p. Ok (contents_of w p)

-- the replay that a JSON value is, or the first refusal
abbrev pub replay_of : Data → Result Contents ReplayError
replay_of d = shaped (shape_of d) >>= replay_in
