-- What has a viewer observed of a game? It is what all know of it, and its events without the cards
-- that the viewer's blind set hides. What a viewer is sent of a game is a function of this record,
-- except for the names in its first line. It has no deck.
use Rattle.std.specs.Prelude.{ℕ, ◌^◌, List, bit_or}
use Rattle.hb_rules.specs.declared.acts.Options.{Options}
use Rattle.hb_rules.specs.declared.events.Event.{Event}
use Rattle.hb_rules.specs.declared.setups.Setup.{Setup}
use Rattle.hb_rules.specs.declared.suits.Identity.{Identity}
use Rattle.hb_rules.specs.declared.variants.Variant.{Variant}
use Rattle.hb_rules.specs.Events.{blank, observation}
use Rattle.hb_rules.specs.Setup.{Position, with_deck}

-- the blind set, the settings that all know, and the events as the blind set is told them
pub record Observed : Type 0 where
  pub blind : ℕ
  pub variant : Variant
  pub options : Options
  pub players : ℕ
  pub events : List Event

-- what a blind set has observed of a game
abbrev pub observed : ℕ → Position → Observed
observed blind p = record {
  blind = blind;
  variant = p.setup.variant;
  options = p.setup.options;
  players = p.setup.players;
  events = observation blind p.setup p.past;
}

-- what is left of it for a viewer that does not see a seat's cards either
abbrev pub with_seat : Observed → ℕ → Observed
with_seat seen seat = let blind : ℕ = bit_or seen.blind (2 ^ seat) in
    record seen { blind = blind; events = blank blind seen.events }

-- the game's setup, if this is its deck
abbrev pub setup_with : Observed → List Identity → Setup
setup_with seen deck = with_deck seen.variant seen.options seen.players deck
