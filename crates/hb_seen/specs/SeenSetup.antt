-- Which setup does a blind set see, and of which acts can it tell whether they break a rule?
use Rattle.std.specs.Prelude.{◌≡◌, ℕ, Bool, true, not, ◌||◌, ◌==◌, List, length}
use Rattle.hb_rules.specs.declared.acts.Act.{Act}
use Rattle.hb_rules.specs.declared.acts.Action.{Action}
use Rattle.hb_rules.specs.declared.acts.Action.TheVariants as action
use Rattle.hb_rules.specs.declared.setups.Setup.{Setup}
use Rattle.hb_rules.specs.Cards.{cards}
use Rattle.hb_rules.specs.Events.{in_blind}
use Rattle.hb_rules.specs.Observed.{observed}
use Rattle.hb_sight.specs.Seen.{seen_position}

-- the deck has as many cards as the variant
abbrev pub HasCards : Setup → Type 0
HasCards g = length g.deck.items ≡ length (cards g.variant)

-- the setup as a blind set has seen it when these acts were made: at each order the card that its
-- observation shows, and no card at the other orders
abbrev pub seen_setup : ℕ → Setup → List Act → Setup
seen_setup blind g past = (seen_position (observed blind (record { setup = g; past = past }))).setup

-- whether a blind set can tell of a seat's action which rule it breaks: of a clue, if it is to the
-- giver itself or its receiver's cards are seen; of the other actions always
abbrev pub can_tell : ℕ → ℕ → Action → Bool
can_tell blind who (action.Clue to clue) = to == who || not (in_blind blind to)
can_tell blind who (action.Play order) = true
can_tell blind who (action.Discard order) = true
can_tell blind who (action.End how) = true
