-- Do the functions of Deals and Result say what a reader takes them for? The test of a deal and the
-- list of possible identities say what IsDeal and IsPossible say, and a height counts fitting
-- plays.
use Rattle.std.specs.Prelude.{◌≡◌, ℕ, ◌<◌, ◌↔◌, Bool, false, ◌&&◌, ◌==◌, List, [], ◌∷◌, Contains, IsTrue, count_by}
use Rattle.std.specs.List.Sorted.{IsStrictlyIncreasing}
use Rattle.hb_rules.specs.declared.acts.Act.{Act}
use Rattle.hb_rules.specs.declared.acts.Action.{Action}
use Rattle.hb_rules.specs.declared.acts.Action.TheVariants as action
use Rattle.hb_rules.specs.declared.setups.Setup.{Setup}
use Rattle.hb_rules.specs.declared.limits.TheConstants.{IDENTITIES}
use Rattle.hb_rules.specs.declared.suits.Identity.{Identity}
use Rattle.hb_rules.specs.Cards.{identity}
use Rattle.hb_rules.specs.Deals.{IsDeal, IsPossible, is_deal, possible}
use Rattle.hb_rules.specs.Observed.{Observed}
use Rattle.hb_rules.specs.Result.{fits, height}
use Rattle.hb_rules.specs.Setup.{card}

-- the test passes the consistent deals, and no other list
abbrev pub DealsAreTested : Type 0
DealsAreTested = (seen : Observed) (deck : List Identity)
    → IsTrue (is_deal seen deck) ↔ IsDeal seen deck

-- the numbers are those of the identities that are possible for the order, ascending
pub record ArePossible (seen : Observed) (order : ℕ) (numbers : List ℕ) : Type 0 where
  pub ascending : IsStrictlyIncreasing numbers
  pub exact : (number : ℕ)
      → Contains numbers number ↔ ((number < IDENTITIES) × IsPossible seen order (identity number))

-- they are what the function lists
abbrev pub PossibleAreListed : Type 0
PossibleAreListed = (seen : Observed) (order : ℕ) → ArePossible seen order (possible seen order)

-- the history after each of its acts, the whole first
abbrev pub histories : List Act → List (List Act)
histories [] = []
histories (act ∷ past) = (act ∷ past) ∷ histories past

-- an action plays a card of the suit that fits after the acts before it
abbrev pub plays_next : Setup → ℕ → Action → List Act → Bool
plays_next g suit (action.Play order) before = (card g order).suit == suit && fits g before order
plays_next g suit (action.Discard order) before = false
plays_next g suit (action.Clue to clue) before = false
plays_next g suit (action.End how) before = false

-- the latest act of a history is a fitting play of the suit
abbrev pub is_fitting_play : Setup → ℕ → List Act → Bool
is_fitting_play g suit [] = false
is_fitting_play g suit (act ∷ before) = plays_next g suit act.action before

-- the height of a suit is the number of its fitting plays
abbrev pub HeightsCountPlays : Type 0
HeightsCountPlays = (g : Setup) (past : List Act) (suit : ℕ)
    → height g past suit ≡ count_by (is_fitting_play g suit) (histories past)
