-- Which set of identities is exact for a card? A set holds identity numbers, as the bits of one
-- number. All rests on the consistent deals: full decks that, played from the deal on by the acts
-- that were observed, give the same observation.
use Rattle.std.specs.Prelude.{◌≡◌, ℕ, ◌<◌, ◌≤◌, ◌↔◌, List, map, All}
use Rattle.hb_rules.specs.declared.limits.TheConstants.{IDENTITIES}
use Rattle.hb_rules.specs.Cards.{identity}
use Rattle.hb_rules.specs.Deals.{IsPossible, possible}
use Rattle.hb_rules.specs.Observed.{Observed}
use Rattle.hb_sets.specs.Sets.{Has, members}

-- the set has the number of each identity that is possible for the order, and nothing else, and so
-- is the list of them
pub record IsExact (seen : Observed) (order set : ℕ) : Type 0 where
  pub each : (number : ℕ) → number < IDENTITIES
      → (Has set number ↔ IsPossible seen order (identity number))
  pub rest : (number : ℕ) → IDENTITIES ≤ number → ¬ Has set number
  pub listed : members IDENTITIES set ≡ possible seen order

-- the entries are the orders of a hand, in its order, each with its exact set
pub record AreHandSets (seen : Observed) (held : List ℕ) (cards : List (ℕ × ℕ)) : Type 0 where
  pub orders : map (λ card. card.0) cards ≡ held
  pub exact : All (λ card. IsExact seen card.0 card.1) cards

-- the set has the number, and nothing else
abbrev pub IsOnly : ℕ → ℕ → Type 0
IsOnly set number = (k : ℕ) → Has set k ↔ (k ≡ number)
