-- What are the consistent deals of what a blind set has observed? While the game runs, the choices
-- of identities for the hidden cards that the clues and the copies allow; after the end, one deck.
use Rattle.std.specs.Prelude.{◌≡◌, ℕ, ◌↔◌, true, List, IsNone, IsSome}
use Rattle.hb_rules.specs.declared.suits.Identity.{Identity}
use Rattle.hb_rules.specs.Deals.{IsDeal}
use Rattle.hb_rules.specs.Marks.{IsChoice, is_hidden}
use Rattle.hb_rules.specs.Observed.{observed, setup_with}
use Rattle.hb_rules.specs.Positions.{ended}
use Rattle.hb_rules.specs.Setup.{Position, card}
use Rattle.hb_turns.specs.GameInvariant.{IsPlayed}

-- some consistent deal has the chosen identity at each hidden order
pub record IsDealt (blind : ℕ) (p : Position) (choice : ℕ → Identity) : Type 0 where
  pub deck : List Identity
  pub deal : IsDeal (observed blind p) deck
  pub chosen : (order : ℕ) → is_hidden blind p.setup p.past order ≡ true
      → card (setup_with (observed blind p) deck) order ≡ choice order

-- while a game runs: what consistent deals have at the hidden orders are the choices that meet the
-- clues and use no identity beyond its copies
abbrev pub DealsAreChoices : Type 0
DealsAreChoices = (blind : ℕ) (p : Position) → IsPlayed p → IsNone (ended p)
    → (choice : ℕ → Identity) → (IsDealt blind p choice ↔ IsChoice blind p.setup p.past choice)

-- after its end: the game's own deck is the only consistent deal
abbrev pub IsOneDeal : Type 0
IsOneDeal = (blind : ℕ) (p : Position) → IsPlayed p → IsSome (ended p)
    → (deck : List Identity) → (IsDeal (observed blind p) deck ↔ (deck ≡ p.setup.deck.items))
