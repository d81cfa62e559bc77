-- Which full decks allow what was observed, and so which identities are possible for a card? The
-- definitions range over whole decks played from the deal on, and no argument holds a hidden card.
use Rattle.std.specs.Prelude.{◌≡◌, ℕ, zero, suc, Bool, ◌&&◌, List, [], ◌∷◌, filter, flat_map, length, map}
use Rattle.std.specs.List.{list_any, range_with_len}
use Rattle.hb_rules.specs.declared.suits.Identity.{Identity}
use Rattle.hb_rules.specs.declared.setups.Setup.{Setup}
use Rattle.hb_rules.specs.declared.limits.TheConstants.{IDENTITIES}
use Rattle.hb_rules.specs.Cards.{IsDeck, cards, identity, is_deck, same_identity}
use Rattle.hb_rules.specs.Setup.{card}
use Rattle.hb_rules.specs.Legality.{Legal, is_legal}
use Rattle.hb_rules.specs.Events.{observation, acts_of}
use Rattle.hb_rules.specs.Observed.{Observed, setup_with}
use Rattle.hb_rules.specs.Same.{same_events}

-- a consistent deal: a full deck under which the observation's acts are legal and give the
-- observation
pub record IsDeal (seen : Observed) (deck : List Identity) : Type 0 where
  pub full : IsDeck seen.variant deck
  pub legal : Legal (setup_with seen deck) (acts_of seen.events)
  pub same : observation seen.blind (setup_with seen deck) (acts_of seen.events) ≡ seen.events

-- the identity is possible for the order: the order has it in some consistent deal
pub record IsPossible (seen : Observed) (order : ℕ) (id : Identity) : Type 0 where
  pub deck : List Identity
  pub deal : IsDeal seen deck
  pub is : card (setup_with seen deck) order ≡ id

-- The same as functions, by trial of every list of cards; no program computes them. So a text that
-- shows what is possible is a function too.

-- a consistent deal, as a test
unfoldable pub is_deal : Observed → List Identity → Bool
is_deal seen deck = let g : Setup = setup_with seen deck in
    is_deck seen.variant deck && is_legal g (acts_of seen.events)
    && same_events (observation seen.blind g (acts_of seen.events)) seen.events

-- all lists of this many cards, each of them one of the choices
abbrev pub lists_of : ℕ → List Identity → List (List Identity)
lists_of zero choices = [] ∷ []
lists_of (suc count) choices =
    flat_map (λ rest. map (λ id. id ∷ rest) choices) (lists_of count choices)

-- the order has the identity in some consistent deal, as a test over all lists of as many cards as
-- the variant has
unfoldable pub is_possible : Observed → ℕ → Identity → Bool
is_possible seen order id =
    list_any (λ deck. is_deal seen deck && same_identity (card (setup_with seen deck) order) id)
    (lists_of (length (cards seen.variant)) (cards seen.variant))

-- the numbers of the identities that are possible for the order, ascending
unfoldable pub possible : Observed → ℕ → List ℕ
possible seen order =
    filter (λ k. is_possible seen order (identity k)) (range_with_len 0 IDENTITIES)
