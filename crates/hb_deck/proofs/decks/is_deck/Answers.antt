use Rattle.hb_rules.specs.Cards.{identity}
use Rattle.hb_deck.proofs.Counts.{IsDeck-counted}
use Rattle.hb_deck.proofs.decks.is_deck.Goals as goal

pub returns-then-are_in_variant : goal.returns-then-are_in_variant
returns-then-are_in_variant c = (
  λ h. IsDeck-counted c.args.variant.now c.args.deck.now (c.are_in_variant.ensures.0 c.if-are_in_variant.true) (c.are_complete.ensures.0 h),
  λ full. c.are_complete.ensures.1 (λ n low. full (identity n)),
)
