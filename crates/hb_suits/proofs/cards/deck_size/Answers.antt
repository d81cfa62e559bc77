use Rattle.std.proofs.Common.{length, arith}
use Rattle.hb_rules.specs.Cards.{suit_cards}
use Rattle.hb_rules.proofs.RangesLemmas.{sum_by-range_more}
use Rattle.hb_rules.proofs.DeckSize.{cards-many}
use Rattle.hb_suits.proofs.Sizes.{size_of-all}
use Rattle.hb_suits.proofs.cards.deck_size.Goals as goal

pub loop-index-preserved : goal.loop-index-preserved
loop-index-preserved c = record {
  so_far = omega (arith, sum_by-range_more (λ i. length (suit_cards c.args.variant.now i)) c.loop-index.index);
  few = omega arith;
}

pub returns-clause-size : goal.returns-clause-size
returns-clause-size c = omega (arith, size_of-all c.args.variant.now c.loop-index.index (omega arith))

pub returns-clause-many : goal.returns-clause-many
returns-clause-many c = omega (arith, size_of-all c.args.variant.now c.loop-index.index (omega arith), cards-many c.args.variant.now)
