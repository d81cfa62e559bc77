use Rattle.std.proofs.Common.{◌≡◌, ◌∙◌, ap, arith}
use Rattle.hb_deck.proofs.Ordered.{cards_below, cards_below-more, cards_below-all}
use Rattle.hb_deck.proofs.cards.all_cards.Goals as goal

pub loop-suit-preserved : goal.loop-suit-preserved
loop-suit-preserved c = rw (c.in_ok-push_suit.ensures, c.loop-suit.invariant) (cards_below-more c.args.variant.now c.loop-suit.suit)

pub returns : goal.returns
returns c =
    let all : c.loop-suit.suit ≡ 6 = omega arith in
    c.loop-suit.invariant ∙ (ap (cards_below c.args.variant.now) all ∙ cards_below-all c.args.variant.now)
