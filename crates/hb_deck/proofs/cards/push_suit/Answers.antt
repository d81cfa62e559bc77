use Rattle.std.proofs.Common.{◌≡◌, ◌+◌, ◌-◌, ◌++◌, ap, arith, ◌∙◌, append_assoc}
use Rattle.hb_deck.proofs.Ordered.{cards_to, cards_to-more}
use Rattle.hb_deck.proofs.cards.push_suit.Goals as goal

pub loop-rank-preserved : goal.loop-rank-preserved
loop-rank-preserved c =
    let same : c.loop-rank.rank + 1 - 1 ≡ c.loop-rank.rank = omega arith in
    rw (c.in_ok-push_copies.ensures, c.loop-rank.invariant, append_assoc, same)
    (ap (λ xs. c.args.list.now.items ++ xs)
    (cards_to-more c.args.variant.now c.args.suit c.loop-rank.rank c.requires (omega arith) (omega arith)))

pub returns : goal.returns
returns c =
    let all : c.loop-rank.rank - 1 ≡ 5 = omega arith in
    c.loop-rank.invariant ∙ ap (λ rank. c.args.list.now.items ++ cards_to c.args.variant.now c.args.suit rank) all
