use Rattle.std.proofs.Common.{arith, rules, length, ◌+◌}
use Rattle.std.proofs.lemmas.Grind.{common_steps}
use Rattle.std.proofs.lemmas.Nat.{pow_pos}
use Rattle.hb_match.proofs.Gather.{gathered_none, gathered_kept, gathered_more}
use Rattle.hb_match.proofs.placing.obstruction.Goals as goal
use Rattle.hb_match.proofs.placing.obstruction.Goals.{then-not-has, else-not-has}

pub loop-card-init : goal.loop-card-init
loop-card-init c = gathered_none c.args.masks.now c.args.chosen.now c.args.closed c.with-cards.result
    c.with-cards.ensures.put c.with-cards.ensures.rest
    (c.with-cards.ensures.narrow _ (omega arith) (pow_pos (length c.args.chosen.now + 1)))

pub loop-card-preserved : goal.loop-card-preserved
loop-card-preserved c = elim c.if-not-has.branch [
  | then-not-has w ↦ rw (w.cards-is, w.ids-is) (gathered_more c.args.masks.now c.args.chosen.now c.args.closed c.loop-card.card
      c.loop-card.cards c.loop-card.ids w.with-cards-then-not-has.result w.union-ids.result
      c.loop-card.invariant (omega arith) (λ p. search (rules, w.if-not-has.ensures, p))
      w.with-cards-then-not-has.ensures.put w.with-cards-then-not-has.ensures.rest
      (w.with-cards-then-not-has.ensures.narrow _ (omega arith) c.loop-card.invariant.narrow) w.union-ids.ensures)
  | else-not-has w ↦ grind (arith, common_steps, gathered_kept)
]
