use Rattle.std.proofs.Common.{arith}
use Rattle.hb_match.proofs.Reach.{given_holds}
use Rattle.hb_match.proofs.SetsLemmas.{exact_more}
use Rattle.hb_match.proofs.sets_from.Goals as goal

pub possible_from-requires-clause-held : goal.possible_from-requires-clause-held
possible_from-requires-clause-held c =
    given_holds c.args.masks.now c.args.left.now c.args.chosen.now c.requires.given (omega arith)

pub loop-card-preserved : goal.loop-card-preserved
loop-card-preserved c = record {
  so_far = omega (arith, c.push.ensures.len, c.loop-card.invariant.so_far);
  exact = rw c.push.ensures.items (exact_more c.args.masks.now c.args.left.now c.loop-card.sets.items c.loop-card.card
      c.possible_from.result c.loop-card.invariant.so_far c.loop-card.invariant.exact
      (c.possible_from.ensures c.args.left.now c.requires.given (c.open_ids-freed.ensures.gives c.loop-card.card (omega arith))));
}
