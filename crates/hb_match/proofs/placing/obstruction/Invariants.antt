use Rattle.hb_match.specs.Placing.{Gathers}
use Rattle.hb_match.proofs.placing.obstruction.Given as goal

abbrev pub invariant-loop-card : goal.invariant-loop-card
invariant-loop-card l = Gathers l.masks l.chosen l.closed l.card l.cards l.ids
