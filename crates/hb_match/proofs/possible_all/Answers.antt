use Rattle.std.proofs.Common.{slice_index}
use Rattle.hb_match.proofs.SetsLemmas.{all_none, possible_same}
use Rattle.hb_match.proofs.possible_all.Goals as goal

pub returns-clause-same : goal.returns-clause-same
returns-clause-same c = λ card h set. possible_same c.args.masks.now c.args.left.now card (slice_index c.sets_by.result.items card) set
    (c.sets_by.ensures.sets card h)

pub returns-clause-none : goal.returns-clause-none
returns-clause-none c = all_none c.args.masks.now c.args.left.now c.sets_by.result.items c.sets_by.ensures.len c.sets_by.ensures.sets
