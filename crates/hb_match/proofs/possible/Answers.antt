use Rattle.hb_match.proofs.SetsLemmas.{possible_none}
use Rattle.hb_match.proofs.possible.Goals as goal

pub returns-clause-none : goal.returns-clause-none
returns-clause-none c = λ none. rw c.deref.ensures.0
    (possible_none c.args.masks.now c.args.left.now c.args.card _ (c.possible_all.ensures.sets c.args.card c.requires.in_range) none)
