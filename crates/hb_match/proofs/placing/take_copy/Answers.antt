use Rattle.hb_match.proofs.CopiesLeft.{copy_taken}
use Rattle.hb_match.proofs.placing.take_copy.Goals as goal

pub returns-then-over-id-gt0-clause-taken : goal.returns-then-over-id-gt0-clause-taken
returns-then-over-id-gt0-clause-taken c = copy_taken c.args.over.now c.args.id c.requires.some

pub returns-clause-taken : goal.returns-clause-taken
returns-clause-taken c = copy_taken c.args.over.now c.args.id c.requires.some
