use Rattle.hb_run.proofs.OwnRunsLemmas.{runs-never-differ}
use Rattle.hb_run.proofs.laws.runs_never_differ.Goals as goal

pub returns : goal.returns
returns c = runs-never-differ
