use Rattle.hb_run.proofs.RunsLemmas.{runs-join}
use Rattle.hb_run.proofs.laws.runs_join.Goals as goal

pub returns : goal.returns
returns c = runs-join
