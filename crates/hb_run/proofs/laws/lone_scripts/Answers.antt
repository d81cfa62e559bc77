use Rattle.hb_run.proofs.LoneScriptLemmas.{lone-ends, lone-fronts, lone-runs}
use Rattle.hb_run.proofs.laws.lone_scripts.Goals as goal

pub returns-clause-runs : goal.returns-clause-runs
returns-clause-runs c = lone-runs

pub returns-clause-ends : goal.returns-clause-ends
returns-clause-ends c = lone-ends

pub returns-clause-fronts : goal.returns-clause-fronts
returns-clause-fronts c = lone-fronts
