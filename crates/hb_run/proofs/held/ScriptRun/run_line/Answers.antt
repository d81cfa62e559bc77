use Rattle.hb_run.proofs.TurnLinesLemmas.{all-said, all-stopped}
use Rattle.hb_run.proofs.held.ScriptRun.run_line.Goals as goal

pub returns-in-Says-clause-ok : goal.returns-in-Says-clause-ok
returns-in-Says-clause-ok g c = rw c.in-Says.is (all-said c.say.result _ _ _ _ _ _ _ _ _ _ _ _ _ _ c.say.ensures.ok)

pub returns-in-Says-clause-err : goal.returns-in-Says-clause-err
returns-in-Says-clause-err g c = rw c.in-Says.is (all-stopped c.say.result _ _ _ _ _ _ _ _ _ _ _ _ _ _ c.say.ensures.err)
