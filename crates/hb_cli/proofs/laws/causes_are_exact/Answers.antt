use Rattle.hb_cli.proofs.CausesLemmas.{no-work-then, one-cause}
use Rattle.hb_cli.proofs.laws.causes_are_exact.Goals as goal

pub returns-clause-one : goal.returns-clause-one
returns-clause-one c = one-cause

pub returns-clause-idle : goal.returns-clause-idle
returns-clause-idle c = no-work-then
