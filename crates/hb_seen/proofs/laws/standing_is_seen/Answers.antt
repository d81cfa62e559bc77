use Rattle.hb_seen.proofs.StandsAlikeLemmas.{stands-alike}
use Rattle.hb_seen.proofs.EndedLemmas.{seen_setup-ended}
use Rattle.hb_seen.proofs.laws.standing_is_seen.Goals as goal

pub returns-clause-standing : goal.returns-clause-standing
returns-clause-standing c = stands-alike

pub returns-clause-over : goal.returns-clause-over
returns-clause-over c = seen_setup-ended
