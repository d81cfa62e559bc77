use Rattle.hb_house.proofs.DueRowsLemmas.{due-alike}
use Rattle.hb_house.proofs.KeptRoundsLemmas.{own-rounds, own-stopped}
use Rattle.hb_house.proofs.NeverDiffersLemmas.{clerk-never-differs}
use Rattle.hb_house.proofs.OwnGamesLemmas.{own-begins, own-on}
use Rattle.hb_house.proofs.RefusedPutLemmas.{due-never-differs}
use Rattle.hb_house.proofs.laws.kept_once.Goals as goal

pub returns-clause-once : goal.returns-clause-once
returns-clause-once c = record { begins = own-begins; goes_on = own-on; rounds = own-rounds; stopped = own-stopped }

pub returns-clause-alike : goal.returns-clause-alike
returns-clause-alike c = due-alike

pub returns-clause-same : goal.returns-clause-same
returns-clause-same c = due-never-differs

pub returns-clause-never : goal.returns-clause-never
returns-clause-never c = clerk-never-differs
