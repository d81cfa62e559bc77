use Rattle.hb_house.proofs.PendingStaysLemmas.{due-are-loaded}
use Rattle.hb_house.proofs.SavedRoundsLemmas.{alone-saves, due-are-saved}
use Rattle.hb_house.proofs.laws.due_are_saved.Goals as goal

pub returns-clause-saved : goal.returns-clause-saved
returns-clause-saved c = due-are-saved

pub returns-clause-alone : goal.returns-clause-alone
returns-clause-alone c = alone-saves

pub returns-clause-loaded : goal.returns-clause-loaded
returns-clause-loaded c = due-are-loaded
