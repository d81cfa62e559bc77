use Rattle.hb_house.proofs.NotedLemmas.{notes-add}
use Rattle.hb_house.proofs.laws.notes_add.Goals as goal

pub returns : goal.returns
returns c = notes-add
