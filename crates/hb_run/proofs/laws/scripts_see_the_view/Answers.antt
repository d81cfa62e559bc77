use Rattle.hb_run.proofs.AlikeScriptLemmas.{alike-scripts}
use Rattle.hb_run.proofs.laws.scripts_see_the_view.Goals as goal

pub returns : goal.returns
returns c = alike-scripts
