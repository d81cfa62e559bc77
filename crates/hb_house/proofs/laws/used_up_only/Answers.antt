use Rattle.hb_house.proofs.RefusedPutLemmas.{put-used_up}
use Rattle.hb_house.proofs.laws.used_up_only.Goals as goal

pub returns : goal.returns
returns c = put-used_up
