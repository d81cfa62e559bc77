use Rattle.hb_house.proofs.RefusedPutLemmas.{put-differs}
use Rattle.hb_house.proofs.laws.differs_only.Goals as goal

pub returns : goal.returns
returns c = put-differs
