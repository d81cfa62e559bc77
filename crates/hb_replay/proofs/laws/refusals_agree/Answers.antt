use Rattle.hb_replay.proofs.WrittenRows.{refuses-value-of}
use Rattle.hb_replay.proofs.laws.refusals_agree.Goals as goal

pub returns : goal.returns
returns c = refuses-value-of
