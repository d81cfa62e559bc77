use Rattle.hb_rules.proofs.FittingPlays.{height-counts}
use Rattle.hb_rules.proofs.laws.heights_count_plays.Goals as goal

pub returns : goal.returns
returns c = height-counts
