use Rattle.std.proofs.Common.{rules}
use Rattle.hb_turnstile.proofs.SplitsAndJoins.{see_joined-allowed}
use Rattle.hb_turnstile.proofs.steps.see_joined.Goals as goal

pub load-requires : goal.load-requires
load-requires g c = (search rules, search rules, see_joined-allowed _ _ _ _ _ _ c.requires.start c.requires.idle)
