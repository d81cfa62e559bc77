use Rattle.std.proofs.Common.{rules}
use Rattle.hb_turnstile.proofs.SplitsAndJoins.{take_number-allowed}
use Rattle.hb_turnstile.proofs.steps.take_number.Goals as goal

pub load-requires : goal.load-requires
load-requires g c = (search rules, search rules, take_number-allowed _ _ _ _ _ c.requires.new)
