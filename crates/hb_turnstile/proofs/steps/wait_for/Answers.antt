use Rattle.std.proofs.Common.{rules}
use Rattle.hb_turnstile.proofs.LooksLemmas.{look-allowed}
use Rattle.hb_turnstile.proofs.steps.wait_for.Goals as goal

pub load-served-requires : goal.load-served-requires
load-served-requires g c = (search rules, search rules, look-allowed _ _ _ _ c.args.ticket _ _ c.requires.start (search rules))
