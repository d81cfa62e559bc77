use Rattle.std.proofs.Common.{arith}
use Rattle.std.proofs.lemmas.Grind.{common_steps}
use Rattle.hb_wire.proofs.PlainLemmas.{plain_identities}
use Rattle.hb_wire.proofs.spelling.push_all.Goals as goal

pub returns : goal.returns
returns c = rw (plain_identities c.args.ids.now) (grind (arith, common_steps))
