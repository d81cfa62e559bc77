use Rattle.std.proofs.Common.{arith}
use Rattle.std.proofs.lemmas.Grind.{common_steps}
use Rattle.hb_wire.proofs.PlainLemmas.{plain_identity}
use Rattle.hb_wire.proofs.spelling.push_known.Goals as goal

pub returns : goal.returns
returns c = rw (plain_identity c.args.id) (grind (arith, common_steps))
