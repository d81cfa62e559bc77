use Rattle.std.proofs.Common.{arith, map}
use Rattle.std.proofs.lemmas.Grind.{common_steps}
use Rattle.hb_rules.specs.declared.limits.TheConstants.{IDENTITIES}
use Rattle.hb_rules.specs.Cards.{identity}
use Rattle.hb_sets.specs.Sets.{members}
use Rattle.hb_wire.proofs.PlainLemmas.{plain_identities}
use Rattle.hb_wire.proofs.spelling.push_set.Goals as goal

pub returns : goal.returns
returns c = rw (plain_identities (map identity (members IDENTITIES c.args.set))) (grind (arith, common_steps))
