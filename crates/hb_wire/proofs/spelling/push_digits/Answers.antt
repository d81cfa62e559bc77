use Rattle.std.proofs.Common.{arith}
use Rattle.std.proofs.lemmas.Grind.{common_steps}
use Rattle.itoa.proofs.Decimal.{decimal_two}
use Rattle.hb_wire.proofs.spelling.push_digits.Goals as goal

pub returns-then-n-lt100 : goal.returns-then-n-lt100
returns-then-n-lt100 c = rw (decimal_two c.args.n (omega arith) (omega arith)) (grind (arith, common_steps))
