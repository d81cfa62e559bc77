use Rattle.std.proofs.Common.{arith}
use Rattle.hb_script.specs.MadeScripts.{seated}
use Rattle.hb_script.proofs.MadePlay.{number-low, seated-length}
use Rattle.hb_script.proofs.made.opening.Goals as goal

pub ask-requires-2-clause-few : goal.ask-requires-2-clause-few
ask-requires-2-clause-few c =
    let s = seated-length c.loop-member.member in
    number-low c.loop-member.lines c.args.table 0 (seated c.loop-member.member) c.loop-member.invariant (omega (arith, s))
