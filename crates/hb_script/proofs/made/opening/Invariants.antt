use Rattle.hb_script.specs.MadeScripts.{seated}
use Rattle.hb_script.specs.MadeTables.{HasAsked}
use Rattle.hb_script.proofs.made.opening.Given as goal

abbrev pub invariant-loop-member : goal.invariant-loop-member
invariant-loop-member l = HasAsked l.lines l.table (seated l.member)
