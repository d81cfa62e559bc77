use Rattle.std.proofs.Common.{◌≡◌, All, map}
use Rattle.std.specs.List.{range_with_len}
use Rattle.hb_talk.specs.Scripts.{HasConnection}
use Rattle.hb_script.specs.MadeScripts.{hello_line}
use Rattle.hb_script.proofs.made.hello_lines.Given as goal

abbrev pub invariant-loop-member : goal.invariant-loop-member
invariant-loop-member l = record {
  is : l.lines ≡ map hello_line (range_with_len 0 l.member);
  conns : All HasConnection l.lines;
}
