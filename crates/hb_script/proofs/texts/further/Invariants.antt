use Rattle.std.proofs.Common.{◌≡◌, ◌≤◌, ◌+◌, ◌-◌, All, drop, length}
use Rattle.hb_talk.specs.Scripts.{HasConnection}
use Rattle.hb_script.specs.ScriptGrammar.{read_lines}
use Rattle.hb_script.specs.ScriptLines.{lines_of}
use Rattle.hb_script.specs.ScriptReading.{lines_behind}
use Rattle.hb_script.proofs.texts.further.Given as goal

abbrev pub invariant-loop-at : goal.invariant-loop-at
invariant-loop-at l = record {
  within : l.at ≤ length l.bytes + 1;
  number : l.number ≤ l.first + l.at;
  conns : All HasConnection l.lines;
  so : read_lines l.first (lines_of l.bytes) ≡ lines_behind l.lines (read_lines l.number (lines_of (drop l.at l.bytes)));
}

abbrev pub decreases-loop-at : goal.decreases-loop-at
decreases-loop-at l = length l.bytes + 1 - l.at
