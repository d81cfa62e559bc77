use Rattle.std.proofs.Common.{◌≡◌, ◌≤◌, drop}
use Rattle.hb_script.specs.ScriptLines.{digits}
use Rattle.hb_script.proofs.fields.digits.Given as goal

abbrev pub invariant-loop-byte : goal.invariant-loop-byte
invariant-loop-byte l = (l.value ≤ l.most) × (digits 0 l.bytes ≡ digits l.value (drop l.byte-index l.bytes))
