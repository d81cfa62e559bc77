use Rattle.std.proofs.Common.{◌≡◌, string_bytes, take}
use Rattle.hb_talk.specs.Scripts.{sent}
use Rattle.hb_run.proofs.texts.sent_lines.Given as goal

abbrev pub invariant-loop-text : goal.invariant-loop-text
invariant-loop-text l = string_bytes l.lines ≡ sent l.conn (take l.text-index l.texts)
