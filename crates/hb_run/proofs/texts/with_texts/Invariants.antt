use Rattle.std.proofs.Common.{◌≡◌, ◌+◌, min, take}
use Rattle.hb_run.specs.HeldRuns.{MOST_BYTES}
use Rattle.hb_run.specs.RunLines.{text_bytes}
use Rattle.hb_run.proofs.texts.with_texts.Given as goal

abbrev pub invariant-loop-text : goal.invariant-loop-text
invariant-loop-text l = record { counts : l.counted ≡ min (l.bytes + text_bytes (take l.text-index l.texts)) MOST_BYTES }
