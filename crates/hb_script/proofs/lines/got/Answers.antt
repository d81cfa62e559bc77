use Rattle.std.proofs.Common.{sym, ◌∙◌}
use Rattle.hb_script.proofs.LineWords.{got-bad, got-text}
use Rattle.hb_script.proofs.lines.got.Goals as goal

pub returns-in-Ok-copy_of : goal.returns-in-Ok-copy_of
returns-in-Ok-copy_of c = let b = rw c.as_slice.ensures at c.if-eq.ensures in
    got-text c.args.message.now c.in-Ok-copy_of.copy c.if-is_empty.ensures (sym b) c.in-Ok.ensures.cases.1 (c.in-Ok-copy_of.ensures
    ∙ c.in-Ok.ensures.cases.0)

pub returns-in-Err : goal.returns-in-Err
returns-in-Err c = let b = rw c.as_slice.ensures at c.if-eq.ensures in got-bad c.args.message.now (sym b) c.in-Err.ensures.cases.0
