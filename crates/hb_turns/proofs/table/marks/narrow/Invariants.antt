use Rattle.std.proofs.Common.{take}
use Rattle.hb_turns.specs.TableSteps.{IsNarrowed}
use Rattle.hb_turns.proofs.table.marks.narrow.Given as goal

abbrev pub invariant-loop-order : goal.invariant-loop-order
invariant-loop-order l = IsNarrowed l.setup (take l.order-index l.hand) l.all l.touched l.initial.marks l.marks
