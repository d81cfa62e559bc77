use Rattle.std.proofs.Common.{◌≡◌, length}
use Rattle.hb_run.proofs.HeldLemmas.{AreNewDesks}
use Rattle.hb_run.proofs.held.ScriptRun.new.Given as goal

abbrev pub invariant-loop : goal.invariant-loop
invariant-loop l = record { many : length l.desks.items ≡ l.counter; new : AreNewDesks l.desks.items }
