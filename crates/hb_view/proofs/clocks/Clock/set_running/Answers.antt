use Rattle.std.proofs.Common.{subst, ℕ}
use Rattle.hb_view.specs.StreamClocks.{HasPassed}
use Rattle.hb_view.proofs.ClockLemmas.{clock-call, clock-seat}
use Rattle.hb_view.proofs.clocks.Clock.set_running.Goals as goal

pub returns : goal.returns
returns c = λ of calls call at same runs is. clock-call of call calls c.args.self c.passed-next.result c.args.running is
    (subst (λ (m : ℕ). HasPassed c.args.self c.passed-next.result m) at (c.passed-next.ensures
    (clock-seat of calls c.args.self is))) same runs
