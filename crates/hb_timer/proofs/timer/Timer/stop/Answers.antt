-- A bank that runs covers the time that passes, and the clock shows what the calls came to with the stop.
use Rattle.std.proofs.Common.{refl}
use Rattle.hb_timer.specs.declared.timing.TimerCall.TheVariants.{Stops}
use Rattle.hb_timer.proofs.Kept.{kept-call, time_fits}
use Rattle.hb_timer.proofs.timer.Timer.stop.Goals as goal

pub pass_to-requires-clause-in_time : goal.pass_to-requires-clause-in_time
pass_to-requires-clause-in_time c =
    time_fits c.self.inside.timing c.self.inside.calls c.self.inside.clock c.args.moment c.self.invariant
    (rw (← c.self.view_is) at c.requires.on_time)

pub invariant_of-self : goal.invariant_of-self
invariant_of-self c =
    rw c.add.ensures
    (kept-call c.self.inside.timing (Stops c.args.moment) c.self.inside.calls c.self.inside.clock
    c.pass_to.new.self _ c.self.invariant c.pass_to.ensures c.requires.in_range refl refl)
