-- The clock shows what the calls came to with the resumption.
use Rattle.std.proofs.Common.{refl}
use Rattle.hb_timer.specs.declared.timing.TimerCall.TheVariants.{Resumes}
use Rattle.hb_timer.proofs.Kept.{kept-call}
use Rattle.hb_timer.proofs.timer.Timer.resume.Goals as goal

pub invariant_of-self : goal.invariant_of-self
invariant_of-self c =
    rw c.add.ensures
    (kept-call c.self.inside.timing (Resumes c.args.moment) c.self.inside.calls c.self.inside.clock
    c.pass_to.new.self _ c.self.invariant c.pass_to.ensures c.requires.in_range refl refl)
