use Rattle.std.proofs.Common.{refl}
use Rattle.hb_timer.specs.declared.timing.TimerCall.TheVariants.{Pauses, Resumes, Stops}
use Rattle.hb_view.proofs.clocks.Clock.after.Goals as goal

pub returns-in-Pauses : goal.returns-in-Pauses
returns-in-Pauses c = rw c.in-Pauses.is
    (λ of calls is. c.set_running.ensures of calls (Pauses c.in-Pauses.moment) refl refl refl is)

pub returns-in-Resumes : goal.returns-in-Resumes
returns-in-Resumes c = rw c.in-Resumes.is
    (λ of calls is. c.set_running-in-Resumes.ensures of calls (Resumes c.in-Resumes.moment) refl refl refl is)

pub returns-in-Stops : goal.returns-in-Stops
returns-in-Stops c = rw c.in-Stops.is
    (λ of calls is. c.set_running-in-Stops.ensures of calls (Stops c.in-Stops.moment) refl refl refl is)
