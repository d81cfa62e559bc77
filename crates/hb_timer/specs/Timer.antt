-- What do contracts see of a timer, and what does it keep between calls?
use Rattle.std.specs.Prelude.{◌≡◌, ℕ, ◌<◌, ◌≤◌, if◌then◌else◌, slice_index, List}
use Rattle.hb_timer.specs.declared.timing.TheConstants.{BANK_LIMIT, MOMENT_LIMIT, MOST_SEATS}
use Rattle.hb_timer.specs.declared.timing.TimerCall.{TimerCall}
use Rattle.hb_timer.specs.declared.timing.Timing.{Timing}
use Rattle.hb_timer.specs.declared.clock.Clock.{Clock}
use Rattle.hb_timer.specs.declared.clock.Phase.{Phase}
use Rattle.hb_timer.specs.declared.clock.Phase.TheVariants.{Running, Paused, Stopped}
use Rattle.hb_timer.specs.Banks.{bank, effective, is_running, is_stopped, turn_seat}

-- what a timer was made with, and the calls that it accepted since, the newest first
pub record History : Type 0 where
  pub timing : Timing
  pub calls : List TimerCall

-- the phase after these calls
abbrev pub phase_of : List TimerCall → Phase
phase_of calls =
    if is_running calls then Running else (if is_stopped calls then Stopped else Paused)

-- the numbers are in range, and the clock shows what the calls came to
pub record IsKept (timing : Timing) (calls : List TimerCall) (clock : Clock) : Type 0 where
  pub two_seats : 2 ≤ timing.seats
  pub most_seats : timing.seats ≤ MOST_SEATS
  pub first : timing.first < timing.seats
  pub base : timing.base ≤ BANK_LIMIT
  pub gain : timing.per_turn ≤ BANK_LIMIT
  pub in_range : clock.last ≤ MOMENT_LIMIT
  pub last : clock.last ≡ effective timing calls
  pub seat : clock.seat ≡ turn_seat timing calls
  pub phase : clock.phase ≡ phase_of calls
  pub banks : (seat : ℕ) → seat < timing.seats
      → slice_index clock.banks seat ≡ bank timing calls seat (effective timing calls)
