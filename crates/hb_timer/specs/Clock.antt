-- What does a clock show, and how does time pass on it?
use Rattle.std.specs.Prelude.{◌≡◌, ℕ, ◌-◌, ◌<◌, ◌==◌, ◌&&◌, max, Bool, true, false, if◌then◌else◌, slice_index}
use Rattle.hb_timer.specs.declared.timing.TheConstants.{MOST_SEATS}
use Rattle.hb_timer.specs.declared.clock.Clock.{Clock}
use Rattle.hb_timer.specs.declared.clock.Phase.{Phase}
use Rattle.hb_timer.specs.declared.clock.Phase.TheVariants.{Running, Paused, Stopped}

-- time runs
abbrev pub runs : Phase → Bool
runs Running = true
runs Paused = false
runs Stopped = false

-- the bank of a seat at a moment: that of the present turn runs down from the clock's last moment
-- on
abbrev pub bank_at : Clock → ℕ → ℕ → ℕ
bank_at clock seat moment =
    let bank = slice_index clock.banks seat in
    if runs clock.phase && clock.seat == seat then bank - (moment - clock.last) else bank

-- time has passed up to a moment, and nothing else has changed
pub record Passes (old new : Clock) (moment : ℕ) : Type 0 where
  pub banks : (seat : ℕ) → seat < MOST_SEATS → slice_index new.banks seat ≡ bank_at old seat moment
  pub last : new.last ≡ max moment old.last
  pub seat : new.seat ≡ old.seat
  pub phase : new.phase ≡ old.phase
