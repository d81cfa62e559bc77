-- What does the clock of a stream show of the calls that the items of a table stand for?
use Rattle.std.specs.Prelude.{◌≡◌, ◌-◌, ◌<◌, ◌≤◌, ℕ, Bool, true, false, ◌&&◌, ◌==◌, List, [], ◌∷◌, Option, Some, None, if◌then◌else◌, map, max, slice_index}
use Rattle.std.specs.List.{range_with_len}
use Rattle.hb_timer.specs.declared.timing.TheConstants.{MOST_SEATS}
use Rattle.hb_timer.specs.declared.timing.Timing.{Timing}
use Rattle.hb_timer.specs.declared.timing.TimerCall.{TimerCall}
use Rattle.hb_timer.specs.Banks.{bank, effective, is_running, turn_seat}
use Rattle.hb_wire.specs.declared.lines.WireLine.TheVariants as wire
use Rattle.hb_wire.specs.WireLine.{line_text}
use Rattle.hb_view.specs.declared.clocks.Clock.{Clock}

-- the clock shows what the calls came to
pub record IsClock (of : Timing) (calls : List TimerCall) (c : Clock) : Type 0 where
  pub some : 0 < of.seats
  pub few : of.seats ≤ MOST_SEATS
  pub timing : c.timing ≡ of
  pub last : c.last ≡ effective of calls
  pub seat : c.seat ≡ turn_seat of calls
  pub running : c.running ≡ is_running calls
  pub banks : (seat : ℕ) → seat < MOST_SEATS
      → slice_index c.banks seat ≡ bank of calls seat (effective of calls)

-- the bank of a seat at a moment, by the clock
abbrev pub bank_at : Clock → ℕ → ℕ → ℕ
bank_at c seat moment = let bank = slice_index c.banks seat in
    if c.running && c.seat == seat then bank - (moment - c.last) else bank

-- time has passed up to a moment, and nothing else has changed
pub record HasPassed (old new : Clock) (moment : ℕ) : Type 0 where
  pub timing : new.timing ≡ old.timing
  pub banks : (seat : ℕ) → seat < MOST_SEATS
      → slice_index new.banks seat ≡ bank_at old seat moment
  pub last : new.last ≡ max moment old.last
  pub seat : new.seat ≡ old.seat
  pub running : new.running ≡ old.running

-- a clock that shows what the calls came to shows it after this call too
abbrev pub ClockMoves : TimerCall → Option Clock → Option Clock → Type 0
ClockMoves call None new = new ≡ None
ClockMoves call (Some old) None = ⊥
ClockMoves call (Some old) (Some new) =
    (of : Timing) (calls : List TimerCall) → IsClock of calls old → IsClock of (call ∷ calls) new

-- the text of a clock: the banks of so many seats at a moment, and the seat whose time runs
abbrev pub clock_text : Clock → ℕ → ℕ → List ℕ
clock_text c seats moment =
    let banks = map (λ seat. bank_at c seat moment) (range_with_len 0 seats) in
    line_text (wire.Clock (record { items = banks }) moment
    (if c.running then Some c.seat else None))

-- the same, if there is a clock
abbrev pub clock_texts : Option Clock → ℕ → ℕ → List (List ℕ)
clock_texts None seats moment = []
clock_texts (Some c) seats moment = clock_text c seats moment ∷ []

-- the clock, if the table is timed
abbrev pub clock_if : Bool → Option Clock → Option Clock
clock_if true clock = clock
clock_if false clock = None
