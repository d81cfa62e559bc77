-- How much time has a seat left? Banks are defined on what a timer was made with and the calls that
-- it accepted since, of which a list has the newest first. Times and moments are in milliseconds.
-- The rules are this project's own.
use Rattle.std.specs.Prelude.{◌≡◌, ℕ, zero, suc, ◌+◌, ◌-◌, ◌%◌, ◌≤◌, ◌==◌, ◌↔◌, min, max, Bool, true, false, ◌&&◌, if◌then◌else◌, Option, Some, None, List, [], ◌∷◌}
use Rattle.std.specs.Option.{ForSome}
use Rattle.hb_timer.specs.declared.timing.TheConstants.{BANK_LIMIT}
use Rattle.hb_timer.specs.declared.timing.Timing.{Timing}
use Rattle.hb_timer.specs.declared.timing.TimerCall.{TimerCall}
use Rattle.hb_timer.specs.declared.timing.TimerCall.TheVariants.{TurnEnds, Pauses, Resumes, Stops}
use Rattle.hb_timer.specs.declared.timer.TimerState.{TimerState}
use Rattle.hb_timer.specs.declared.timer.TimerState.TheVariants.{Runs, Paused, Stopped}

-- the moment that a call names
abbrev pub call_moment : TimerCall → ℕ
call_moment (TurnEnds moment) = moment
call_moment (Pauses moment) = moment
call_moment (Resumes moment) = moment
call_moment (Stops moment) = moment

-- the effective moment of the newest call: the greatest moment accepted so far
abbrev pub effective : Timing → List TimerCall → ℕ
effective timing [] = timing.start
effective timing (call ∷ calls) = max (call_moment call) (effective timing calls)

-- time runs after these calls
abbrev pub is_running : List TimerCall → Bool
is_running [] = true
is_running (TurnEnds moment ∷ calls) = true
is_running (Pauses moment ∷ calls) = false
is_running (Resumes moment ∷ calls) = true
is_running (Stops moment ∷ calls) = false

-- time stands still for good after these calls
abbrev pub is_stopped : List TimerCall → Bool
is_stopped [] = false
is_stopped (TurnEnds moment ∷ calls) = false
is_stopped (Pauses moment ∷ calls) = false
is_stopped (Resumes moment ∷ calls) = false
is_stopped (Stops moment ∷ calls) = true

-- how many turns have ended, which is the number of the present turn: turns are numbered from 0
abbrev pub turn_number : List TimerCall → ℕ
turn_number [] = 0
turn_number (TurnEnds moment ∷ calls) = turn_number calls + 1
turn_number (Pauses moment ∷ calls) = turn_number calls
turn_number (Resumes moment ∷ calls) = turn_number calls
turn_number (Stops moment ∷ calls) = turn_number calls

-- the seat of a turn: turns go round by seat number
abbrev pub seat_of_turn : Timing → ℕ → ℕ
seat_of_turn timing turn = (timing.first + turn) % timing.seats

-- the seat of the present turn
abbrev pub turn_seat : Timing → List TimerCall → ℕ
turn_seat timing calls = seat_of_turn timing (turn_number calls)

-- the own time of a turn: each call ends an interval, which counts if time ran in that turn
abbrev pub own_time : Timing → ℕ → List TimerCall → ℕ
own_time timing turn [] = 0
own_time timing turn (call ∷ calls) =
    let interval = effective timing (call ∷ calls) - effective timing calls in
    own_time timing turn calls
    + (if is_running calls && turn_number calls == turn then interval else 0)

-- the bank of a seat when so many turns have ended: the end of an own turn takes its own time off
-- and adds the gain
abbrev pub bank_after : Timing → List TimerCall → ℕ → ℕ → ℕ
bank_after timing calls seat zero = timing.base
bank_after timing calls seat (suc turn) =
    let before = bank_after timing calls seat turn in
    if seat_of_turn timing turn == seat
    then min BANK_LIMIT (before - own_time timing turn calls + timing.per_turn)
    else before

-- the effective time from the newest call up to a moment, if time runs
abbrev pub since : Timing → List TimerCall → ℕ → ℕ
since timing calls moment = if is_running calls then moment - effective timing calls else 0

-- the bank of a seat at a moment: within an own turn, less the own time so far
abbrev pub bank : Timing → List TimerCall → ℕ → ℕ → ℕ
bank timing calls seat moment =
    let turn = turn_number calls in
    let before = bank_after timing calls seat turn in
    if seat_of_turn timing turn == seat
    then before - (own_time timing turn calls + since timing calls moment)
    else before

-- the moment at which the running bank is 0: as far ahead of the newest call as the bank is large
abbrev pub deadline : Timing → List TimerCall → Option ℕ
deadline timing calls =
    let now = effective timing calls in
    if is_running calls then Some (now + bank timing calls (turn_seat timing calls) now) else None

-- of the moments from the newest call on, the running bank is 0 at exactly those from this one on
abbrev pub RunsOutAt : Timing → List TimerCall → ℕ → Type 0
RunsOutAt timing calls end =
    (moment : ℕ) → effective timing calls ≤ moment
    → (bank timing calls (turn_seat timing calls) moment ≡ 0) ↔ (end ≤ moment)

-- the moment is not past the deadline, if there is one
abbrev pub IsOnTime : Timing → List TimerCall → ℕ → Type 0
IsOnTime timing calls moment = ForSome (deadline timing calls) (λ end. moment ≤ end)

-- whether time runs, and whose turn it is
abbrev pub state_of : Timing → List TimerCall → TimerState
state_of timing calls =
    if is_running calls
    then Runs (turn_seat timing calls)
    else (if is_stopped calls then Stopped else Paused (turn_seat timing calls))
