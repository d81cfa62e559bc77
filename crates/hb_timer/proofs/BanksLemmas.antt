-- What a new call does to the banks: the end of a turn adds the gain to its seat's bank, and any other call leaves each
-- bank as it was at the call's moment.
use Rattle.std.proofs.Common.{◌≡◌, ℕ, zero, suc, ◌+◌, ◌-◌, ◌<◌, ◌≤◌, ◌≢◌, ◌==◌, min, max, Bool, true, false, ◌&&◌, if◌then◌else◌, List, [], ◌∷◌, refl, sym, subst, ◌∙◌, arith, add-zero, add-one}
use Rattle.std.proofs.Math.Bool.{and-false}
use Rattle.std.proofs.Math.Nat.{sub-zero}
use Rattle.std.proofs.lemmas.Bool.{ne_eqb, eq-eqb, cond_both}
use Rattle.hb_timer.specs.declared.timing.TheConstants.{BANK_LIMIT}
use Rattle.hb_timer.specs.declared.timing.Timing.{Timing}
use Rattle.hb_timer.specs.declared.timing.TimerCall.{TimerCall}
use Rattle.hb_timer.specs.declared.timing.TimerCall.TheVariants.{TurnEnds, Pauses, Resumes, Stops}
use Rattle.hb_timer.specs.Banks.{call_moment, effective, is_running, turn_number, seat_of_turn, turn_seat, own_time, bank_after, since, bank}

-- a call ends an interval of the turn before it, so no other turn's own time grows
pub own_time-other : (timing : Timing) (turn : ℕ) (call : TimerCall) (calls : List TimerCall)
    → turn_number calls ≢ turn → own_time timing turn (call ∷ calls) ≡ own_time timing turn calls
own_time-other timing turn call calls other =
    rw (ne_eqb (turn_number calls) turn other, and-false (is_running calls)) (add-zero (own_time timing turn calls))

-- the own time of that turn grows by the time since the call before
pub own_time-same : (timing : Timing) (call : TimerCall) (calls : List TimerCall)
    → own_time timing (turn_number calls) (call ∷ calls)
    ≡ own_time timing (turn_number calls) calls + since timing calls (call_moment call)
own_time-same timing call calls =
    rw (eq-eqb (turn_number calls) (turn_number calls) refl)
    (grows (is_running calls) (own_time timing (turn_number calls) calls) (call_moment call) (effective timing calls))
  where
    grows : (running : Bool) (own moment now : ℕ)
        → own + (if running && true then max moment now - now else 0) ≡ own + (if running then moment - now else 0)
    grows true own moment now = omega arith
    grows false own moment now = refl

-- no call takes the turns back
pub turn_number-call : (call : TimerCall) (calls : List TimerCall) → turn_number calls ≤ turn_number (call ∷ calls)
turn_number-call (TurnEnds moment) calls = omega arith
turn_number-call (Pauses moment) calls = omega arith
turn_number-call (Resumes moment) calls = omega arith
turn_number-call (Stops moment) calls = omega arith

-- a turn that has not begun has no own time
pub own_time-ahead : (timing : Timing) (turn : ℕ) (calls : List TimerCall)
    → turn_number calls < turn → own_time timing turn calls ≡ 0
own_time-ahead timing turn [] ahead = refl
own_time-ahead timing turn (call ∷ calls) ahead =
    let before : turn_number calls < turn = omega (arith, turn_number-call call calls) in
    let other : turn_number calls ≢ turn = λ e. omega (arith, e) in
    own_time-other timing turn call calls other ∙ own_time-ahead timing turn calls before

-- no call changes what the turns that ended before it left
pub bank_after-call : (timing : Timing) (call : TimerCall) (calls : List TimerCall) (seat turn : ℕ)
    → turn ≤ turn_number calls → bank_after timing (call ∷ calls) seat turn ≡ bank_after timing calls seat turn
bank_after-call timing call calls seat zero within = refl
bank_after-call timing call calls seat (suc turn) within =
    let before : turn ≤ turn_number calls = omega arith in
    let other : turn_number calls ≢ turn = λ e. omega (arith, e) in
    rw (bank_after-call timing call calls seat turn before, own_time-other timing turn call calls other) refl

-- no time has passed since the newest call at its own effective moment
pub since-effective : (timing : Timing) (calls : List TimerCall) → since timing calls (effective timing calls) ≡ 0
since-effective timing calls =
    cond_both (is_running calls) (effective timing calls - effective timing calls) 0 (λ time. time ≡ 0) (λ _. omega arith) (λ _. refl)

-- a call that ends no turn leaves each bank as it was at the call's moment
pub bank-call : (timing : Timing) (call : TimerCall) (calls : List TimerCall) (seat : ℕ)
    → turn_number (call ∷ calls) ≡ turn_number calls
    → bank timing (call ∷ calls) seat (effective timing (call ∷ calls)) ≡ bank timing calls seat (call_moment call)
bank-call timing call calls seat same =
    let within : turn_number calls ≤ turn_number calls = omega arith in
    let bank_in : ℕ → ℕ = λ turn.
    if seat_of_turn timing turn == seat
    then bank_after timing (call ∷ calls) seat turn
    - (own_time timing turn (call ∷ calls) + since timing (call ∷ calls) (effective timing (call ∷ calls)))
    else bank_after timing (call ∷ calls) seat turn in
    let P : ℕ → Type 0 = λ turn. bank_in turn ≡ bank timing calls seat (call_moment call) in
    subst P (sym same)
    (rw (
      since-effective timing (call ∷ calls),
      bank_after-call timing call calls seat (turn_number calls) within,
      own_time-same timing call calls,
    )
    (rw add-zero refl))

-- the end of a turn adds the gain to its seat's bank, up to the limit, and leaves the others as they were
pub bank-turn : (timing : Timing) (moment : ℕ) (calls : List TimerCall) (seat : ℕ)
    → bank timing (TurnEnds moment ∷ calls) seat (effective timing (TurnEnds moment ∷ calls))
    ≡ (if turn_seat timing calls == seat
    then min BANK_LIMIT (bank timing calls seat moment + timing.per_turn)
    else bank timing calls seat moment)
bank-turn timing moment calls seat =
    let within : turn_number calls ≤ turn_number calls = omega arith in
    let ahead : turn_number calls < turn_number calls + 1 = omega arith in
    let other : turn_number calls ≢ turn_number calls + 1 = λ e. omega (arith, e) in
    let none : own_time timing (turn_number calls + 1) (TurnEnds moment ∷ calls) ≡ 0 =
    own_time-other timing (turn_number calls + 1) (TurnEnds moment) calls other
    ∙ own_time-ahead timing (turn_number calls + 1) calls ahead in
    let after : ℕ =
    if turn_seat timing calls == seat then min BANK_LIMIT (bank timing calls seat moment + timing.per_turn)
    else bank timing calls seat moment in
    let next : bank_after timing (TurnEnds moment ∷ calls) seat (turn_number calls + 1) ≡ after =
    rw (
      add-one (turn_number calls),
      bank_after-call timing (TurnEnds moment) calls seat (turn_number calls) within,
      own_time-same timing (TurnEnds moment) calls,
    )
    (gains (turn_seat timing calls == seat) (bank_after timing calls seat (turn_number calls))
    (own_time timing (turn_number calls) calls + since timing calls moment) timing.per_turn) in
    rw (none, since-effective timing (TurnEnds moment ∷ calls))
    (cond_both (seat_of_turn timing (turn_number calls + 1) == seat) _ _ (λ n. n ≡ after) (λ _. rw sub-zero next) (λ _. next))
  where
    gains : (mine : Bool) (before time gain : ℕ)
        → (if mine then min BANK_LIMIT (before - time + gain) else before)
        ≡ (if mine then min BANK_LIMIT ((if mine then before - time else before) + gain) else (if mine then before - time else before))
    gains true before time gain = refl
    gains false before time gain = refl

-- time that runs comes off the bank of the present turn
pub bank-later : (timing : Timing) (calls : List TimerCall) (seat moment : ℕ)
    → bank timing calls seat moment
    ≡ (if is_running calls && turn_seat timing calls == seat
    then bank timing calls seat (effective timing calls) - (moment - effective timing calls)
    else bank timing calls seat (effective timing calls))
bank-later timing calls seat moment =
    runs (is_running calls) (turn_seat timing calls == seat) (bank_after timing calls seat (turn_number calls))
    (own_time timing (turn_number calls) calls) moment (effective timing calls)
  where
    runs : (running mine : Bool) (before own moment now : ℕ)
        → (if mine then before - (own + (if running then moment - now else 0)) else before)
        ≡ (if running && mine
        then (if mine then before - (own + (if running then now - now else 0)) else before) - (moment - now)
        else (if mine then before - (own + (if running then now - now else 0)) else before))
    runs true true before own moment now = omega arith
    runs true false before own moment now = refl
    runs false true before own moment now = refl
    runs false false before own moment now = refl

-- no turn leaves a bank above the limit
pub bank_after-limit : (timing : Timing) (calls : List TimerCall) (seat turn : ℕ)
    → timing.base ≤ BANK_LIMIT → bank_after timing calls seat turn ≤ BANK_LIMIT
bank_after-limit timing calls seat zero base = base
bank_after-limit timing calls seat (suc turn) base =
    cond_both (seat_of_turn timing turn == seat) _ _ (λ n. n ≤ BANK_LIMIT) (λ _. omega arith)
    (λ _. bank_after-limit timing calls seat turn base)

-- so no bank is above it
pub bank-limit : (timing : Timing) (calls : List TimerCall) (seat moment : ℕ)
    → timing.base ≤ BANK_LIMIT → bank timing calls seat moment ≤ BANK_LIMIT
bank-limit timing calls seat moment base =
    let most = bank_after-limit timing calls seat (turn_number calls) base in
    cond_both (turn_seat timing calls == seat) _ _ (λ n. n ≤ BANK_LIMIT) (λ _. omega arith) (λ _. most)
