-- A clock that shows what the accepted calls came to does so after the next call too.
use Rattle.std.proofs.Common.{◌≡◌, ℕ, ◌+◌, ◌-◌, ◌%◌, ◌<◌, ◌≤◌, ◌==◌, min, max, Bool, true, false, if◌then◌else◌, List, ◌∷◌, length, inl, inr, refl, sym, ap, ◌∙◌, arith, slice_index, slice_set}
use Rattle.std.proofs.Math.Nat.{mod-lt, mod-add-mod}
use Rattle.std.proofs.lemmas.Bool.{cases_eq, eq-eqb, ne_eqb}
use Rattle.std.proofs.lemmas.List.{get_or-set_other}
use Rattle.std.proofs.lemmas.Grind.{get_or-set_at}
use Rattle.hb_timer.specs.declared.timing.TheConstants.{BANK_LIMIT, MOMENT_LIMIT, MOST_SEATS}
use Rattle.hb_timer.specs.declared.timing.Timing.{Timing}
use Rattle.hb_timer.specs.declared.timing.TimerCall.{TimerCall}
use Rattle.hb_timer.specs.declared.timing.TimerCall.TheVariants.{TurnEnds}
use Rattle.hb_timer.specs.declared.clock.Clock.{Clock}
use Rattle.hb_timer.specs.declared.clock.Phase.{Phase}
use Rattle.hb_timer.specs.declared.clock.Phase.TheVariants.{Running, Paused, Stopped}
use Rattle.hb_timer.specs.Banks.{bank, call_moment, effective, is_running, is_stopped, seat_of_turn, turn_number, turn_seat, IsOnTime}
use Rattle.hb_timer.specs.Clock.{bank_at, runs, Passes}
use Rattle.hb_timer.specs.Timer.{phase_of, IsKept}
use Rattle.hb_timer.proofs.BanksLemmas.{bank-call, bank-turn, bank-later, bank-limit}

-- the phase runs where the calls do
pub runs-phase_of : (calls : List TimerCall) → runs (phase_of calls) ≡ is_running calls
runs-phase_of calls = same (is_running calls) (is_stopped calls)
  where
    same : (running stopped : Bool) → runs (if running then Running else (if stopped then Stopped else Paused)) ≡ running
    same true stopped = refl
    same false true = refl
    same false false = refl

-- the present turn is a seat's
pub turn_seat-below : (timing : Timing) (calls : List TimerCall) → 0 < timing.seats → turn_seat timing calls < timing.seats
turn_seat-below timing calls some = mod-lt (timing.first + turn_number calls) some

-- the bank that the clock shows is the seat's
pub bank_at-kept : (timing : Timing) (calls : List TimerCall) (clock : Clock) (seat moment : ℕ)
    → IsKept timing calls clock → seat < timing.seats → bank_at clock seat moment ≡ bank timing calls seat moment
bank_at-kept timing calls clock seat moment kept below =
    rw (kept.banks seat below, kept.phase, runs-phase_of calls, kept.seat, kept.last) (sym (bank-later timing calls seat moment))

-- so it is within the limit
pub bank_at_within : (timing : Timing) (calls : List TimerCall) (clock : Clock) (seat moment : ℕ)
    → IsKept timing calls clock → seat < timing.seats → bank_at clock seat moment ≤ BANK_LIMIT
bank_at_within timing calls clock seat moment kept below =
    rw (bank_at-kept timing calls clock seat moment kept below) (bank-limit timing calls seat moment kept.base)

-- up to the deadline the running bank is large enough for the time that passes
pub time_fits : (timing : Timing) (calls : List TimerCall) (clock : Clock) (moment : ℕ)
    → IsKept timing calls clock → IsOnTime timing calls moment → runs clock.phase ≡ true
    → moment - clock.last ≤ slice_index clock.banks clock.seat
time_fits timing calls clock moment kept on_time phase =
    let some : 0 < timing.seats = omega arith in
    let running : is_running calls ≡ true = sym (runs-phase_of calls) ∙ sym (ap runs kept.phase) ∙ phase in
    let end = effective timing calls + bank timing calls (turn_seat timing calls) (effective timing calls) in
    let in_time : moment ≤ end = on_time end (rw running refl) in
    rw (kept.seat, kept.last, kept.banks (turn_seat timing calls) (turn_seat-below timing calls some)) (omega (arith, in_time))

-- after time has passed, the bank of the present turn is within the limit
pub passed_within : (timing : Timing) (moment : ℕ) (calls : List TimerCall) (old new : Clock)
    → IsKept timing calls old → Passes old new moment → slice_index new.banks new.seat ≤ BANK_LIMIT
passed_within timing moment calls old new kept passes =
    let some : 0 < timing.seats = omega arith in
    let below : new.seat < timing.seats = omega (arith, passes.seat, kept.seat, turn_seat-below timing calls some) in
    rw (passes.banks new.seat (omega arith)) (bank_at_within timing calls old new.seat moment kept below)

-- after a call that ends no turn the clock shows what the calls came to
pub kept-call : (timing : Timing) (call : TimerCall) (calls : List TimerCall) (old new : Clock) (phase : Phase)
    → IsKept timing calls old → Passes old new (call_moment call) → call_moment call ≤ MOMENT_LIMIT
    → turn_number (call ∷ calls) ≡ turn_number calls → phase ≡ phase_of (call ∷ calls)
    → IsKept timing (call ∷ calls) (record new { phase = phase })
kept-call timing call calls old new phase kept passes in_range same is = record {
  two_seats = kept.two_seats;
  most_seats = kept.most_seats;
  first = kept.first;
  base = kept.base;
  gain = kept.gain;
  in_range = omega arith;
  last = passes.last ∙ ap (max (call_moment call)) kept.last;
  seat = passes.seat ∙ kept.seat ∙ ap (λ turn. seat_of_turn timing turn) (sym same);
  phase = is;
  banks = λ seat below.
      passes.banks seat (omega arith)
      ∙ bank_at-kept timing calls old seat (call_moment call) kept below
      ∙ sym (bank-call timing call calls seat same);
}

-- after the end of a turn the clock shows what the calls came to
pub kept-turn : (timing : Timing) (moment : ℕ) (calls : List TimerCall) (old new : Clock)
    → IsKept timing calls old → Passes old new moment → length new.banks ≡ MOST_SEATS
    → moment ≤ MOMENT_LIMIT → is_running calls ≡ true
    → IsKept timing (TurnEnds moment ∷ calls) (record new {
      banks = slice_set new.banks new.seat (min BANK_LIMIT (slice_index new.banks new.seat + timing.per_turn));
      seat = (new.seat + 1) % timing.seats;
    })
kept-turn timing moment calls old new kept passes size in_range running =
    let own : new.seat ≡ turn_seat timing calls = passes.seat ∙ kept.seat in
    let some : 0 < timing.seats = omega arith in
    let inside : new.seat < length new.banks = omega (arith, own, size, turn_seat-below timing calls some) in
    let gain : ℕ → ℕ = λ held. min BANK_LIMIT (held + timing.per_turn) in
    let passed : (seat : ℕ) → seat < timing.seats → slice_index new.banks seat ≡ bank timing calls seat moment =
    λ (seat : ℕ) (below : seat < timing.seats).
    passes.banks seat (omega arith) ∙ bank_at-kept timing calls old seat moment kept below in
    let gained : (seat : ℕ) → seat < timing.seats
    → slice_index (slice_set new.banks new.seat (gain (slice_index new.banks new.seat))) seat
    ≡ (if turn_seat timing calls == seat then gain (bank timing calls seat moment) else bank timing calls seat moment) =
    λ (seat : ℕ) (below : seat < timing.seats). elim (cases_eq new.seat seat) [
      | inl here ↦
          get_or-set_at new.banks new.seat seat _ 0 (sym here) inside
          ∙ rw (here, passed seat below, eq-eqb (turn_seat timing calls) seat (sym own ∙ here)) refl
      | inr away ↦
          get_or-set_other new.banks new.seat seat _ 0 (λ e. away (sym e))
          ∙ passed seat below
          ∙ rw (ne_eqb (turn_seat timing calls) seat (λ e. away (own ∙ e))) refl
    ] in
    record {
      two_seats = kept.two_seats;
      most_seats = kept.most_seats;
      first = kept.first;
      base = kept.base;
      gain = kept.gain;
      in_range = omega arith;
      last = passes.last ∙ ap (max moment) kept.last;
      seat = rw (own, mod-add-mod (timing.first + turn_number calls) timing.seats 1) (ap (λ n. n % timing.seats) (omega arith));
      phase = passes.phase ∙ kept.phase ∙ rw running refl;
      banks = λ seat below. gained seat below ∙ sym (bank-turn timing moment calls seat);
    }
