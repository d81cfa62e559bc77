-- Does a clock that shows what the calls came to do so after the next call too, and which texts has it?
use Rattle.std.proofs.Common.{◌≡◌, ℕ, zero, suc, ◌+◌, ◌%◌, ◌<◌, ◌≤◌, ◌==◌, min, max, Bool, true, false, if◌then◌else◌, List, [], ◌∷◌, ◌++◌, length, inl, inr, refl, sym, subst, ap, ◌∙◌, arith, map, slice_index, slice_set, Option, Some, None}
use Rattle.std.specs.List.{range_with_len}
use Rattle.std.proofs.Math.Nat.{mod-add-mod}
use Rattle.std.proofs.lemmas.Bool.{cases_eq, eq-eqb, ne_eqb}
use Rattle.std.proofs.lemmas.List.{get_or-set_other}
use Rattle.std.proofs.lemmas.Grind.{get_or-set_at}
use Rattle.hb_rules.specs.declared.setups.Setup.{Setup}
use Rattle.hb_timer.specs.declared.timing.TheConstants.{BANK_LIMIT}
use Rattle.hb_timer.specs.declared.timing.Timing.{Timing}
use Rattle.hb_timer.specs.declared.timing.TimerCall.{TimerCall}
use Rattle.hb_timer.specs.declared.timing.TimerCall.TheVariants.{TurnEnds}
use Rattle.hb_timer.specs.Banks.{bank, call_moment, is_running, seat_of_turn, turn_number, turn_seat}
use Rattle.hb_timer.proofs.BanksLemmas.{bank-call, bank-turn, bank-later}
use Rattle.hb_timer.proofs.Kept.{turn_seat-below}
use Rattle.hb_wire.specs.declared.lines.WireLine.TheVariants as wire
use Rattle.hb_wire.specs.WireLine.{line_text}
use Rattle.hb_club.specs.declared.items.Item.{Item}
use Rattle.hb_club.specs.TableClock.{timer_calls, timing_of}
use Rattle.hb_talk.specs.Streams.{clock_line, clock_lines}
use Rattle.hb_view.specs.declared.clocks.Clock.{Clock}
use Rattle.hb_view.specs.StreamClocks.{ClockMoves, HasPassed, IsClock, bank_at, clock_if, clock_text, clock_texts}
use Rattle.hb_view.specs.Cursors.{IsKeptClock}
use Rattle.hb_view.proofs.TextListLemmas.{map-below_more}

-- the bank that the clock shows is the seat's
pub bank_at-clock : (of : Timing) (calls : List TimerCall) (c : Clock) (seat moment : ℕ) → IsClock of calls c → seat < 6
    → bank_at c seat moment ≡ bank of calls seat moment
bank_at-clock of calls c seat moment is below =
    rw (is.banks seat below, is.running, is.seat, is.last) (sym (bank-later of calls seat moment))

-- its seat is one of those that it has banks of
pub clock-seat : (of : Timing) (calls : List TimerCall) (c : Clock) → IsClock of calls c → c.seat < 6
clock-seat of calls c is = omega (arith, is.few, is.seat, turn_seat-below of calls is.some)

-- after a call that ends no turn
pub clock-call : (of : Timing) (call : TimerCall) (calls : List TimerCall) (old new : Clock) (running : Bool)
    → IsClock of calls old → HasPassed old new (call_moment call)
    → turn_number (call ∷ calls) ≡ turn_number calls → running ≡ is_running (call ∷ calls)
    → IsClock of (call ∷ calls) (record new { running = running })
clock-call of call calls old new running is passes same runs = record {
  some = is.some;
  few = is.few;
  timing = passes.timing ∙ is.timing;
  last = passes.last ∙ ap (max (call_moment call)) is.last;
  seat = passes.seat ∙ is.seat ∙ ap (λ turn. seat_of_turn of turn) (sym same);
  running = runs;
  banks = λ seat below.
      passes.banks seat below
      ∙ bank_at-clock of calls old seat (call_moment call) is below
      ∙ sym (bank-call of call calls seat same);
}

-- after the end of a turn
clock-turn-of : (of : Timing) (moment : ℕ) (calls : List TimerCall) (old new : Clock) (gained : ℕ)
    → IsClock of calls old → HasPassed old new moment → length new.banks ≡ 6
    → gained ≡ min BANK_LIMIT (slice_index new.banks new.seat + of.per_turn)
    → IsClock of (TurnEnds moment ∷ calls)
    (record new { banks = slice_set new.banks new.seat gained; seat = (new.seat + 1) % of.seats; running = true })
clock-turn-of of moment calls old new gained is passes size gains =
    let own : new.seat ≡ turn_seat of calls = passes.seat ∙ is.seat in
    let inside : new.seat < length new.banks = omega (arith, own, size, is.few, turn_seat-below of calls is.some) in
    let gain : ℕ → ℕ = λ held. min BANK_LIMIT (held + of.per_turn) in
    let passed : (seat : ℕ) → seat < 6 → slice_index new.banks seat ≡ bank of calls seat moment =
    λ (seat : ℕ) (below : seat < 6). passes.banks seat below ∙ bank_at-clock of calls old seat moment is below in
    let grown : (seat : ℕ) → seat < 6 → slice_index (slice_set new.banks new.seat gained) seat
    ≡ (if turn_seat of calls == seat then gain (bank of calls seat moment) else bank of calls seat moment) =
    λ (seat : ℕ) (below : seat < 6). elim (cases_eq new.seat seat) [
      | inl here ↦
          get_or-set_at new.banks new.seat seat _ 0 (sym here) inside
          ∙ gains
          ∙ rw (here, passed seat below, eq-eqb (turn_seat of calls) seat (sym own ∙ here)) refl
      | inr away ↦
          get_or-set_other new.banks new.seat seat _ 0 (λ e. away (sym e))
          ∙ passed seat below
          ∙ rw (ne_eqb (turn_seat of calls) seat (λ e. away (own ∙ e))) refl
    ] in
    record {
      some = is.some;
      few = is.few;
      timing = passes.timing ∙ is.timing;
      last = passes.last ∙ ap (max moment) is.last;
      seat = rw (own, mod-add-mod (of.first + turn_number calls) of.seats 1) (ap (λ n. n % of.seats) (omega arith));
      running = refl;
      banks = λ seat below. grown seat below ∙ sym (bank-turn of moment calls seat);
    }

-- the same, if the place, the gain and the number of seats are read off the clock
pub clock-turn : (of : Timing) (moment : ℕ) (calls : List TimerCall) (old new : Clock) (place gained : ℕ)
    → IsClock of calls old → HasPassed old new moment → length new.banks ≡ 6
    → place ≡ new.seat → gained ≡ min BANK_LIMIT (slice_index new.banks place + new.timing.per_turn)
    → IsClock of (TurnEnds moment ∷ calls)
    (record new { banks = slice_set new.banks place gained; seat = (new.seat + 1) % new.timing.seats; running = true })
clock-turn of moment calls old new place gained is passes size at_seat gains =
    let same : new.timing ≡ of = passes.timing ∙ is.timing in
    let begun : gained ≡ min BANK_LIMIT (slice_index new.banks new.seat + of.per_turn) =
    gains ∙ (ap (λ k. min BANK_LIMIT (slice_index new.banks k + new.timing.per_turn)) at_seat
    ∙ ap (λ (t : Timing). min BANK_LIMIT (slice_index new.banks new.seat + t.per_turn)) same) in
    subst (λ (k : ℕ). IsClock of (TurnEnds moment ∷ calls)
    (record new { banks = slice_set new.banks k gained; seat = (new.seat + 1) % new.timing.seats; running = true }))
    (sym at_seat)
    (subst (λ (n : ℕ). IsClock of (TurnEnds moment ∷ calls)
    (record new { banks = slice_set new.banks new.seat gained; seat = (new.seat + 1) % n; running = true }))
    (sym (ap (λ (t : Timing). t.seats) same))
    (clock-turn-of of moment calls old new gained is passes size begun))

-- maps over the numbers below a bound that agree there
map-below : (f h : ℕ → ℕ) (n : ℕ) → ((k : ℕ) → k < n → f k ≡ h k)
    → map f (range_with_len 0 n) ≡ map h (range_with_len 0 n)
map-below f h zero e = refl
map-below f h (suc n) e =
    let front : map f (range_with_len 0 n) ≡ map h (range_with_len 0 n) =
    map-below f h n (λ k below. e k (omega (arith, below))) in
    let s : suc n ≡ n + 1 = omega arith in
    ap (λ m. map f (range_with_len 0 m)) s ∙ (map-below_more f n
    ∙ (ap (λ xs. xs ++ f n ∷ []) front ∙ (ap (λ x. map h (range_with_len 0 n) ++ x ∷ []) (e n (omega arith))
    ∙ (sym (map-below_more h n) ∙ ap (λ m. map h (range_with_len 0 m)) (sym s)))))

-- the text of a clock that shows the calls of a table
clock_text-line : (g : Setup) (items : List Item) (c : Clock) (moment : ℕ) → g.players ≤ 6
    → IsClock (timing_of g items) (timer_calls g items) c → clock_text c g.players moment ≡ clock_line g items moment
clock_text-line g items c moment few is =
    let of : Timing = timing_of g items in
    let calls : List TimerCall = timer_calls g items in
    let shown : List ℕ = map (λ seat. bank of calls seat moment) (range_with_len 0 g.players) in
    let banks : map (λ seat. bank_at c seat moment) (range_with_len 0 g.players) ≡ shown =
    map-below (λ seat. bank_at c seat moment) (λ seat. bank of calls seat moment) g.players
    (λ k below. bank_at-clock of calls c k moment is (omega (arith, below, few))) in
    ap (λ xs. line_text (wire.Clock (record { items = xs }) moment (if c.running then Some c.seat else None))) banks
    ∙ (ap (λ b. line_text (wire.Clock (record { items = shown }) moment (if b then Some c.seat else None))) is.running
    ∙ ap (λ k. line_text (wire.Clock (record { items = shown }) moment (if is_running calls then Some k else None))) is.seat)

-- the text of a clock, if it is kept
pub clock_texts-line : (g : Setup) (items : List Item) (o : Option Clock) (seats moment : ℕ) → seats ≡ g.players → seats ≤ 6
    → IsKeptClock (timing_of g items) (timer_calls g items) o → clock_texts o seats moment ≡ clock_line g items moment ∷ []
clock_texts-line g items None seats moment same few is = absurd is
clock_texts-line g items (Some c) seats moment same few is =
    rw same (ap (λ text. text ∷ []) (clock_text-line g items c moment (omega (arith, few, same)) is))

-- the text of a clock, if it is kept and the table is timed
pub clock_texts-lines : (g : Setup) (items : List Item) (o : Option Clock) (timed : Bool) (seats moment : ℕ)
    → timed ≡ g.options.timed → seats ≡ g.players → seats ≤ 6
    → IsKeptClock (timing_of g items) (timer_calls g items) o
    → clock_texts (clock_if timed o) seats moment ≡ clock_lines g items moment
clock_texts-lines g items o true seats moment tells same few is =
    clock_texts-line g items o seats moment same few is
    ∙ ap (λ (b : Bool). if b then clock_line g items moment ∷ [] else []) tells
clock_texts-lines g items o false seats moment tells same few is =
    ap (λ (b : Bool). if b then clock_line g items moment ∷ [] else []) tells

-- a kept clock after a call
pub kept_clock-call : (of : Timing) (calls : List TimerCall) (call : TimerCall) (old new : Option Clock) → ClockMoves call old new
    → IsKeptClock of calls old → IsKeptClock of (call ∷ calls) new
kept_clock-call of calls call None new moves is = absurd is
kept_clock-call of calls call (Some old) None moves is = absurd moves
kept_clock-call of calls call (Some old) (Some new) moves is = moves of calls is
