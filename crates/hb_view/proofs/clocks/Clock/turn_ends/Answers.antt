use Rattle.std.proofs.Common.{◌≡◌, ◌+◌, length, min, slice_index, arith, rules}
use Rattle.hb_timer.specs.declared.timing.TheConstants.{BANK_LIMIT}
use Rattle.hb_view.proofs.ClockLemmas.{clock-seat, clock-turn}
use Rattle.hb_view.proofs.clocks.Clock.turn_ends.Goals as goal

pub returns-then-next-gt0 : goal.returns-then-next-gt0
returns-then-next-gt0 c =
    let size : length c.passed-next.result.banks ≡ 6 = search rules in
    let gains : c.min.result
    ≡ min BANK_LIMIT (slice_index c.passed-next.result.banks c.from-seat.result + c.passed-next.result.timing.per_turn) =
    rw (c.min.ensures, c.saturating_add.ensures) (omega arith) in
    λ of calls is. clock-turn of c.args.moment calls c.args.self c.passed-next.result c.from-seat.result c.min.result is
    (c.passed-next.ensures (clock-seat of calls c.args.self is)) size c.from-seat.ensures gains
