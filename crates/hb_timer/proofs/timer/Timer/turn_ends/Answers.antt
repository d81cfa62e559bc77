-- The running bank covers the time that passes and gains within its range, and the clock shows what the calls
-- came to with the end of the turn.
use Rattle.std.proofs.Common.{◌≡◌, ◌≤◌, true, length, slice_index, arith, rules}
use Rattle.hb_timer.specs.declared.timing.TheConstants.{BANK_LIMIT, MOST_SEATS}
use Rattle.hb_timer.specs.Banks.{is_running}
use Rattle.hb_timer.proofs.Kept.{kept-turn, passed_within, time_fits}
use Rattle.hb_timer.proofs.timer.Timer.turn_ends.Goals as goal

pub pass_to-requires-clause-in_time : goal.pass_to-requires-clause-in_time
pass_to-requires-clause-in_time c =
    time_fits c.self.inside.timing c.self.inside.calls c.self.inside.clock c.args.moment c.self.invariant
    (rw (← c.self.view_is) at c.requires.on_time)

pub overflow_add-self-inside : goal.overflow_add-self-inside
overflow_add-self-inside c =
    let within : slice_index c.pass_to.new.self.banks c.pass_to.new.self.seat ≤ BANK_LIMIT =
    passed_within c.self.inside.timing c.args.moment c.self.inside.calls c.self.inside.clock c.pass_to.new.self
    c.self.invariant c.pass_to.ensures in
    rw c.from-seat.ensures (omega (arith, within))

pub invariant_of-self : goal.invariant_of-self
invariant_of-self c =
    let size : length c.pass_to.new.self.banks ≡ MOST_SEATS = search rules in
    let running : is_running c.self.inside.calls ≡ true = rw (← c.self.view_is) at c.requires.running in
    rw (c.add.ensures, c.min.ensures, c.from-seat.ensures)
    (kept-turn c.self.inside.timing c.args.moment c.self.inside.calls c.self.inside.clock
    c.pass_to.new.self c.self.invariant c.pass_to.ensures size c.requires.in_range running)
