use Rattle.std.proofs.Common.{◌≡◌, ℕ, arith, subst}
use Rattle.std.specs.Prelude.{min}
use Rattle.hb_timer.specs.declared.timing.TheConstants.{MOMENT_LIMIT}
use Rattle.hb_club.specs.NewItems.{by_seat}
use Rattle.hb_table.specs.Changes.{StartsGame}
use Rattle.hb_table.specs.Starts.{timer_when}
use Rattle.hb_table.specs.Steps.{stamp_for}
use Rattle.hb_table.proofs.RoomOpenLemmas.{start-steps}
use Rattle.hb_table.proofs.HeadLemmas.{start-moves}
use Rattle.hb_table.proofs.room.Room.start_next.Goals as goal

pub returns-clause-ok : goal.returns-clause-ok
returns-clause-ok c =
    let moment : c.min-moment.result ≡ min (stamp_for c.args.self.now c.args.e.now.moment) MOMENT_LIMIT =
    omega (arith, c.stamp_for.ensures) in
    λ a facts.
    start-steps a c.args.self.now c.start_with.new.self c.keep_entry.new.self c.args.e.now c.in_ok-game.game c.requires.starting facts
    c.in_ok-game.ensures
    (subst (λ (n : ℕ). StartsGame n (by_seat c.args.self.now.seats.items) c.in_ok-game.game (timer_when n c.in_ok-game.game) c.args.self.now
    c.start_with.new.self) moment c.start_with.ensures) c.keep_entry.ensures

pub returns-clause-head : goal.returns-clause-head
returns-clause-head c = start-moves _ _ _ c.args.e.now _ c.args.self.now c.start_with.new.self c.keep_entry.new.self c.start_with.ensures
    c.keep_entry.ensures c.requires.starting.start.bare
