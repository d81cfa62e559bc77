use Rattle.sqlite.specs.Held.{state}
use Rattle.hb_sqlite.proofs.StoreWalks.{more_names}
use Rattle.hb_sqlite.proofs.reading.names_of.Goals as goal

pub loop-seat-preserved : goal.loop-seat-preserved
loop-seat-preserved g c =
    more_names (state g.S.Store c.args.conn.now) (state g.S.Store c.loop-seat.conn) (state g.S.Store c.name_of.new.conn) c.args.game
    c.loop-seat.seat c.loop-seat.names c.push.new.self c.in-Some.name
    c.loop-seat.invariant (rw c.in-Some.is at c.in_ok-name.ensures) c.in_ok-push-in-Some.ensures.ok
