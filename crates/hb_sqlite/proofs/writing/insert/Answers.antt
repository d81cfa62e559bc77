use Rattle.sqlite.specs.Held.{state}
use Rattle.hb_sqlite.proofs.StoreWalks.{seats_done, seats_failed}
use Rattle.hb_sqlite.proofs.writing.insert.Goals as goal

pub returns-in_err-insert_seats-clause-placed : goal.returns-in_err-insert_seats-clause-placed
returns-in_err-insert_seats-clause-placed g c =
    seats_failed (state g.S.Store c.args.tx.now.conn.now) (state g.S.Store c.insert_game.new.tx.conn.now) (state g.S.Store
    c.insert_seats.new.tx.conn.now) c.args.key.now c.args.row.now c.in_ok-id.id _
    c.from_residual-in_err-insert_seats.result c.from_residual-in_err-insert_seats.ensures.0 c.in_ok-id.ensures.placed
    (rw c.as_slice.ensures at c.in_err-insert_seats.ensures.placed)

pub returns-clause-placed : goal.returns-clause-placed
returns-clause-placed g c =
    seats_done (state g.S.Store c.args.tx.now.conn.now) (state g.S.Store c.insert_game.new.tx.conn.now) (state g.S.Store
    c.insert_seats.new.tx.conn.now) c.args.key.now c.args.row.now c.in_ok-id.id _
    c.in_ok-id.ensures.placed (rw c.as_slice.ensures at c.in_ok-insert_seats.ensures.placed)
