use Rattle.sqlite.specs.Held.{state}
use Rattle.hb_sqlite.proofs.Gets.{to_z-of, seat_found}
use Rattle.hb_sqlite.proofs.reading.seat_rows.Goals as goal

pub returns : goal.returns
returns g c =
    let number = to_z-of c.stored.result c.args.game c.stored.ensures c.requires in
    seat_found (λ rows. rows.items) (state g.S.Store c.args.conn.now) (state g.S.Store c.query_all.new.self) c.args.game c.args.seat
    c.query_all.result c.query_all.ensures.survives.clean
    (λ clean. rw (c.params-to_sql.ensures, c.params-to_sql-2.ensures, number) at (c.query_all.ensures.ok clean))
    (λ clean. rw (c.params-to_sql.ensures, c.params-to_sql-2.ensures, number) at (c.query_all.ensures.err clean))
