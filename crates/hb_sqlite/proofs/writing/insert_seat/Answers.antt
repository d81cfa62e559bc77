use Rattle.sqlite.specs.Held.{state}
use Rattle.hb_sqlite.proofs.Gets.{to_z-of}
use Rattle.hb_sqlite.proofs.PutLemmas.{places_seat}
use Rattle.hb_sqlite.proofs.writing.insert_seat.Goals as goal

pub returns-clause-placed : goal.returns-clause-placed
returns-clause-placed g c games seats =
    let number = to_z-of c.stored.result c.args.game c.stored.ensures c.requires in
    places_seat (state g.S.Store c.args.tx.now.conn.now) (state g.S.Store c.execute.new.self.conn.now) c.args.game c.args.seat
    c.args.name.now games seats c.execute.result c.execute.ensures.survives.clean
    (λ off. let same = (c.execute.ensures.ended off).1 in rw same (record { was_open = λ it. it; backed = λ content b. b }))
    (λ clean inside. rw (c.params-to_sql.ensures, c.params-to_sql-2.ensures, c.params-to_sql-3.ensures, number, c.as_str.ensures.text) at
    (c.execute.ensures.runs clean inside))
