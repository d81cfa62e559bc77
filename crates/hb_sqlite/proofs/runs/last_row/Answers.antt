use Rattle.sqlite.specs.Held.{state}
use Rattle.hb_sqlite.proofs.Opens.{last_row}
use Rattle.hb_sqlite.proofs.runs.last_row.Goals as goal

pub returns : goal.returns
returns g c = last_row (state g.S.Store c.args.conn.now) (state g.S.Store c.query_row.new.self) c.query_row.result
    c.query_row.ensures.survives.clean c.query_row.ensures.row
