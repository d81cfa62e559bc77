use Rattle.sqlite.specs.Held.{state}
use Rattle.hb_sqlite.proofs.Gets.{to_z-of}
use Rattle.hb_sqlite.proofs.Opens.{wrote_run}
use Rattle.hb_sqlite.proofs.runs.set_last_run.Goals as goal

pub returns : goal.returns
returns g c =
    wrote_run (state g.S.Store c.args.conn.now) (state g.S.Store c.execute.new.self) c.args.run c.execute.result
    c.execute.ensures.survives.clean
    (λ clean. rw (c.params-to_sql.ensures, to_z-of c.stored.result c.args.run c.stored.ensures c.requires) at
    (c.execute.ensures.runs clean))
