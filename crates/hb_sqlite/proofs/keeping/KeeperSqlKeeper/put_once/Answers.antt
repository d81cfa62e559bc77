use Rattle.sqlite.specs.Held.{state}
use Rattle.hb_sqlite.proofs.KeepsLemmas.{keeps_put_by}
use Rattle.hb_sqlite.proofs.keeping.KeeperSqlKeeper.put_once.Goals as goal

pub returns-in-Ok-Some-clause-keeps : goal.returns-in-Ok-Some-clause-keeps
returns-in-Ok-Some-clause-keeps g c = λ sure.
    let found = c.in-Ok-Some.ensures in
    let reads = rw c.in-Ok-Some.field-0-is at found in
    keeps_put_by (state g.S.Store c.args.self.now.conn) (state g.S.Store c.id_of_key.new.conn) (state g.S.Store c.again.new.self.conn)
    c.args.key.now c.args.row.now c.in-Ok-Some.id c.again.result (c.again.ensures.sure sure) reads
    (c.again.ensures.keeps sure c.args.key.now)
