use Rattle.sqlite.specs.Held.{state}
use Rattle.hb_sqlite.proofs.StoreWalks.{key_id}
use Rattle.hb_sqlite.proofs.reading.id_of_key.Goals as goal

pub returns : goal.returns
returns g c =
    key_id (λ rows. rows.items) (state g.S.Store c.args.conn.now) (state g.S.Store c.key_rows.new.conn) c.args.key.now c.in_ok-rows.rows
    c.only_id.result
    c.in_ok-rows.ensures (λ ids same. c.only_id.ensures ids (rw c.deref.ensures.value same))
