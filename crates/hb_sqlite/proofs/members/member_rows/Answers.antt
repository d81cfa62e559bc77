use Rattle.sqlite.specs.Held.{state}
use Rattle.hb_sqlite.proofs.LineLemmas.{ids_found}
use Rattle.hb_sqlite.proofs.members.member_rows.Goals as goal

pub returns : goal.returns
returns g c =
    ids_found (λ rows. rows.items) (state g.S.Store c.args.conn.now) (state g.S.Store c.query_all.new.self) c.args.name.now
    c.query_all.result c.query_all.ensures.survives.clean
    (λ clean. rw (c.params-to_sql.ensures, c.as_str.ensures.text) at (c.query_all.ensures.ok clean)) (λ clean. rw
    (c.params-to_sql.ensures, c.as_str.ensures.text) at (c.query_all.ensures.err clean))
