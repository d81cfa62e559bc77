use Rattle.std.proofs.Common.{arith}
use Rattle.sqlite.specs.Held.{state}
use Rattle.hb_sqlite.proofs.OpenLemmas.{version_kept, version_found}
use Rattle.hb_sqlite.proofs.opening.version_rows.Goals as goal

pub returns-clause-clean : goal.returns-clause-clean
returns-clause-clean g c = λ clean. let less = c.query_all.ensures.survives.clean in omega (arith, clean, less)

pub returns-clause-kept : goal.returns-clause-kept
returns-clause-kept g c =
    version_kept (λ rows. rows.items) (state g.S.Store c.args.conn.now) (state g.S.Store c.query_all.new.self) c.query_all.result
    c.query_all.ensures.survives.clean c.query_all.ensures.ok c.query_all.ensures.err

pub returns-clause-found : goal.returns-clause-found
returns-clause-found g c =
    version_found (λ rows. rows.items) (state g.S.Store c.args.conn.now) (state g.S.Store c.query_all.new.self) c.query_all.result
    c.query_all.ensures.ok
