use Rattle.sqlite.specs.Held.{state}
use Rattle.hb_sqlite.proofs.OpenLemmas.{number_open}
use Rattle.hb_sqlite.proofs.opening.version.Goals as goal

pub returns-clause-found : goal.returns-clause-found
returns-clause-found g c = λ clean n holds.
    let shown = c.in_ok-rows.ensures.found clean n holds in
    number_open c.only_number.result n (state g.S.Store c.version_rows.new.conn)
    (c.only_number.ensures n (rw c.deref.ensures.value shown.0)) shown.1
