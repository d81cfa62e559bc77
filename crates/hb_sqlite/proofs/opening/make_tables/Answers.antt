use Rattle.std.proofs.Common.{◌≡◌, arith, rules}
use Rattle.sqlite.specs.Held.{state}
use Rattle.sqlite.specs.State.{HasCleanDisk}
use Rattle.hb_sqlite.proofs.OpenLemmas.{new-store-made}
use Rattle.hb_sqlite.proofs.opening.make_tables.Goals as goal

pub returns : goal.returns
returns g c =
    let end = c.commit.new.self.0 in
    let same : end ≡ c.conn-2-1.given.0 = search rules in
    let fills = rw c.transaction-tx.ensures.begun at c.in_ok-fill.ensures.made in
    let less = c.commit.ensures.survives.clean in
    let early : HasCleanDisk (state g.S.Store end) → HasCleanDisk (state g.S.Store c.args.conn.now) =
    λ clean. fills.clean (omega (arith, clean, less)) in
    record {
      clean = rw same at early;
      made = rw same at (new-store-made (state g.S.Store c.args.conn.now) (state g.S.Store c.fill.new.tx.conn.now) (state g.S.Store end) tt
          less fills (λ clean. (c.in_ok-commit.ensures.ok clean).1));
    }
