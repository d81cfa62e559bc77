use Rattle.std.proofs.Common.{◌≡◌, rules}
use Rattle.sqlite.specs.Held.{state}
use Rattle.hb_sqlite.proofs.PutLemmas.{wrote}
use Rattle.hb_sqlite.proofs.writing.write_game.Goals as goal

pub returns : goal.returns
returns g c =
    let end = c.commit.new.self.0 in
    let same : end ≡ c.conn-2-1.given.0 = search rules in
    let inserts = rw c.transaction-tx.ensures.begun at c.in_ok-id.ensures.placed in
    rw same at (wrote (state g.S.Store c.args.conn.now) (state g.S.Store c.insert.new.tx.conn.now) (state g.S.Store end) c.args.key.now
    c.args.row.now c.commit.ensures.survives.clean
    c.in_ok-id.id inserts (λ clean. (c.in_ok-commit.ensures.ok clean).1))
