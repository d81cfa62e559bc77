use Rattle.sqlite.proofs.Callers.{memory_is_clean}
use Rattle.hb_sqlite.proofs.opened.KeeperSql+MemStore.open_memory.Goals as goal

pub returns-in_err-prepare-clause-version : goal.returns-in_err-prepare-clause-version
returns-in_err-prepare-clause-version c = λ n is.
    let opens = c.in_err-prepare.ensures.made (memory_is_clean c.prepare.new.conn) c.in-Ok.ensures.empty.2 in
    let given = rw is at c.from_residual.ensures.1 in
    opens.version n (cc)

pub returns-clause-sure : goal.returns-clause-sure
returns-clause-sure c =
    let clean = memory_is_clean c.prepare.new.conn in
    let opens = c.in_ok-prepare.ensures.made clean c.in-Ok.ensures.empty.2 in
    record { clean = clean; is_open = opens.ok.is_open }

pub returns-clause-tells : goal.returns-clause-tells
returns-clause-tells c = (c.in_ok-prepare.ensures.made (memory_is_clean c.prepare.new.conn) c.in-Ok.ensures.empty.2).ok.tells
