use Rattle.hb_wire.proofs.PiecesLemmas.{on_ok, three-pieces}
use Rattle.hb_wire.proofs.events.push_touched.Goals as goal

pub returns : goal.returns
returns c = on_ok c.push_str.result _ _ _ _ c.push_str.ensures.bytes
    (three-pieces _ _ _ _ _ _ (rw c.from.ensures at c.in_ok-push_number.ensures) c.in_ok-push_orders.ensures)
