use Rattle.hb_view.proofs.PumpLemmas.{pump-all}
use Rattle.hb_view.proofs.pumps.pump.Goals as goal

pub returns-clause-ok : goal.returns-clause-ok
returns-clause-ok c = rw c.in_ok-append.ensures.ok
    (pump-all c.args.answered.now c.args.cursor.now c.write_items.new.next c.resumed-next.result c.args.out.now c.write_items.new.out
    c.resumed-next.ensures.played
    (rw c.same-next.ensures at c.resumed-next.ensures.is)
    (rw (c.same-next.ensures, c.new-texts.ensures) at c.in_ok-write_items.ensures))
