use Rattle.std.proofs.Common.{sym}
use Rattle.std.proofs.lemmas.Result.{on_ok_weaker}
use Rattle.hb_view.proofs.PumpLemmas.{line_alone-writes}
use Rattle.hb_view.proofs.pumps.write_item.Goals as goal

pub returns-in-Some : goal.returns-in-Some
returns-in-Some c = on_ok_weaker c.push_line.result
    (λ texts. line_alone-writes c.args.a.now c.args.item c.in-Some.line c.args.next.now c.args.out.now c.push_line.new.out
    (sym c.in-Some.ensures) texts) c.push_line.ensures
