use Rattle.std.proofs.lemmas.Result.{on_ok_weaker}
use Rattle.hb_view.proofs.StartTextLemmas.{opened-writes}
use Rattle.hb_view.proofs.started.write_opened.Goals as goal

pub returns : goal.returns
returns c = on_ok_weaker c.push_line.result
    (λ texts. opened-writes c.args.a.now c.args.host c.in-Some.head c.args.out.now c.push_line.new.out c.in-Some.is texts)
    (rw (c.in_ok-variant.ensures, c.as_str.ensures) at c.push_line.ensures)
