use Rattle.std.proofs.lemmas.Result.{on_ok_weaker}
use Rattle.hb_view.proofs.PauseTextLemmas.{paused-nowhere, paused-writes}
use Rattle.hb_view.proofs.paused.write_paused.Goals as goal

pub returns-in_default : goal.returns-in_default
returns-in_default c = on_ok_weaker c.push_line.result
    (λ texts. paused-nowhere c.args.a.now c.args.by c.args.moment c.args.next.now c.args.out.now c.push_line.new.out c.in_default.is texts)
    c.push_line.ensures

pub returns : goal.returns
returns c = paused-writes c.args.a.now c.in-Some.whole c.args.by c.args.moment c.args.next.now c.clock_after-clock.result c.args.out.now
    c.push_with_clock.new.out c.in-Some.is c.players.ensures.played
    (rw c.players.ensures.players at c.in_ok-push_with_clock.ensures) c.clock_after-clock.ensures
