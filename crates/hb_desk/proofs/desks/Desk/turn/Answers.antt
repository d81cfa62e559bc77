use Rattle.hb_talk.specs.Errands.{asked}
use Rattle.hb_desk.proofs.DeskLemmas.{turned-behind}
use Rattle.hb_desk.proofs.desks.Desk.turn.Goals as goal

pub returns-in-Ok-append-clause-ok : goal.returns-in-Ok-append-clause-ok
returns-in-Ok-append-clause-ok g c = λ f stood fit.
    let H = g.H.Hall in
    let hall = c.args.hall.now in
    let d = c.args.self.now in
    turned-behind H.stands (H.house hall) (H.count hall) (H.alone hall) c.perform.new.hall f d c.in-Ok.task
    (asked d.session c.args.moment c.args.got.now) c.new-sent.result c.perform.new.sent c.args.texts.now c.append.new.self
    c.in_ok-left.left c.new-sent.ensures c.in-Ok.ensures.asked c.in-Ok-append.ensures.ok (c.in_ok-left.ensures.ok f stood fit)
