use Rattle.hb_club.specs.HallAnswers.{IsLobbyAnswer}
use Rattle.hb_house.proofs.ResultLemmas.{if_ok_both}
use Rattle.hb_desk.proofs.DeskLemmas.{lobby-turned}
use Rattle.hb_desk.proofs.GoesToLemmas.{lobby-took}
use Rattle.hb_desk.proofs.desks.enter.Goals as goal

pub returns-in-Ok-clause-ok : goal.returns-in-Ok-clause-ok
returns-in-Ok-clause-ok g c = if_ok_both c.write_reply.result c.write_reply.ensures.texts c.write_reply.ensures.left
    (λ left wrote is f stood unbound fit.
    let H = g.H.Hall in
    lobby-turned H.stands (H.house c.args.hall.now) (H.count c.args.hall.now) (H.alone c.args.hall.now) c.lobby.new.self f
    c.args.desk.now c.args.entry.now c.in-Ok.reply c.args.sent.now c.write_reply.new.sent left (c.in-Ok.ensures.ok f stood) unbound
    fit wrote is)

pub returns-in-Ok-clause-goes : goal.returns-in-Ok-clause-goes
returns-in-Ok-clause-goes g c = λ f stood.
    let H = g.H.Hall in
    lobby-took H.stands (H.alone c.args.hall.now) c.lobby.new.self c.args.entry.now (IsLobbyAnswer c.in-Ok.reply) f
    (c.in-Ok.ensures.ok f stood)
