use Rattle.std.proofs.Common.{take, drop, take-append-drop}
use Rattle.hb_session.proofs.TalkLemmas.{sends-cut}
use Rattle.hb_session.proofs.turns.send_all.Goals as goal

pub returns-in-Err-clause-sent : goal.returns-in-Err-clause-sent
returns-in-Err-clause-sent g c =
    let talk = g.L.Link.talk in
    let i = c.loop-i.i in
    let texts = c.args.texts.now in
    sends-cut (talk c.args.link.now) (talk c.loop-i.link) (talk c.send.new.self) texts (take i texts) (drop i texts)
    c.as_str.result.now c.in-Err.e (take-append-drop i texts) c.loop-i.invariant.sent c.in-Err.ensures.talk
