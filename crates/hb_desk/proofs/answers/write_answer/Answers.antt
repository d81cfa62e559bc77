use Rattle.hb_club.specs.CommandKinds.{is_look}
use Rattle.hb_club.specs.RoomEvents.{Replied}
use Rattle.hb_talk.specs.Turns.{reply_lines}
use Rattle.hb_desk.proofs.StreamLemmas.{wrote-behind}
use Rattle.hb_desk.proofs.answers.write_answer.Goals as goal

pub returns-clause-texts : goal.returns-clause-texts
returns-clause-texts c = λ w follows.
    let e = c.args.entry.now in
    wrote-behind w (reply_lines (is_look e.command) e.number (Replied c.args.answered.now.reply)) c.args.desk.now.session.marks
    c.args.room c.args.sent.now c.push_reply.new.sent c.push_stream.new.sent _ c.in_ok-push_reply.ensures
    (c.in_ok-cursor.ensures w follows)
