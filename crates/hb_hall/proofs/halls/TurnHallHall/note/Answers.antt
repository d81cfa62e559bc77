use Rattle.std.proofs.Common.{◌≡◌, subst}
use Rattle.hb_club.specs.Fronts.{site_of}
use Rattle.hb_club.specs.HallAnswers.{IsNoted}
use Rattle.hb_club.specs.RoomEvents.{note_event}
use Rattle.hb_hall.specs.declared.guarded.RoomCall.TheVariants.{TakeNote}
use Rattle.hb_hall.specs.TurnFronts.{CallsRoom, house_of}
use Rattle.hb_hall.specs.TurnReplies.{noted_in}
use Rattle.hb_hall.proofs.RoomAnswersLemmas.{answer-err, answer-ok, note-nothing, note-right}
use Rattle.hb_hall.proofs.halls.TurnHallHall.note.Goals as goal

pub returns-clause-ok : goal.returns-clause-ok
returns-clause-ok g c =
    let R = g.R.RoomMachine in
    let old = c.args.self.now in
    let new = c.call_room.new.self in
    let room = c.args.room in
    let moment = c.args.moment in
    let note = c.args.note.now in
    let s = site_of (house_of old) room in
    let called = subst (λ x. CallsRoom R.site R.stands old room (TakeNote moment x) c.call_room.result new) c.in-Ok.ensures
    c.call_room.ensures in
    rw c.answer_to_note.ensures (answer-ok R.site R.stands old new room (TakeNote moment note) noted_in (note_event moment note)
    (λ a events. IsNoted s a events) (note-right s moment note) (note-nothing moment note) c.call_room.result called)

pub returns-clause-err : goal.returns-clause-err
returns-clause-err g c =
    let R = g.R.RoomMachine in
    let old = c.args.self.now in
    let new = c.call_room.new.self in
    let room = c.args.room in
    let moment = c.args.moment in
    let note = c.args.note.now in
    let s = site_of (house_of old) room in
    let called = subst (λ x. CallsRoom R.site R.stands old room (TakeNote moment x) c.call_room.result new) c.in-Ok.ensures
    c.call_room.ensures in
    rw c.answer_to_note.ensures (answer-err R.site R.stands old new room (TakeNote moment note) noted_in (note_event moment note)
    (λ a events. IsNoted s a events) (note-right s moment note) (note-nothing moment note) c.call_room.result called)
