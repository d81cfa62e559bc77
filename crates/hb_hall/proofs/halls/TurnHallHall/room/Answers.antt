use Rattle.std.proofs.Common.{◌≡◌, subst}
use Rattle.hb_club.specs.Fronts.{site_of}
use Rattle.hb_club.specs.HallAnswers.{IsRoomAnswer}
use Rattle.hb_club.specs.RoomEvents.{Call}
use Rattle.hb_hall.specs.declared.guarded.RoomCall.TheVariants.{Enter}
use Rattle.hb_hall.specs.TurnFronts.{CallsRoom, house_of}
use Rattle.hb_hall.specs.TurnReplies.{entered_in}
use Rattle.hb_hall.proofs.RoomAnswersLemmas.{answer-err, answer-ok, entry-nothing, entry-right}
use Rattle.hb_hall.proofs.halls.TurnHallHall.room.Goals as goal

pub returns-clause-ok : goal.returns-clause-ok
returns-clause-ok g c =
    let R = g.R.RoomMachine in
    let old = c.args.self.now in
    let new = c.call_room.new.self in
    let room = c.args.room in
    let e = c.args.e.now in
    let seen = c.args.seen.now in
    let s = site_of (house_of old) room in
    let called = subst (λ x. CallsRoom R.site R.stands old room (Enter x seen) c.call_room.result new) c.in-Ok.ensures
    c.call_room.ensures in
    rw c.answer_to_entry.ensures (answer-ok R.site R.stands old new room (Enter e seen) entered_in (Call e)
    (λ a events. IsRoomAnswer s e seen a events) (entry-right s e seen) (entry-nothing e seen) c.call_room.result called)

pub returns-clause-err : goal.returns-clause-err
returns-clause-err g c =
    let R = g.R.RoomMachine in
    let old = c.args.self.now in
    let new = c.call_room.new.self in
    let room = c.args.room in
    let e = c.args.e.now in
    let seen = c.args.seen.now in
    let s = site_of (house_of old) room in
    let called = subst (λ x. CallsRoom R.site R.stands old room (Enter x seen) c.call_room.result new) c.in-Ok.ensures
    c.call_room.ensures in
    rw c.answer_to_entry.ensures (answer-err R.site R.stands old new room (Enter e seen) entered_in (Call e)
    (λ a events. IsRoomAnswer s e seen a events) (entry-right s e seen) (entry-nothing e seen) c.call_room.result called)
