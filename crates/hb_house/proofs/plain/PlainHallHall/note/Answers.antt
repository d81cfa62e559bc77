use Rattle.std.proofs.Common.{◌-◌, ◌<◌, length, arith, refl}
use Rattle.std.proofs.lemmas.Option.{slice_get_read}
use Rattle.hb_club.specs.HallAnswers.{IsNoted}
use Rattle.hb_club.specs.RoomEvents.{note_event}
use Rattle.hb_house.specs.PlainHalls.{house_with}
use Rattle.hb_house.proofs.PlainStandsLemmas.{nothing-own, room-answers}
use Rattle.hb_house.proofs.plain.PlainHallHall.note.Goals as goal

pub returns-in-Ok-clause-ok : goal.returns-in-Ok-clause-ok
returns-in-Ok-clause-ok g c = λ f whole.
    let hall = c.args.self.now in
    let rooms = hall.rooms.items in
    let within : c.args.room - 1 < length rooms = omega arith in
    let was = slice_get_read rooms (length rooms) (c.args.room - 1) c.index_mut.result.now refl within c.index_mut.ensures.value in
    room-answers _ _ g.R.RoomMachine.site g.R.RoomMachine.stands (house_with hall.shoe.value hall.run) rooms hall.lobby f c.args.room
    c.index_mut.result.now c.note.new.self (note_event c.args.moment c.args.note.now) (λ s events. IsNoted s c.in-Ok.noted events)
    (λ g stands. stands) c.if-room-eq0.false whole was c.in-Ok.ensures.site c.in-Ok.ensures.ok

pub returns-in-Err-clause-err : goal.returns-in-Err-clause-err
returns-in-Err-clause-err g c = λ f whole.
    let hall = c.args.self.now in
    let rooms = hall.rooms.items in
    let within : c.args.room - 1 < length rooms = omega arith in
    let was = slice_get_read rooms (length rooms) (c.args.room - 1) c.index_mut.result.now refl within c.index_mut.ensures.value in
    nothing-own _ _ g.R.RoomMachine.site g.R.RoomMachine.stands (house_with hall.shoe.value hall.run) rooms hall.lobby f c.args.room
    c.index_mut.result.now c.note.new.self (λ g stands. stands) whole was c.in-Err.ensures.site c.in-Err.ensures.err
