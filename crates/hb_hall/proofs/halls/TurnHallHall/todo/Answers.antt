use Rattle.hb_club.specs.Fronts.{site_of}
use Rattle.hb_club.specs.HallAnswers.{IsTodo}
use Rattle.hb_club.specs.RoomEvents.{AsksTodo}
use Rattle.hb_hall.specs.declared.guarded.RoomCall.TheVariants.{AskTodo}
use Rattle.hb_hall.specs.TurnFronts.{house_of}
use Rattle.hb_hall.specs.TurnReplies.{owed_in}
use Rattle.hb_hall.proofs.RoomAnswersLemmas.{answer-err, answer-ok, question-nothing, question-right}
use Rattle.hb_hall.proofs.halls.TurnHallHall.todo.Goals as goal

pub returns-clause-ok : goal.returns-clause-ok
returns-clause-ok g c =
    let R = g.R.RoomMachine in
    let old = c.args.self.now in
    let moment = c.args.moment in
    let s = site_of (house_of old) c.args.room in
    rw c.answer_to_question.ensures (answer-ok R.site R.stands old c.call_room.new.self c.args.room (AskTodo moment) owed_in
    (AsksTodo moment) (λ a events. IsTodo s a events) (question-right s moment) (question-nothing moment) c.call_room.result
    c.call_room.ensures)

pub returns-clause-err : goal.returns-clause-err
returns-clause-err g c =
    let R = g.R.RoomMachine in
    let old = c.args.self.now in
    let moment = c.args.moment in
    let s = site_of (house_of old) c.args.room in
    rw c.answer_to_question.ensures (answer-err R.site R.stands old c.call_room.new.self c.args.room (AskTodo moment) owed_in
    (AsksTodo moment) (λ a events. IsTodo s a events) (question-right s moment) (question-nothing moment) c.call_room.result
    c.call_room.ensures)
