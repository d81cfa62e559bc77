use Rattle.hb_table.specs.Changes.{due_in}
use Rattle.hb_table.proofs.HeadLemmas.{look-moves, same-moves, step-moves, timed-moves}
use Rattle.std.proofs.Common.{◌∙◌, false, rules, sym, true}
use Rattle.hb_club.specs.RoomEvents.{Call}
use Rattle.hb_table.proofs.StepLemmas.{look-steps}
use Rattle.hb_table.proofs.TimedLemmas.{timed-at}
use Rattle.hb_table.proofs.ViewLemmas.{if-ok, steps-view}
use Rattle.hb_table.proofs.room.Room.step.Goals as goal

pub returns-then-not-self-clause-view : goal.returns-then-not-self-clause-view
returns-then-not-self-clause-view c =
    if-ok c.open_next.result (λ reply is. steps-view c.args.self.now c.open_next.new.self c.args.e.now reply (is c.args.self.now
    c.reserve.ensures.same))
    c.open_next.ensures.ok

pub returns-then-is_none-clause-view : goal.returns-then-is_none-clause-view
returns-then-is_none-clause-view c =
    if-ok c.answer_start.result (λ reply is. steps-view c.args.self.now c.answer_start.new.self c.args.e.now reply
    (is c.args.self.now c.reserve.ensures.same)) c.answer_start.ensures.ok

pub returns-then-is_look-clause-ok : goal.returns-then-is_look-clause-ok
returns-then-is_look-clause-ok c =
    look-steps c.args.self.now c.apply_time.new.self c.args.e.now (sym c.is_look.ensures ∙ c.if-is_look.true)
    (timed-at (Call c.args.e.now) c.args.self.now c.reserve.new.self c.apply_time.new.self c.in_time.result c.in_time.ensures
    c.reserve.ensures.same
    c.apply_time.ensures.out)

pub returns-clause-ok : goal.returns-clause-ok
returns-clause-ok c =
    c.reply_to.ensures.ok c.args.self.now
    (timed-at (Call c.args.e.now) c.args.self.now c.reserve.new.self c.apply_time.new.self c.in_time.result c.in_time.ensures
    c.reserve.ensures.same
    c.apply_time.ensures.out)

pub returns-clause-view : goal.returns-clause-view
returns-clause-view c =
    steps-view c.args.self.now c.reply_to.new.self c.args.e.now c.reply_to.result
    (c.reply_to.ensures.ok c.args.self.now
    (timed-at (Call c.args.e.now) c.args.self.now c.reserve.new.self c.apply_time.new.self c.in_time.result c.in_time.ensures
    c.reserve.ensures.same
    c.apply_time.ensures.out))

pub returns-then-not-self-clause-head : goal.returns-then-not-self-clause-head
returns-then-not-self-clause-head c =
    step-moves true c.args.e.now c.args.self.now c.reserve.new.self c.open_next.new.self c.open_next.result c.reserve.ensures.same
    (search rules) c.open_next.ensures.head

pub returns-then-is_none-clause-head : goal.returns-then-is_none-clause-head
returns-then-is_none-clause-head c =
    step-moves false c.args.e.now c.args.self.now c.reserve.new.self c.answer_start.new.self c.answer_start.result c.reserve.ensures.same
    (search rules) c.answer_start.ensures.head

pub returns-then-is_look-clause-head : goal.returns-then-is_look-clause-head
returns-then-is_look-clause-head c =
    same-moves false c.args.e.now c.args.self.now c.reserve.new.self c.apply_time.new.self c.reserve.ensures.same (search rules)
    (look-moves (due_in c.reserve.new.self c.in_time.result) c.args.e.now c.reserve.new.self c.apply_time.new.self c.apply_time.ensures.out)

pub returns-clause-head : goal.returns-clause-head
returns-clause-head c =
    same-moves false c.args.e.now c.args.self.now c.reserve.new.self c.reply_to.new.self c.reserve.ensures.same (search rules)
    (timed-moves (due_in c.reserve.new.self c.in_time.result) c.args.e.now c.reserve.new.self c.apply_time.new.self c.reply_to.new.self
    c.apply_time.ensures.out c.reply_to.ensures.stays)
