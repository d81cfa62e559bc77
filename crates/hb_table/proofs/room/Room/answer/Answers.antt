use Rattle.std.proofs.Common.{arith}
use Rattle.hb_table.proofs.RoomShowsLemmas.{answer-shows}
use Rattle.hb_table.proofs.room.Room.answer.Goals as goal

pub answered-requires-clause-few : goal.answered-requires-clause-few
answered-requires-clause-few c = omega (arith, c.in_ok-reply.ensures.head.few, c.in_ok-spare.ensures.few)

pub answered-requires-clause-empty : goal.answered-requires-clause-empty
answered-requires-clause-empty c = c.in_ok-spare.ensures.items

pub answered-requires-clause-room : goal.answered-requires-clause-room
answered-requires-clause-room c = omega (arith, c.in_ok-reply.ensures.head.few, c.in_ok-spare.ensures.room)

pub returns-clause-ok : goal.returns-clause-ok
returns-clause-ok c =
    answer-shows c.args.e.now c.args.seen.now c.in_ok-reply.reply c.args.self.now c.step.new.self c.in_ok-spare.spare c.answered.result
    c.in_ok-spare.ensures c.in_ok-reply.ensures.ok c.in_ok-reply.ensures.head c.step.ensures.site c.answered.ensures.same
    c.answered.ensures.facts
