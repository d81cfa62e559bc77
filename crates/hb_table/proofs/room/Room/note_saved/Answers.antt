use Rattle.hb_club.specs.RoomEvents.{Notes, Saved}
use Rattle.hb_table.proofs.TimedLemmas.{timed-at}
use Rattle.hb_table.proofs.room.Room.note_saved.Goals as goal

pub returns-clause-ok : goal.returns-clause-ok
returns-clause-ok c = c.take_saved.ensures.done c.args.self.now
    (timed-at (Notes c.args.moment (Saved c.args.table c.args.id)) c.args.self.now c.reserve.new.self c.apply_time.new.self c.in_time.result
    c.in_time.ensures c.reserve.ensures.same c.apply_time.ensures.out) tt
