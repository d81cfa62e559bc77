use Rattle.hb_house.proofs.ResultLemmas.{on_err}
use Rattle.hb_house.proofs.RoomMachineLemmas.{same-facts-stands}
use Rattle.hb_house.proofs.rooms.RoomRoomMachine.note.Goals as goal

pub returns-clause-err : goal.returns-clause-err
returns-clause-err c = on_err c.note.result (same-facts-stands c.args.self.now c.note.new.self) c.note.ensures.err
