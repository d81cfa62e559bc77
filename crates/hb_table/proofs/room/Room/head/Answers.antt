use Rattle.std.proofs.Common.{◌∙◌}
use Rattle.hb_table.proofs.RoomShowsLemmas.{head_of-in}
use Rattle.hb_table.proofs.room.Room.head.Goals as goal

pub returns : goal.returns
returns c = λ events member stands. c.in_ok-head.ensures ∙ head_of-in c.args.self.now events member stands
