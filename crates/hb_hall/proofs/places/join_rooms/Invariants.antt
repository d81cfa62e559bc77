use Rattle.std.proofs.Common.{length}
use Rattle.hb_hall.proofs.JoinsLemmas.{JoinedBehind}
use Rattle.hb_hall.proofs.places.join_rooms.Given as goal

abbrev pub invariant-loop-other : goal.invariant-loop-other
invariant-loop-other g l =
    JoinedBehind g.R.RoomMachine.site g.R.RoomMachine.stands l.fn.rooms.items l.fn.others.items l.rooms.items l.others.items

abbrev pub decreases-loop-other : goal.decreases-loop-other
decreases-loop-other g l = length l.others.items
