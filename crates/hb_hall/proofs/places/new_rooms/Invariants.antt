use Rattle.std.proofs.Common.{◌≡◌, length}
use Rattle.hb_club.specs.Fronts.{House}
use Rattle.hb_hall.specs.HouseHalls.{AreNew, IsMadeWith}
use Rattle.hb_hall.proofs.places.new_rooms.Given as goal

abbrev pub invariant-loop-room : goal.invariant-loop-room
invariant-loop-room g l = (length l.made.items ≡ l.room)
    × ((h : House) → IsMadeWith l.fn.shoe l.fn.run h → AreNew g.R.RoomMachine.site g.R.RoomMachine.stands h l.made.items)
