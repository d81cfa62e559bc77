use Rattle.std.proofs.Common.{◌≡◌, length}
use Rattle.hb_house.specs.PlainHalls.{house_with}
use Rattle.hb_house.proofs.PlainStandsLemmas.{AreEmpty}
use Rattle.hb_house.proofs.plain.PlainHall.new.Given as goal

abbrev pub invariant-loop-room : goal.invariant-loop-room
invariant-loop-room g l = (length l.made.items ≡ l.room)
    × AreEmpty g.R.RoomMachine.site g.R.RoomMachine.stands (house_with l.fn.shoe l.fn.run) l.made.items
