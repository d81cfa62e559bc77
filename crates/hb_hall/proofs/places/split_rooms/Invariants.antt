use Rattle.std.proofs.Common.{◌≡◌, map, take}
use Rattle.hb_hall.specs.HouseHalls.{without_number}
use Rattle.hb_hall.proofs.places.split_rooms.Given as goal

abbrev pub invariant-loop-i : goal.invariant-loop-i
invariant-loop-i g l = (l.rooms.items ≡ l.fn.rooms.items)
    × (map without_number l.made.items ≡ take l.i (map without_number l.fn.rooms.items))
