use Rattle.std.proofs.Common.{sym, subst}
use Rattle.hb_hall.specs.TurnFronts.{Places, TurnStands}
use Rattle.hb_hall.proofs.JoinsLemmas.{join-lists}
use Rattle.hb_hall.proofs.halls.TurnHall.join.Goals as goal

pub returns-clause-lists : goal.returns-clause-lists
returns-clause-lists g c = λ own others stood other_stood.
    let R = g.R.RoomMachine in
    let old : Places g.row.R.Denot = record { rooms = c.self.inside.rooms.items; lobby = c.self.inside.lobby } in
    let other : Places g.row.R.Denot = record { rooms = c.other.inside.rooms.items; lobby = c.other.inside.lobby } in
    let new : Places g.row.R.Denot = record { rooms = c.join_rooms.new.rooms.items; lobby = c.join.new.self } in
    join-lists R.site R.stands old other new c.join_rooms.ensures.joined c.join.ensures own others
    (subst (λ h. TurnStands R.site R.stands h own) (sym c.self.view_is) stood)
    (subst (λ h. TurnStands R.site R.stands h others) (sym c.other.view_is) other_stood)
