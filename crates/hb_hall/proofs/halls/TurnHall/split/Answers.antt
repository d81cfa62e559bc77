use Rattle.std.proofs.Common.{ap, sym, ◌∙◌, subst}
use Rattle.hb_hall.specs.HouseHalls.{SameMarks}
use Rattle.hb_hall.specs.TurnFronts.{Places, TurnStands, house_of}
use Rattle.hb_hall.proofs.SplitsLemmas.{split-house, split-marks, split-stands}
use Rattle.hb_hall.proofs.halls.TurnHall.split.Goals as goal

pub returns-clause-house : goal.returns-clause-house
returns-clause-house g c =
    let old : Places g.row.R.Denot = record { rooms = c.self.inside.rooms.items; lobby = c.self.inside.lobby } in
    let made : Places g.row.R.Denot = record { rooms = c.in_ok-rooms.rooms.items; lobby = c.in_ok-lobby.lobby } in
    split-house old made c.in_ok-rooms.ensures.new c.in_ok-lobby.ensures.new ∙ ap house_of c.self.view_is

pub returns-clause-stands : goal.returns-clause-stands
returns-clause-stands g c = λ f stood.
    let R = g.R.RoomMachine in
    let old : Places g.row.R.Denot = record { rooms = c.self.inside.rooms.items; lobby = c.self.inside.lobby } in
    let made : Places g.row.R.Denot = record { rooms = c.in_ok-rooms.rooms.items; lobby = c.in_ok-lobby.lobby } in
    split-stands R.site R.stands old made c.in_ok-rooms.ensures.new c.in_ok-lobby.ensures.new f
    (subst (λ h. TurnStands R.site R.stands h f) (sym c.self.view_is) stood)

pub returns-clause-marks : goal.returns-clause-marks
returns-clause-marks g c =
    let old : Places g.row.R.Denot = record { rooms = c.self.inside.rooms.items; lobby = c.self.inside.lobby } in
    let made : Places g.row.R.Denot = record { rooms = c.in_ok-rooms.rooms.items; lobby = c.in_ok-lobby.lobby } in
    subst (λ o. SameMarks o made) c.self.view_is (split-marks old made c.in_ok-rooms.ensures.new c.in_ok-lobby.ensures.new)
