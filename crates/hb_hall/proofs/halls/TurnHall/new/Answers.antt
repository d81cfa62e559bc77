use Rattle.std.proofs.Common.{ap, ◌∙◌}
use Rattle.hb_hall.specs.declared.guarded.GuardedLobby.{GuardedLobby}
use Rattle.hb_hall.specs.TurnFronts.{Places, house_of}
use Rattle.hb_hall.proofs.NewRoomsLemmas.{house-made, new-stands, new-unworn}
use Rattle.hb_hall.proofs.halls.TurnHall.new.Goals as goal

pub returns-clause-house : goal.returns-clause-house
returns-clause-house g c =
    let made : Places g.row.R.Denot = record { rooms = c.in_ok-rooms.rooms.items; lobby = c.in_ok-lobby.lobby } in
    let start = c.in_ok-lobby.ensures.start in
    house-made made c.args.shoe.now c.args.run (ap (λ (m : GuardedLobby). m.shoe.value) start ∙ c.of.ensures)
    (ap (λ (m : GuardedLobby). m.run) start)

pub returns-clause-empty : goal.returns-clause-empty
returns-clause-empty g c =
    let R = g.R.RoomMachine in
    let made : Places g.row.R.Denot = record { rooms = c.in_ok-rooms.rooms.items; lobby = c.in_ok-lobby.lobby } in
    let start = c.in_ok-lobby.ensures.start in
    let house = house-made made c.args.shoe.now c.args.run (ap (λ (m : GuardedLobby). m.shoe.value) start ∙ c.of.ensures)
    (ap (λ (m : GuardedLobby). m.run) start) in
    new-stands R.site R.stands made (c.in_ok-rooms.ensures.new (house_of made) house)
    (ap (λ (m : GuardedLobby). m.lobby) start ∙ c.new.ensures) c.in_ok-lobby.ensures.pass

pub returns-clause-unworn : goal.returns-clause-unworn
returns-clause-unworn g c =
    let R = g.R.RoomMachine in
    let made : Places g.row.R.Denot = record { rooms = c.in_ok-rooms.rooms.items; lobby = c.in_ok-lobby.lobby } in
    let start = c.in_ok-lobby.ensures.start in
    let house = house-made made c.args.shoe.now c.args.run (ap (λ (m : GuardedLobby). m.shoe.value) start ∙ c.of.ensures)
    (ap (λ (m : GuardedLobby). m.run) start) in
    new-unworn R.site R.stands (house_of made) made (c.in_ok-rooms.ensures.new (house_of made) house) c.in_ok-lobby.ensures.pass
