use Rattle.std.proofs.Common.{◌+◌, ◌-◌, ◌<◌, ◌≡◌, length, refl, arith, ap, sym, ◌∙◌, subst}
use Rattle.std.proofs.lemmas.Option.{slice_get_read}
use Rattle.hb_hall.specs.TurnFronts.{CallsRoom, Places}
use Rattle.hb_hall.proofs.CallsRoomLemmas.{calls-room, with_room}
use Rattle.hb_hall.proofs.PlaceLemmas.{place-index}
use Rattle.hb_hall.proofs.halls.TurnHall.call_room.Goals as goal

pub returns : goal.returns
returns g c =
    let R = g.R.RoomMachine in
    let rooms = c.self.inside.rooms.items in
    let room = c.args.room in
    let place = c.index_mut.result.now in
    let some = c.requires.0 in
    let most = c.requires.1 in
    let size = ap (λ h. length h.rooms) c.self.view_is in
    let within : room - 1 < length rooms = omega arith in
    let at : room ≡ room - 1 + 1 = omega arith in
    let was = slice_get_read rooms (length rooms) (room - 1) place refl within c.index_mut.ensures.value in
    let old : Places g.row.R.Denot = record { rooms = rooms; lobby = c.self.inside.lobby } in
    let done = calls-room R.site R.stands old room place c.call.new.self c.args.call.now c.call.result some
    (place-index rooms room (room - 1) at ∙ was) c.call.ensures in
    subst (λ o. CallsRoom R.site R.stands o room c.args.call.now c.call.result (with_room old room c.call.new.self)) c.self.view_is done
