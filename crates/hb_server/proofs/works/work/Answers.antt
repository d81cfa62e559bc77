use denote.Param.Send.{sendable}
use Rattle.std.proofs.Common.{◌∙◌, length, rules}
use Rattle.std.proofs.Crossing.{crosses}
use Rattle.hb_club.specs.Fronts.{Fronts}
use Rattle.hb_hall.specs.TurnFronts.{TurnStands, house_of}
use Rattle.hb_house.specs.KeeperSteps.{Tells}
use Rattle.hb_serve.specs.Comings.{ClonesTell}
use Rattle.hb_hall.proofs.entrances.Entrance.TheSendSync.{the_send as entrance_send}
use Rattle.hb_hall.proofs.guarded.GuardedRoom.TheSendSync.{the_send as guarded_send}
use Rattle.hb_server.proofs.CrossingLemmas.{lobby_guard_send}
use Rattle.hb_server.proofs.ServingLemmas.{serves-house}
use Rattle.hb_server.proofs.works.work.Goals as goal

pub serve_all-requires-send-H : goal.serve_all-requires-send-H
serve_all-requires-send-H g c κs within =
    search (entrance_send, guarded_send, lobby_guard_send, sendable, crosses) depth 60 fits 5000

pub returns-clause-did : goal.returns-clause-did
returns-clause-did g c =
    let K = g.K.Keeper in
    let R = g.R.RoomMachine in
    let L = g.D.Link.Link in
    let C = g.C in
    let old = c.args.keeper.now in
    let mid = c.open_house.new.keeper in
    let last = c.serve_all.new.keeper in
    let e = c.serve_all.ensures in
    let opened = c.in-Ok.ensures in (
      (
        c.in-Some.command,
        c.in-Some.ensures.found,
        serves-house (Tells (K.tells old) (K.plan old)) (Tells (K.tells last) (K.plan last)) (K.tells mid) (K.plan mid)
            (TurnStands R.site R.stands c.in-Ok.hall) (TurnStands R.site R.stands c.serve_all.new.hall) (K.is_sure mid) (K.is_sure last)
            (ClonesTell C.Clone.is_clone C.Clock.coming) L.stub_talk L.stub_faults _ (house_of c.in-Ok.hall) (length c.in-Ok.hall.rooms)
            c.in-Some.command.rooms c.serve_all.result opened.count e.sure opened.opened opened.empty e.sessions e.stopped,
      ),
      record {
        links = e.links;
        closes = e.closes;
        door = e.faults;
        started = e.started;
        waited = e.waited;
        turned = e.turned;
        last = e.last;
        keeper_fault = λ why. rw opened.kept at (e.keeper_fault why);
        no_keeper_fault = λ worked answered. e.no_keeper_fault worked answered ∙ opened.kept;
      },
    )
