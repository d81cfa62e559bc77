use Rattle.std.proofs.Common.{◌≡◌, subst}
use Rattle.hb_hall.specs.Entrances.{CallsAt}
use Rattle.hb_hall.proofs.LobbyCallLemmas.{lobby-err, lobby-ok, lobby_turns}
use Rattle.hb_hall.proofs.halls.TurnHallHall.lobby.Goals as goal

pub returns-clause-ok : goal.returns-clause-ok
returns-clause-ok g c =
    let R = g.R.RoomMachine in
    let old = c.args.self.now in
    let new = c.call_lobby.new.self in
    let called = subst (λ x. CallsAt lobby_turns old.lobby x c.call_lobby.result new.lobby) c.in-Ok.ensures c.call_lobby.ensures.called in
    rw c.answer_to_name.ensures
    (lobby-ok R.site R.stands old new c.args.e.now c.call_lobby.ensures.rooms c.call_lobby.result called)

pub returns-clause-err : goal.returns-clause-err
returns-clause-err g c =
    let R = g.R.RoomMachine in
    let old = c.args.self.now in
    let new = c.call_lobby.new.self in
    let called = subst (λ x. CallsAt lobby_turns old.lobby x c.call_lobby.result new.lobby) c.in-Ok.ensures c.call_lobby.ensures.called in
    rw c.answer_to_name.ensures
    (lobby-err R.site R.stands old new c.args.e.now c.call_lobby.ensures.rooms c.call_lobby.result called)
