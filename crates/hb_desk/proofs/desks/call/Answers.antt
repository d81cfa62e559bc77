use Rattle.std.proofs.Common.{◌++◌, ◌∷◌, [], sym, ◌∙◌, subst, ap, List, ℕ, Err}
use Rattle.hb_club.specs.declared.answers.HallError.{HallError}
use Rattle.hb_club.specs.declared.answers.Seen.{Seen}
use Rattle.hb_club.specs.Fronts.{site_of}
use Rattle.hb_club.specs.HallAnswers.{IsRoomAnswer, RoomAnswers}
use Rattle.hb_club.specs.RoomEvents.{Call}
use Rattle.hb_house.proofs.ResultLemmas.{if_ok_both}
use Rattle.hb_talk.specs.declared.errands.Errand.TheVariants as errand
use Rattle.hb_desk.specs.declared.desks.Desk.{Desk}
use Rattle.hb_desk.specs.Desks.{DeskTurned}
use Rattle.hb_desk.proofs.DeskLemmas.{no-room-turned, room-turned}
use Rattle.hb_desk.proofs.GoesToLemmas.{room-took}
use Rattle.hb_desk.proofs.desks.call.Goals as goal

pub returns-in-Err-NoSuchRoom-clause-ok : goal.returns-in-Err-NoSuchRoom-clause-ok
returns-in-Err-NoSuchRoom-clause-ok g c = if_ok_both c.say.result c.say.ensures.texts c.say.ensures.left (λ left wrote is f stood named fit.
    let H = g.H.Hall in
    let house = H.house c.args.hall.now in
    let count = H.count c.args.hall.now in
    let alone = H.alone c.args.hall.now in
    let d = c.args.desk.now in
    let e = c.args.entry.now in
    let line = wrote ∙ ap (λ (l : List ℕ). c.args.sent.now ++ l ∷ []) c.denied.ensures in
    let missing = c.in-Err-NoSuchRoom.ensures.no_room.0 (ap (λ (x : HallError). Err x) c.in-Err-NoSuchRoom.field-0-is) in
    subst (λ (k : Desk). DeskTurned H.stands house count alone c.room.new.self f d (errand.Calls c.args.room e) c.args.sent.now
    c.say.new.sent k) (sym is)
    (no-room-turned H.stands house count alone c.room.new.self f d c.args.room e c.args.sent.now c.say.new.sent
    (c.in-Err-NoSuchRoom.ensures.err f stood) missing fit line))

pub returns-in-Ok-write_answer-clause-ok : goal.returns-in-Ok-write_answer-clause-ok
returns-in-Ok-write_answer-clause-ok g c = λ f stood named fit.
    let H = g.H.Hall in
    let house = H.house c.args.hall.now in
    let alone = H.alone c.args.hall.now in
    let e = c.args.entry.now in
    let P : Seen → Type 0 = λ seen. RoomAnswers H.stands alone c.room.new.self c.args.room (Call e)
    (IsRoomAnswer (site_of house c.args.room) e seen c.in-Ok.answered) f in
    room-turned H.stands house (H.count c.args.hall.now) alone c.room.new.self f c.args.desk.now c.args.room e c.in-Ok.answered
    c.args.sent.now c.write_answer.new.sent c.in-Ok-write_answer.left (subst P c.seen_at-seen.ensures (c.in-Ok.ensures.ok f stood))
    c.in-Ok.ensures.room named fit c.in-Ok-write_answer.ensures.texts c.in-Ok-write_answer.ensures.left

pub returns-in-Ok-write_answer-clause-goes : goal.returns-in-Ok-write_answer-clause-goes
returns-in-Ok-write_answer-clause-goes g c = λ f stood.
    let H = g.H.Hall in
    room-took H.stands (H.alone c.args.hall.now) c.room.new.self c.args.room (Call c.args.entry.now)
    (IsRoomAnswer (site_of (H.house c.args.hall.now) c.args.room) c.args.entry.now c.seen_at-seen.result c.in-Ok.answered) f
    (c.in-Ok.ensures.ok f stood)

pub returns-clause-goes : goal.returns-clause-goes
returns-clause-goes g c = λ f stood.
    let H = g.H.Hall in
    room-took H.stands (H.alone c.args.hall.now) c.room.new.self c.args.room (Call c.args.entry.now)
    (IsRoomAnswer (site_of (H.house c.args.hall.now) c.args.room) c.args.entry.now c.seen_at-seen.result c.in-Ok.answered) f
    (c.in-Ok.ensures.ok f stood)
