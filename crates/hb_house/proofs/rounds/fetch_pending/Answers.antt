use Rattle.hb_club.specs.Fronts.{site_of}
use Rattle.hb_house.proofs.ResultLemmas.{if_err_all, on_ok}
use Rattle.hb_house.proofs.RoomStepLemmas.{get-refused, got-noted, loaded-refused}
use Rattle.hb_house.proofs.rounds.fetch_pending.Goals as goal

pub returns-in-Err-clause-err : goal.returns-in-Err-clause-err
returns-in-Err-clause-err g c = λ f k stood told sure.
    let H = g.H.Hall in
    let K = g.K.Keeper in
    get-refused (H.stands c.args.hall.now) (K.tells c.args.keeper.now) (K.tells c.get.new.self) (K.plan c.args.keeper.now)
    (K.plan c.get.new.self) (K.is_sure c.get.new.self) (H.alone c.args.hall.now) c.args.room c.args.load c.in-Some.load
    c.in-Err.e c.refused_by_keeper.result f k c.args.report.now c.in-Some.is c.refused_by_keeper.ensures
    c.in-Err.ensures.keeps c.in-Err.ensures.planned c.in-Err.ensures.plan told sure stood

pub returns-in-Ok-clause-ok : goal.returns-in-Ok-clause-ok
returns-in-Ok-clause-ok g c = on_ok c.note_loaded.result (λ noted f k stood told sure.
    let H = g.H.Hall in
    let K = g.K.Keeper in
    got-noted (H.stands c.note_loaded.new.hall) (K.tells c.args.keeper.now) (K.tells c.get.new.self) (K.plan c.args.keeper.now)
    (K.plan c.get.new.self) (K.is_sure c.get.new.self) (H.alone c.args.hall.now) (site_of (H.house c.args.hall.now) c.args.room)
    c.args.room c.args.moment c.args.load c.in-Some.load c.in-Ok.row f k c.args.report.now c.note_loaded.new.report
    c.in-Some.is c.in-Ok.ensures.keeps c.in-Ok.ensures.plan told sure (noted f stood)) c.note_loaded.ensures.ok

pub returns-in-Ok-clause-err : goal.returns-in-Ok-clause-err
returns-in-Ok-clause-err g c =
    if_err_all c.note_loaded.result c.note_loaded.ensures.err c.note_loaded.ensures.hall c.note_loaded.ensures.report
    (λ why nothing by same f k stood told sure.
    let H = g.H.Hall in
    let K = g.K.Keeper in
    loaded-refused H.stands c.note_loaded.new.hall (K.tells c.args.keeper.now) (K.tells c.get.new.self)
    (K.plan c.args.keeper.now) (K.plan c.get.new.self) (K.is_sure c.get.new.self) (H.alone c.args.hall.now) c.args.room
    c.args.load c.in-Some.load c.in-Ok.row why f k c.args.report.now c.note_loaded.new.report c.in-Some.is
    c.in-Ok.ensures.keeps c.in-Ok.ensures.plan told sure (nothing f stood) by same)
