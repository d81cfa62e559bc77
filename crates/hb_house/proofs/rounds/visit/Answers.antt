use Rattle.std.proofs.Common.{ap}
use Rattle.hb_club.specs.Fronts.{site_of}
use Rattle.hb_house.specs.KeeperSteps.{Tells}
use Rattle.hb_house.proofs.ResultLemmas.{if_err, on_ok}
use Rattle.hb_house.proofs.RoundLemmas.{round-stopped, rounded}
use Rattle.hb_house.proofs.rounds.visit.Goals as goal

pub returns-in-Ok-clause-ok : goal.returns-in-Ok-clause-ok
returns-in-Ok-clause-ok g c = on_ok c.settle.result (λ settles f k stood told sure.
    let H = g.H.Hall in
    let K = g.K.Keeper in
    rounded H.stands c.todo.new.self (H.stands c.settle.new.hall) (Tells (K.tells c.args.keeper.now) (K.plan c.args.keeper.now))
    (Tells (K.tells c.settle.new.keeper) (K.plan c.settle.new.keeper)) (K.is_sure c.settle.new.keeper) (H.alone c.args.hall.now)
    (H.alone c.todo.new.self) (site_of (H.house c.args.hall.now) c.args.room) (site_of (H.house c.todo.new.self) c.args.room)
    c.args.room c.args.moment c.in-Ok.todo f k c.args.report.now c.settle.new.report (c.in-Ok.ensures.ok f stood) told sure
    c.in-Ok.ensures.alone (ap (λ h. site_of h c.args.room) c.in-Ok.ensures.house) settles) c.settle.ensures.ok

pub returns-in-Ok-clause-err : goal.returns-in-Ok-clause-err
returns-in-Ok-clause-err g c = if_err c.settle.result (λ why settles f k stood told sure.
    let H = g.H.Hall in
    let K = g.K.Keeper in
    round-stopped H.stands c.todo.new.self (H.stands c.settle.new.hall)
    (Tells (K.tells c.args.keeper.now) (K.plan c.args.keeper.now))
    (Tells (K.tells c.settle.new.keeper) (K.plan c.settle.new.keeper)) (K.is_sure c.settle.new.keeper) (H.alone c.args.hall.now)
    (H.alone c.todo.new.self) (site_of (H.house c.args.hall.now) c.args.room) (site_of (H.house c.todo.new.self) c.args.room)
    c.args.room c.args.moment c.in-Ok.todo why f k c.args.report.now c.settle.new.report (c.in-Ok.ensures.ok f stood) told sure
    c.in-Ok.ensures.alone (ap (λ h. site_of h c.args.room) c.in-Ok.ensures.house) settles) c.settle.ensures.err
