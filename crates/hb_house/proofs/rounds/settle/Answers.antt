use Rattle.std.proofs.Common.{ap}
use Rattle.hb_club.specs.Fronts.{site_of}
use Rattle.hb_house.specs.KeeperSteps.{Tells}
use Rattle.hb_house.proofs.ResultLemmas.{if_err, on_ok}
use Rattle.hb_house.proofs.RoundLemmas.{load-stopped, save-stopped, settled}
use Rattle.hb_house.proofs.rounds.settle.Goals as goal

pub returns-in-Err-clause-err : goal.returns-in-Err-clause-err
returns-in-Err-clause-err g c = λ f k stood told sure.
    let H = g.H.Hall in
    let K = g.K.Keeper in
    save-stopped (H.stands c.put_due.new.hall) (Tells (K.tells c.put_due.new.keeper) (K.plan c.put_due.new.keeper))
    (H.alone c.args.hall.now) (site_of (H.house c.args.hall.now) c.args.room) c.args.room c.args.moment c.args.todo.now
    c.in-Err.e f k c.args.report.now c.put_due.new.report (c.in-Err.ensures.err f k stood told sure)

pub returns-in-Ok-clause-ok : goal.returns-in-Ok-clause-ok
returns-in-Ok-clause-ok g c = on_ok c.fetch_pending.result (λ loads f k stood told sure.
    let H = g.H.Hall in
    let K = g.K.Keeper in
    settled (H.stands c.put_due.new.hall) (H.stands c.fetch_pending.new.hall)
    (Tells (K.tells c.put_due.new.keeper) (K.plan c.put_due.new.keeper))
    (Tells (K.tells c.fetch_pending.new.keeper) (K.plan c.fetch_pending.new.keeper)) (K.is_sure c.put_due.new.keeper)
    (K.is_sure c.fetch_pending.new.keeper) (H.alone c.args.hall.now) (H.alone c.put_due.new.hall)
    (site_of (H.house c.args.hall.now) c.args.room) (site_of (H.house c.put_due.new.hall) c.args.room) c.args.room c.args.moment
    c.args.todo.now f k c.args.report.now c.put_due.new.report c.fetch_pending.new.report c.fetch_pending.ensures.sure sure
    (λ was. c.in-Ok.ensures.ok f k stood told was) c.put_due.ensures.alone
    (ap (λ h. site_of h c.args.room) c.put_due.ensures.house) loads) c.fetch_pending.ensures.ok

pub returns-in-Ok-clause-err : goal.returns-in-Ok-clause-err
returns-in-Ok-clause-err g c = if_err c.fetch_pending.result (λ why loads f k stood told sure.
    let H = g.H.Hall in
    let K = g.K.Keeper in
    load-stopped (H.stands c.put_due.new.hall) (H.stands c.fetch_pending.new.hall)
    (Tells (K.tells c.put_due.new.keeper) (K.plan c.put_due.new.keeper))
    (Tells (K.tells c.fetch_pending.new.keeper) (K.plan c.fetch_pending.new.keeper)) (K.is_sure c.put_due.new.keeper)
    (K.is_sure c.fetch_pending.new.keeper) (H.alone c.args.hall.now) (H.alone c.put_due.new.hall)
    (site_of (H.house c.args.hall.now) c.args.room) c.args.room c.args.moment c.args.todo.now why f k c.args.report.now
    c.put_due.new.report c.fetch_pending.new.report c.fetch_pending.ensures.sure sure
    (λ was. c.in-Ok.ensures.ok f k stood told was) c.put_due.ensures.alone loads) c.fetch_pending.ensures.err
