use Rattle.hb_house.specs.KeeperSteps.{Tells}
use Rattle.hb_serve.proofs.ClockLemmas.{from-ticks}
use Rattle.hb_serve.proofs.TendLemmas.{tended-by}
use Rattle.hb_serve.proofs.tends.tend.Goals as goal

pub returns-clause-clock : goal.returns-clause-clock
returns-clause-clock g c from is =
    from-ticks from (g.C.Clock.coming c.args.clock.now) (g.C.Clock.coming c.now-moment.new.self) c.now-moment.result is c.now-moment.ensures

pub returns-clause-tended : goal.returns-clause-tended
returns-clause-tended g c =
    let H = g.H.Hall in
    let K = g.K.Keeper in
    let old = c.args.hall.now in
    tended-by c.clerk.result (H.stands old) (H.stands c.clerk.new.hall) (Tells (K.tells c.args.keeper.now) (K.plan c.args.keeper.now))
    (Tells (K.tells c.clerk.new.keeper) (K.plan c.clerk.new.keeper)) (K.is_sure c.clerk.new.keeper) (H.alone old) (H.house old)
    (H.count old) c.now-moment.result c.clerk.new.report c.clerk.ensures.ok c.clerk.ensures.err
