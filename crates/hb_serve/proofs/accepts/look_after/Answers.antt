use Rattle.hb_house.specs.declared.reports.ClerkError.TheVariants as clerk
use Rattle.hb_house.specs.KeeperSteps.{Tells}
use Rattle.hb_serve.proofs.ClerkLemmas.{stopped-now, tended-comes}
use Rattle.hb_serve.proofs.accepts.look_after.Goals as goal

pub returns-in-Err-KeeperFault-clause-comes : goal.returns-in-Err-KeeperFault-clause-comes
returns-in-Err-KeeperFault-clause-comes g c f k stood told sure =
    let H = g.H.Hall in
    let K = g.K.Keeper in
    let old = c.args.hall.now in
    tended-comes c.tend.result (H.stands c.tend.new.hall) (Tells (K.tells c.tend.new.keeper) (K.plan c.tend.new.keeper))
    (H.alone old) (H.house old) (H.count old) f k (c.tend.ensures.tended f k stood told sure)

pub returns-in-Err-KeyDiffers-clause-comes : goal.returns-in-Err-KeyDiffers-clause-comes
returns-in-Err-KeyDiffers-clause-comes g c f k stood told sure =
    let H = g.H.Hall in
    let K = g.K.Keeper in
    let old = c.args.hall.now in
    tended-comes c.tend.result (H.stands c.tend.new.hall) (Tells (K.tells c.tend.new.keeper) (K.plan c.tend.new.keeper))
    (H.alone old) (H.house old) (H.count old) f k (c.tend.ensures.tended f k stood told sure)

pub returns-in-Err-UsedUp-clause-comes : goal.returns-in-Err-UsedUp-clause-comes
returns-in-Err-UsedUp-clause-comes g c f k stood told sure =
    let H = g.H.Hall in
    let K = g.K.Keeper in
    let old = c.args.hall.now in
    tended-comes c.tend.result (H.stands c.tend.new.hall) (Tells (K.tells c.tend.new.keeper) (K.plan c.tend.new.keeper))
    (H.alone old) (H.house old) (H.count old) f k (c.tend.ensures.tended f k stood told sure)

pub returns-in-Err-NoMemory-clause-comes : goal.returns-in-Err-NoMemory-clause-comes
returns-in-Err-NoMemory-clause-comes g c f k stood told sure =
    let H = g.H.Hall in
    let K = g.K.Keeper in
    let old = c.args.hall.now in
    tended-comes c.tend.result (H.stands c.tend.new.hall) (Tells (K.tells c.tend.new.keeper) (K.plan c.tend.new.keeper))
    (H.alone old) (H.house old) (H.count old) f k (c.tend.ensures.tended f k stood told sure)

pub returns-in-Ok-clause-comes : goal.returns-in-Ok-clause-comes
returns-in-Ok-clause-comes g c f k stood told sure =
    let H = g.H.Hall in
    let K = g.K.Keeper in
    let old = c.args.hall.now in
    tended-comes c.tend.result (H.stands c.tend.new.hall) (Tells (K.tells c.tend.new.keeper) (K.plan c.tend.new.keeper))
    (H.alone old) (H.house old) (H.count old) f k (c.tend.ensures.tended f k stood told sure)

pub returns-in-Ok-2-clause-comes : goal.returns-in-Ok-2-clause-comes
returns-in-Ok-2-clause-comes g c f k stood told sure =
    let H = g.H.Hall in
    let K = g.K.Keeper in
    let old = c.args.hall.now in
    tended-comes c.tend.result (H.stands c.tend.new.hall) (Tells (K.tells c.tend.new.keeper) (K.plan c.tend.new.keeper))
    (H.alone old) (H.house old) (H.count old) f k (c.tend.ensures.tended f k stood told sure)

pub returns-in-Err-KeyDiffers-clause-stopped : goal.returns-in-Err-KeyDiffers-clause-stopped
returns-in-Err-KeyDiffers-clause-stopped g c f k stood told sure =
    let H = g.H.Hall in
    let K = g.K.Keeper in
    let old = c.args.hall.now in
    stopped-now (H.stands c.tend.new.hall) (Tells (K.tells c.tend.new.keeper) (K.plan c.tend.new.keeper)) (H.alone old) (H.house old)
    (H.count old) f k (clerk.KeyDiffers c.in-Err-KeyDiffers.id) (rw c.in-Err-KeyDiffers.field-0-is at (c.in-Err-KeyDiffers.ensures.tended f k stood told sure))

pub returns-in-Err-UsedUp-clause-stopped : goal.returns-in-Err-UsedUp-clause-stopped
returns-in-Err-UsedUp-clause-stopped g c f k stood told sure =
    let H = g.H.Hall in
    let K = g.K.Keeper in
    let old = c.args.hall.now in
    stopped-now (H.stands c.tend.new.hall) (Tells (K.tells c.tend.new.keeper) (K.plan c.tend.new.keeper)) (H.alone old) (H.house old)
    (H.count old) f k clerk.UsedUp (rw c.in-Err-UsedUp.field-0-is at (c.in-Err-UsedUp.ensures.tended f k stood told sure))
