use Rattle.std.proofs.Common.{◌<◌, ◌∙◌, arith}
use Rattle.hb_house.specs.KeeperSteps.{Tells}
use Rattle.hb_house.proofs.RoundsLemmas.{next-round, stopped}
use Rattle.hb_house.proofs.clerks.clerk.Goals as goal

pub returns-in-Err-clause-err : goal.returns-in-Err-clause-err
returns-in-Err-clause-err g c = λ f k stood told sure.
    let H = g.H.Hall in
    let K = g.K.Keeper in
    let now = c.loop-room.invariant in
    let within : c.loop-room.room < H.count c.args.hall.now = omega (arith, c.loop-room-test.true, now.rooms) in
    stopped (H.stands c.loop-room.hall) (H.stands c.visit.new.hall) (Tells (K.tells c.loop-room.keeper) (K.plan c.loop-room.keeper))
    (Tells (K.tells c.visit.new.keeper) (K.plan c.visit.new.keeper)) (K.is_sure c.loop-room.keeper) (K.is_sure c.visit.new.keeper)
    (H.alone c.args.hall.now) (H.alone c.loop-room.hall) (H.house c.args.hall.now) (H.house c.loop-room.hall) c.loop-room.room
    (H.count c.args.hall.now) c.args.moment c.in-Err.e f k c.loop-room.report c.visit.new.report within c.visit.ensures.sure sure
    (λ was. now.rounds f k stood told was) now.alone now.house c.in-Err.ensures.err

pub loop-room-preserved : goal.loop-room-preserved
loop-room-preserved g c =
    let H = g.H.Hall in
    let K = g.K.Keeper in
    let now = c.loop-room.invariant in
    let counts = c.in-Ok.ensures.counts in
    record {
      house = c.in-Ok.ensures.house ∙ now.house;
      alone = c.in-Ok.ensures.alone ∙ now.alone;
      count = c.in-Ok.ensures.count ∙ now.count;
      rooms = now.rooms;
      sure = (λ is. now.sure (c.visit.ensures.sure is));
      faults = c.in-Ok.ensures.cause.kept (λ e. cc) ∙ now.faults;
      saved = omega (arith, counts.saved, now.saved);
      loaded = omega (arith, counts.loaded, now.loaded);
      missing = omega (arith, counts.missing, now.missing);
      rounds = (λ f k stood told sure.
          next-round (H.stands c.loop-room.hall) (H.stands c.visit.new.hall)
          (Tells (K.tells c.loop-room.keeper) (K.plan c.loop-room.keeper))
          (Tells (K.tells c.visit.new.keeper) (K.plan c.visit.new.keeper)) (K.is_sure c.loop-room.keeper)
          (K.is_sure c.visit.new.keeper) (H.alone c.args.hall.now) (H.alone c.loop-room.hall) (H.house c.args.hall.now)
          (H.house c.loop-room.hall) c.loop-room.room c.args.moment f k c.loop-room.report c.visit.new.report
          c.visit.ensures.sure sure (λ was. now.rounds f k stood told was) now.alone now.house c.in-Ok.ensures.ok);
    }
