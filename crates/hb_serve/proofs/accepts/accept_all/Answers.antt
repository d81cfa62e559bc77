use Rattle.std.proofs.Common.{◌+◌, None, Some, refl, length, arith, rules, ◌∙◌}
use Rattle.hb_house.specs.KeeperSteps.{Telling, Tells}
use Rattle.hb_serve.proofs.ClerkLemmas.{no-word, word-later}
use Rattle.hb_serve.proofs.ClockLemmas.{from-first}
use Rattle.hb_serve.proofs.CountLemmas.{counts-grow, failed-rose, keeps-trans}
use Rattle.hb_serve.proofs.FrontsLemmas.{comes-kept, comes-trans, sure-back, sure-before}
use Rattle.hb_serve.proofs.accepts.accept_all.Goals as goal

pub returns-in-Some-admit-clause-begun : goal.returns-in-Some-admit-clause-begun
returns-in-Some-admit-clause-begun g c f stood clones =
    let K = g.K.Keeper in
    let coming = g.C.Clock.coming in
    let i = c.loop.invariant in
    let untold : Telling = record { content = None; plan = K.plan c.args.keeper.now } in
    let came = i.comes f untold stood (tt, refl) tt in
    let begun = rw (i.house, i.count) at (c.admit.ensures.begun came.after (coming c.args.clock.now) came.stands_for
    (i.clock (coming c.args.clock.now) (from-first (coming c.args.clock.now))) clones) in
    begun (i.begun f stood clones)

pub returns-in-Some-admit-clause-houses : goal.returns-in-Some-admit-clause-houses
returns-in-Some-admit-clause-houses g c =
    let i = c.loop.invariant in
    let houses = rw i.house at c.admit.ensures.houses in
    houses i.houses

pub returns-in-Some-admit-clause-turned : goal.returns-in-Some-admit-clause-turned
returns-in-Some-admit-clause-turned g c = c.admit.ensures.turned (g.P.Spawner.faults c.args.spawner.now) c.loop.invariant.turned

pub returns-in-Some-look_after-clause-begun : goal.returns-in-Some-look_after-clause-begun
returns-in-Some-look_after-clause-begun g c f stood clones =
    let K = g.K.Keeper in
    let coming = g.C.Clock.coming in
    let i = c.loop.invariant in
    let untold : Telling = record { content = None; plan = K.plan c.args.keeper.now } in
    let came = i.comes f untold stood (tt, refl) tt in
    let begun = rw (i.house, i.count) at (c.admit.ensures.begun came.after (coming c.args.clock.now) came.stands_for
    (i.clock (coming c.args.clock.now) (from-first (coming c.args.clock.now))) clones) in
    begun (i.begun f stood clones)

pub returns-in-Some-look_after-clause-houses : goal.returns-in-Some-look_after-clause-houses
returns-in-Some-look_after-clause-houses g c =
    let i = c.loop.invariant in
    let houses = rw i.house at c.admit.ensures.houses in
    houses i.houses

pub returns-in-Some-look_after-clause-turned : goal.returns-in-Some-look_after-clause-turned
returns-in-Some-look_after-clause-turned g c = c.admit.ensures.turned (g.P.Spawner.faults c.args.spawner.now) c.loop.invariant.turned

pub returns-in-Some-admit-clause-comes : goal.returns-in-Some-admit-clause-comes
returns-in-Some-admit-clause-comes g c f k stood told sure =
    let H = g.H.Hall in
    let K = g.K.Keeper in
    comes-kept (H.stands c.loop.hall) (H.stands c.admit.new.hall) (Tells (K.tells c.loop.keeper) (K.plan c.loop.keeper))
    (H.house c.args.hall.now) f k c.admit.ensures.same (c.loop.invariant.comes f k stood told sure)

pub returns-in-Some-look_after-clause-comes : goal.returns-in-Some-look_after-clause-comes
returns-in-Some-look_after-clause-comes g c f k stood told sure =
    let H = g.H.Hall in
    let K = g.K.Keeper in
    let i = c.loop.invariant in
    let house = H.house c.args.hall.now in
    let before = Tells (K.tells c.loop.keeper) (K.plan c.loop.keeper) in
    let came = comes-kept (H.stands c.loop.hall) (H.stands c.admit.new.hall) before house f k c.admit.ensures.same
    (i.comes f k stood told (sure-back k (K.is_sure c.look_after.new.keeper) (K.is_sure c.loop.keeper)
    c.look_after.ensures.sure sure)) in
    comes-trans (H.stands c.admit.new.hall) (H.stands c.look_after.new.hall) before
    (Tells (K.tells c.look_after.new.keeper) (K.plan c.look_after.new.keeper)) (K.is_sure c.look_after.new.keeper) house f k came
    sure (rw (c.admit.ensures.house ∙ i.house) at c.look_after.ensures.comes)

pub returns-in-Some-admit-clause-stopped : goal.returns-in-Some-admit-clause-stopped
returns-in-Some-admit-clause-stopped g c f k stood told sure =
    let H = g.H.Hall in
    let old = c.args.hall.now in
    no-word (Some c.in-Some-admit.closing) (H.alone old) (H.house old) (H.count old) f k c.in-Some-admit.ensures.no_clerk

pub returns-in-Some-look_after-clause-stopped : goal.returns-in-Some-look_after-clause-stopped
returns-in-Some-look_after-clause-stopped g c f k stood told sure =
    let H = g.H.Hall in
    let K = g.K.Keeper in
    let i = c.loop.invariant in
    let old = c.args.hall.now in
    let before = Tells (K.tells c.loop.keeper) (K.plan c.loop.keeper) in
    let came = comes-kept (H.stands c.loop.hall) (H.stands c.admit.new.hall) before (H.house old) f k c.admit.ensures.same
    (i.comes f k stood told (sure-back k (K.is_sure c.look_after.new.keeper) (K.is_sure c.loop.keeper)
    c.look_after.ensures.sure sure)) in
    let stopped = rw (c.admit.ensures.alone ∙ i.alone, c.admit.ensures.house ∙ i.house, c.admit.ensures.count ∙ i.count) at
    c.in-Some-look_after.ensures.stopped in
    word-later (Some c.in-Some-look_after.closing) (H.stands c.admit.new.hall) before (H.alone old) (H.house old) (H.count old) f k came
    (stopped came.after came.keeper came.stands_for came.told
    (sure-before (K.is_sure c.look_after.new.keeper) k came.keeper came.known sure))

pub loop-preserved : goal.loop-preserved
loop-preserved g c =
    let H = g.H.Hall in
    let D = g.D.Door in
    let P = g.P.Spawner in
    let K = g.K.Keeper in
    let coming = g.C.Clock.coming in
    let i = c.loop.invariant in
    let a = c.in-None-admit.ensures in
    let e = c.look_after.ensures in
    let house = H.house c.args.hall.now in
    let before = Tells (K.tells c.loop.keeper) (K.plan c.loop.keeper) in
    record {
      iterator = search rules;
      begun = λ f stood clones.
          let untold : Telling = record { content = None; plan = K.plan c.args.keeper.now } in
          let came = i.comes f untold stood (tt, refl) tt in
          let begun = rw (i.house, i.count) at (c.admit.ensures.begun came.after (coming c.args.clock.now) came.stands_for
          (i.clock (coming c.args.clock.now) (from-first (coming c.args.clock.now))) clones) in
          begun (i.begun f stood clones);
      houses = (let houses = rw i.house at c.admit.ensures.houses in houses i.houses);
      comes = λ f k stood told sure.
          let came = comes-kept (H.stands c.loop.hall) (H.stands c.admit.new.hall) before house f k c.admit.ensures.same
          (i.comes f k stood told (sure-back k (K.is_sure c.look_after.new.keeper) (K.is_sure c.loop.keeper)
          c.look_after.ensures.sure sure)) in
          comes-trans (H.stands c.admit.new.hall) (H.stands c.look_after.new.hall) before
          (Tells (K.tells c.look_after.new.keeper) (K.plan c.look_after.new.keeper)) (K.is_sure c.look_after.new.keeper) house f k came
          sure (rw (c.admit.ensures.house ∙ i.house) at c.look_after.ensures.comes);
      sure = λ is. i.sure (e.sure is);
      later = omega (arith, i.later, e.later);
      failed = failed-rose c.look_after.new.failed c.loop.failed (K.faults c.args.keeper.now) (K.faults c.loop.keeper)
          (K.faults c.look_after.new.keeper) i.later e.later i.failed e.failed;
      kept = λ none. let both = e.kept none in both.1 ∙ i.kept both.0;
      links = counts-grow (length c.loop.tasks.items + c.loop.turned) (length c.admit.new.tasks.items + c.admit.new.turned)
          (D.given c.args.door.now) (D.given c.loop.door) (D.given c.admit.new.door) i.links (a.links (λ e. cc));
      closes = a.closes ∙ i.closes;
      faults = a.faults ∙ i.faults;
      back = keeps-trans (D.back c.args.door.now) (D.back c.loop.door) (D.back c.admit.new.door) i.back a.back;
      room = a.room i.room;
      started = counts-grow (length c.loop.tasks.items) (length c.admit.new.tasks.items) (P.started c.args.spawner.now)
          (P.started c.loop.spawner) (P.started c.admit.new.spawner) i.started a.started;
      turned = a.turned (P.faults c.args.spawner.now) i.turned;
      waited = keeps-trans (P.waited c.args.spawner.now) (P.waited c.loop.spawner) (P.waited c.admit.new.spawner) i.waited a.waited;
      clock = λ from is. e.clock from (i.clock from is);
      house = e.house ∙ (c.admit.ensures.house ∙ i.house);
      count = e.count ∙ (c.admit.ensures.count ∙ i.count);
      alone = e.alone ∙ (c.admit.ensures.alone ∙ i.alone);
    }
