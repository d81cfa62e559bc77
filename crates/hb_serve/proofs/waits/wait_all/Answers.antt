use Rattle.std.proofs.Common.{◌≡◌, ◌+◌, ◌-◌, length, [], ◌∷◌, sym, ◌∙◌, subst, ap, arith, refl, length-append, rules}
use Rattle.hb_session.specs.Ends.{is_refused}
use Rattle.hb_serve.specs.Counting.{CountsMore, HasRoom}
use Rattle.hb_serve.specs.Explanations.{IsBegun}
use Rattle.hb_serve.specs.Waiting.{Waited}
use Rattle.hb_serve.proofs.CountLemmas.{counts-none, counts-trans, keeps-same, keeps-trans, room-less, room-now}
use Rattle.hb_serve.proofs.ListLemmas.{all-last}
use Rattle.hb_serve.proofs.WaitLemmas.{neither, waited-none, waited-one}
use Rattle.hb_serve.proofs.waits.wait_all.Goals as goal

pub loop-task-init : goal.loop-task-init
loop-task-init g c =
    let H = g.H.Hall in
    let D = g.D.Door in
    let L = g.D.Link.Link in
    let P = g.P.Spawner in
    let old = c.args.hall.now in
    let n = length c.args.tasks.items in
    let none : n - n ≡ 0 = omega arith in
    record {
      left = omega arith;
      house = refl;
      count = refl;
      alone = refl;
      houses = c.requires.house;
      room = c.requires.room;
      closes = refl;
      faults = refl;
      given = keeps-same (D.given c.args.door.now);
      tasks = subst (λ k. CountsMore k (P.waited c.args.spawner.now) (P.waited c.args.spawner.now)) (sym none)
          (counts-none (P.waited c.args.spawner.now) (P.waited c.args.spawner.now) (keeps-same (P.waited c.args.spawner.now)));
      started = keeps-same (P.started c.args.spawner.now);
      refusals = refl;
      waited = λ f start stood all. (
        all,
        waited-none H.stands H.house H.count H.alone L.stub_talk L.stub_faults (H.house old) (H.count old) start f old
            (n - n) (D.back c.args.door.now) none stood,
      );
    }

pub join-requires : goal.join-requires
join-requires g c =
    let H = g.H.Hall in
    let i = c.loop-task.invariant in
    let last = all-last (λ j. H.house j.hall ≡ H.house c.args.hall.now) c.pop.new.self.items c.in-Some.task
    (rw c.in-Some.ensures.items at i.houses) in
    c.wait-other.ensures.answer.same_house ∙ (last.1 ∙ sym i.house)

pub give_back-requires : goal.give_back-requires
give_back-requires g c =
    let D = g.D.Door in
    let i = c.loop-task.invariant in
    let rest = c.pop.new.self.items in
    let size = ap length c.in-Some.ensures.items ∙ length-append rest (c.in-Some.task ∷ []) in
    room-now (length rest) (D.given c.loop-task.door) (D.back c.loop-task.door)
    (subst (λ k. HasRoom k (D.given c.loop-task.door) (D.back c.loop-task.door)) size i.room)

pub loop-task-preserved : goal.loop-task-preserved
loop-task-preserved g c =
    let H = g.H.Hall in
    let D = g.D.Door in
    let L = g.D.Link.Link in
    let P = g.P.Spawner in
    let coming = g.C.Clock.coming in
    let i = c.loop-task.invariant in
    let first = c.args.hall.now in
    let task = c.in-Some.task in
    let rest = c.pop.new.self.items in
    let all = c.loop-task.tasks.items in
    let own = c.args.tasks.items in
    let items = c.in-Some.ensures.items in
    let size : length all ≡ length rest + 1 = ap length items ∙ length-append rest (task ∷ []) in
    let left = i.left in
    let done : length own - length all + 1 ≡ length own - length rest = omega (arith, size, left) in
    let houses = all-last (λ j. H.house j.hall ≡ H.house first) rest task (rw items at i.houses) in
    let room = subst (λ k. HasRoom k (D.given c.loop-task.door) (D.back c.loop-task.door)) size i.room in
    let back = c.give_back.ensures in
    let waits = c.wait-other.ensures in
    let joins = c.join.ensures in
    record {
      left = omega (arith, size, left);
      house = joins.house ∙ i.house;
      count = joins.count ∙ i.count;
      alone = joins.alone ∙ i.alone;
      houses = houses.0;
      room = room-less (length rest) c.wait-other.result.stub (D.given c.loop-task.door) (D.given c.give_back.new.self)
          (D.back c.loop-task.door) (D.back c.give_back.new.self) room back.given back.back;
      closes = back.closed ∙ i.closes;
      faults = back.cause ∙ i.faults;
      given = keeps-trans (D.given c.args.door.now) (D.given c.loop-task.door) (D.given c.give_back.new.self) i.given back.given;
      tasks = subst (λ k. CountsMore k (P.waited c.args.spawner.now) (P.waited c.wait-other.new.spawner)) done
          (counts-trans (length own - length all) 1 (P.waited c.args.spawner.now) (P.waited c.loop-task.spawner)
          (P.waited c.wait-other.new.spawner) i.tasks waits.waited);
      started = keeps-trans (P.started c.args.spawner.now) (P.started c.loop-task.spawner) (P.started c.wait-other.new.spawner)
          i.started waits.started;
      refusals = waits.cause ∙ i.refusals;
      waited = λ f start stood begun.
          let w = i.waited f start stood begun in
          let last = all-last (λ j. IsBegun H.stands H.house H.count H.alone (H.house first) (H.count first) start j.hall
          (L.talk j.link) (L.faults j.link) (coming j.clock)) rest task (rw items at w.0) in (
            last.0,
            subst (λ k. Waited (H.stands c.join.new.self) L.stub_talk L.stub_faults (H.house first) (H.count first) start f k
                c.refused_by-refused.result (D.back c.args.door.now) (D.back c.give_back.new.self)) done
                (waited-one H.stands H.house H.count H.alone L.stub_talk L.stub_faults (H.house first) (H.count first) start f
                c.loop-task.hall c.join.new.self task.hall c.wait-other.result.hall (L.talk task.link) (L.faults task.link)
                (coming task.clock) (length own - length all) c.loop-task.refused c.refused_by-refused.result
                c.wait-other.result.end c.wait-other.result.stub (D.back c.args.door.now) (D.back c.loop-task.door)
                (D.back c.give_back.new.self) w.1 last.1 waits.answer joins.lists back.back
                (λ is. neither (is_refused c.wait-other.result.end) c.loop-task.refused (sym c.refused_by-refused.ensures ∙ is))),
          );
    }

pub returns-clause-waited : goal.returns-clause-waited
returns-clause-waited g c = λ f start stood begun.
    let H = g.H.Hall in
    let D = g.D.Door in
    let L = g.D.Link.Link in
    let own = c.args.tasks.items in
    let all = c.loop-task.tasks.items in
    let w = c.loop-task.invariant.waited f start stood begun in
    let none : length all ≡ 0 = search rules in
    let done : length own - length all ≡ length own = omega (arith, none) in
    subst (λ k. Waited (H.stands c.loop-task.hall) L.stub_talk L.stub_faults (H.house c.args.hall.now)
    (H.count c.args.hall.now) start f k c.loop-task.refused (D.back c.args.door.now) (D.back c.loop-task.door)) done w.1

pub returns-clause-tasks : goal.returns-clause-tasks
returns-clause-tasks g c =
    let P = g.P.Spawner in
    let own = c.args.tasks.items in
    let all = c.loop-task.tasks.items in
    let none : length all ≡ 0 = search rules in
    let done : length own - length all ≡ length own = omega (arith, none) in
    subst (λ k. CountsMore k (P.waited c.args.spawner.now) (P.waited c.loop-task.spawner)) done c.loop-task.invariant.tasks
