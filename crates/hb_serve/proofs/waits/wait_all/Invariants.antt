use Rattle.std.proofs.Common.{◌≡◌, ◌-◌, ◌≤◌, ℕ, length}
use Rattle.std.specs.List.{AllByRecursion}
use Rattle.std.specs.Prelude.{Option}
use Rattle.hb_club.specs.Fronts.{Fronts}
use Rattle.hb_edge.specs.Telling.{Keeps}
use Rattle.hb_serve.specs.Counting.{CountsMore, HasRoom}
use Rattle.hb_serve.specs.Explanations.{IsBegun}
use Rattle.hb_serve.specs.Waiting.{Waited}
use Rattle.hb_serve.proofs.waits.wait_all.Given as goal

abbrev pub invariant-loop-task : goal.invariant-loop-task
invariant-loop-task g l =
    let H = g.H.Hall in
    let D = g.D.Door in
    let L = g.D.Link.Link in
    let P = g.P.Spawner in
    let done = length l.fn.tasks.items - length l.tasks.items in
    record {
      left : length l.tasks.items ≤ length l.fn.tasks.items;
      house : H.house l.hall ≡ H.house l.fn.hall;
      count : H.count l.hall ≡ H.count l.fn.hall;
      alone : H.alone l.hall ≡ H.alone l.fn.hall;
      houses : AllByRecursion (λ j. H.house j.hall ≡ H.house l.fn.hall) l.tasks.items;
      room : HasRoom (length l.tasks.items) (D.given l.door) (D.back l.door);
      closes : D.closes l.door ≡ D.closes l.fn.door;
      faults : D.faults l.door ≡ D.faults l.fn.door;
      given : Keeps (D.given l.fn.door) (D.given l.door);
      tasks : CountsMore done (P.waited l.fn.spawner) (P.waited l.spawner);
      started : Keeps (P.started l.fn.spawner) (P.started l.spawner);
      refusals : P.faults l.spawner ≡ P.faults l.fn.spawner;
      waited : (f : Fronts) (start : Option (ℕ → ℕ)) → H.stands l.fn.hall f
          → AllByRecursion (λ j. IsBegun H.stands H.house H.count H.alone (H.house l.fn.hall) (H.count l.fn.hall) start j.hall
          (L.talk j.link) (L.faults j.link) (g.C.Clock.coming j.clock)) l.fn.tasks.items
          → AllByRecursion (λ j. IsBegun H.stands H.house H.count H.alone (H.house l.fn.hall) (H.count l.fn.hall) start j.hall
          (L.talk j.link) (L.faults j.link) (g.C.Clock.coming j.clock)) l.tasks.items
          × Waited (H.stands l.hall) L.stub_talk L.stub_faults (H.house l.fn.hall) (H.count l.fn.hall) start f done l.refused
          (D.back l.fn.door) (D.back l.door);
    }

abbrev pub decreases-loop-task : goal.decreases-loop-task
decreases-loop-task g l = length l.tasks.items
