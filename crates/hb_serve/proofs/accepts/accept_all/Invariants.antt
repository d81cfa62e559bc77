use Rattle.std.proofs.Common.{◌≡◌, ◌+◌, ◌≤◌, ℕ, false, length, IsTrue}
use Rattle.std.specs.List.{AllByRecursion}
use Rattle.std.specs.Prelude.{Option}
use Rattle.hb_io.specs.Causes.{Rose}
use Rattle.hb_club.specs.Fronts.{Fronts}
use Rattle.hb_edge.specs.Telling.{Keeps}
use Rattle.hb_house.specs.ClerkRounds.{AtEach}
use Rattle.hb_house.specs.KeeperSteps.{Tells}
use Rattle.hb_serve.specs.Comings.{ClonesTell, ComesTo, IsFrom}
use Rattle.hb_serve.specs.Counting.{AreRefused, CountsMore, HasRoom}
use Rattle.hb_serve.specs.Explanations.{IsBegun}
use Rattle.hb_serve.proofs.accepts.accept_all.Given as goal

abbrev pub invariant-loop : goal.invariant-loop
invariant-loop g l =
    let H = g.H.Hall in
    let D = g.D.Door in
    let L = g.D.Link.Link in
    let P = g.P.Spawner in
    let K = g.K.Keeper in
    let coming = g.C.Clock.coming in
    record {
      iterator : (goal.iterator-loop g).can_next l.iterator' × (goal.iterator-loop g).is_finite l.iterator';
      begun : (f : Fronts) → H.stands l.fn.hall f → ClonesTell g.C.Clone.is_clone coming
          → AllByRecursion (λ j. IsBegun H.stands H.house H.count H.alone (H.house l.fn.hall) (H.count l.fn.hall)
          (coming l.fn.clock) j.hall (L.talk j.link) (L.faults j.link) (coming j.clock)) l.tasks.items;
      houses : AllByRecursion (λ j. H.house j.hall ≡ H.house l.fn.hall) l.tasks.items;
      comes : AtEach (H.stands l.fn.hall) (Tells (K.tells l.fn.keeper) (K.plan l.fn.keeper)) (K.is_sure l.keeper)
          (λ f c. ComesTo (H.stands l.hall) (Tells (K.tells l.keeper) (K.plan l.keeper)) (H.house l.fn.hall) f c);
      sure : K.is_sure l.keeper → K.is_sure l.fn.keeper;
      later : K.faults l.fn.keeper ≤ K.faults l.keeper;
      failed : IsTrue l.failed → Rose (K.faults l.fn.keeper) (K.faults l.keeper);
      kept : l.failed ≡ false → K.faults l.keeper ≡ K.faults l.fn.keeper;
      links : CountsMore (length l.tasks.items + l.turned) (D.given l.fn.door) (D.given l.door);
      closes : D.closes l.door ≡ D.closes l.fn.door;
      faults : D.faults l.door ≡ D.faults l.fn.door;
      back : Keeps (D.back l.fn.door) (D.back l.door);
      room : HasRoom (length l.tasks.items) (D.given l.door) (D.back l.door);
      started : CountsMore (length l.tasks.items) (P.started l.fn.spawner) (P.started l.spawner);
      turned : AreRefused l.turned (P.faults l.fn.spawner) (P.faults l.spawner);
      waited : Keeps (P.waited l.fn.spawner) (P.waited l.spawner);
      clock : (from : Option (ℕ → ℕ)) → IsFrom from (coming l.fn.clock) → IsFrom from (coming l.clock);
      house : H.house l.hall ≡ H.house l.fn.hall;
      count : H.count l.hall ≡ H.count l.fn.hall;
      alone : H.alone l.hall ≡ H.alone l.fn.hall;
    }
