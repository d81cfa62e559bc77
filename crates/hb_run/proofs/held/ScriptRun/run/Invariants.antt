use Rattle.std.proofs.Common.{◌≡◌, ◌≤◌, IsTrue, take}
use Rattle.std.specs.Prelude.{◌⊎◌}
use Rattle.hb_io.specs.Causes.{Rose}
use Rattle.hb_house.specs.KeeperSteps.{Tells}
use Rattle.hb_run.specs.HeldRuns.{FromEach, IsAt, has_failed}
use Rattle.hb_run.specs.ScriptRuns.{RunsAll}
use Rattle.hb_run.proofs.held.ScriptRun.run.Given as goal

abbrev pub invariant-loop-line : goal.invariant-loop-line
invariant-loop-line g l = record {
  runs : FromEach (IsAt (g.H.Hall.stands l.fn.hall) (Tells (g.K.Keeper.tells l.fn.keeper) (g.K.Keeper.plan l.fn.keeper))
      (g.H.Hall.house l.fn.hall) l.fn.self)
      (g.K.Keeper.is_sure l.keeper)
      (λ s. RunsAll (IsAt (g.H.Hall.stands l.hall) (Tells (g.K.Keeper.tells l.keeper) (g.K.Keeper.plan l.keeper))
      (g.H.Hall.house l.fn.hall) l.self)
      (g.H.Hall.house l.fn.hall) (g.H.Hall.count l.fn.hall) (g.H.Hall.alone l.fn.hall) (take l.line-index l.lines) s
      (g.O.Sink.held l.fn.out) (g.O.Sink.held l.out));
  sure : g.K.Keeper.is_sure l.keeper → g.K.Keeper.is_sure l.fn.keeper;
  later : g.K.Keeper.faults l.fn.keeper ≤ g.K.Keeper.faults l.keeper;
  fault : IsTrue (has_failed l.self) → IsTrue (has_failed l.fn.self)
      ⊎ Rose (g.K.Keeper.faults l.fn.keeper) (g.K.Keeper.faults l.keeper);
  same : g.O.Sink.faults l.out ≡ g.O.Sink.faults l.fn.out;
  house : g.H.Hall.house l.hall ≡ g.H.Hall.house l.fn.hall;
  alone : g.H.Hall.alone l.hall ≡ g.H.Hall.alone l.fn.hall;
  count : g.H.Hall.count l.hall ≡ g.H.Hall.count l.fn.hall;
}
