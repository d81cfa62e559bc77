use Rattle.std.proofs.Common.{◌≡◌, ◌≤◌}
use Rattle.hb_house.specs.ClerkRounds.{AllRounds, AtEach}
use Rattle.hb_house.specs.KeeperSteps.{Tells}
use Rattle.hb_house.proofs.clerks.clerk.Given as goal

abbrev pub invariant-loop-room : goal.invariant-loop-room
invariant-loop-room g l = record {
  house : g.H.Hall.house l.hall ≡ g.H.Hall.house l.fn.hall;
  alone : g.H.Hall.alone l.hall ≡ g.H.Hall.alone l.fn.hall;
  count : g.H.Hall.count l.hall ≡ g.H.Hall.count l.fn.hall;
  rooms : l.rooms ≡ g.H.Hall.count l.fn.hall;
  sure : g.K.Keeper.is_sure l.keeper → g.K.Keeper.is_sure l.fn.keeper;
  faults : g.K.Keeper.faults l.keeper ≡ g.K.Keeper.faults l.fn.keeper;
  saved : l.report.saved ≤ l.room;
  loaded : l.report.loaded ≤ l.room;
  missing : l.report.missing ≤ l.room;
  rounds : AtEach (g.H.Hall.stands l.fn.hall) (Tells (g.K.Keeper.tells l.fn.keeper) (g.K.Keeper.plan l.fn.keeper))
      (g.K.Keeper.is_sure l.keeper)
      (λ f c. AllRounds (g.H.Hall.stands l.hall) (Tells (g.K.Keeper.tells l.keeper) (g.K.Keeper.plan l.keeper))
      (g.H.Hall.alone l.fn.hall) (g.H.Hall.house l.fn.hall) l.room l.moment f c l.report);
}
