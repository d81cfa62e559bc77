use Rattle.std.proofs.Common.{◌≡◌, ◌≤◌, ◌*◌, None}
use Rattle.hb_house.specs.ClerkRounds.{AtEach}
use Rattle.hb_house.specs.KeeperSteps.{Tells}
use Rattle.hb_run.specs.HeldRuns.{IsAt}
use Rattle.hb_run.specs.RunLines.{first_state}
use Rattle.hb_run.specs.ScriptRuns.{RunsAll}
use Rattle.hb_script.specs.MadeScripts.{made_acts, made_lines, made_score}
use Rattle.hb_cli.proofs.made_runs.run_made.Given as goal

abbrev pub invariant-loop-done : goal.invariant-loop-done
invariant-loop-done g l = record {
  runs : AtEach (g.H.Hall.stands l.fn.hall) (Tells (g.K.Keeper.tells l.fn.keeper) (g.K.Keeper.plan l.fn.keeper))
      (g.K.Keeper.is_sure l.keeper)
      (λ f c. RunsAll (IsAt (g.H.Hall.stands l.hall) (Tells (g.K.Keeper.tells l.keeper) (g.K.Keeper.plan l.keeper))
      (g.H.Hall.house l.fn.hall) l.run)
      (g.H.Hall.house l.fn.hall) (g.H.Hall.count l.fn.hall) (g.H.Hall.alone l.fn.hall) (made_lines l.done l.seed)
      (first_state f c) None None);
  sure : g.K.Keeper.is_sure l.keeper → g.K.Keeper.is_sure l.fn.keeper;
  house : g.H.Hall.house l.hall ≡ g.H.Hall.house l.fn.hall;
  alone : g.H.Hall.alone l.hall ≡ g.H.Hall.alone l.fn.hall;
  count : g.H.Hall.count l.hall ≡ g.H.Hall.count l.fn.hall;
  acts : l.acts ≡ made_acts l.done l.seed;
  few : l.acts ≤ 160 * l.done;
  score : l.score ≡ made_score l.done l.seed;
  low : l.score ≤ 255 * l.done;
}
