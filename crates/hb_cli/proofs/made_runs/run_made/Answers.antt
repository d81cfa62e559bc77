use Rattle.std.proofs.Common.{rules, ◌≡◌, ◌+◌, ◌∙◌, ℕ, ap, arith, subst, sym}
use Rattle.hb_house.specs.KeeperSteps.{Tells}
use Rattle.hb_house.proofs.KeeperStepsLemmas.{sure_before}
use Rattle.hb_run.specs.HeldRuns.{IsAt}
use Rattle.hb_run.specs.RunLines.{first_state}
use Rattle.hb_run.specs.ScriptRuns.{Runs}
use Rattle.hb_run.proofs.LinesGoOnLemmas.{runs-sure}
use Rattle.hb_script.specs.MadeScripts.{made_acts, made_lines, made_score, table_lines}
use Rattle.hb_cli.proofs.MadeRunsLemmas.{acts-more, joined, lines-more, score-more}
use Rattle.hb_cli.proofs.made_runs.run_made.Goals as goal

pub loop-done-init : goal.loop-done-init
loop-done-init g c = record {
  runs = λ f k stood told sure.
      let begun : IsAt (g.H.Hall.stands c.args.hall.now) (Tells (g.K.Keeper.tells c.args.keeper.now) (g.K.Keeper.plan c.args.keeper.now))
      (g.H.Hall.house c.args.hall.now) c.in_ok-run.run' (first_state f k) =
      record { outside = record { stands_for = stood; told = told }; inside = c.in_ok-run.ensures (g.H.Hall.house c.args.hall.now) f k } in
      rw (c.as_slice.ensures, c.in_ok-hellos.ensures.lines) at (c.in_ok-run_on.ensures.ok (first_state f k) begun sure);
  sure = search rules;
  house = search rules;
  alone = search rules;
  count = search rules;
  acts = search rules;
  few = search rules;
  score = search rules;
  low = search rules;
}

pub loop-done-preserved : goal.loop-done-preserved
loop-done-preserved g c =
    let i = c.loop-done.invariant in
    let first = c.args.hall.now in
    let K = g.K.Keeper in
    let H = g.H.Hall in
    let k : ℕ = c.loop-done.done in
    record {
      runs = λ f told tells stood sure.
          let p = i.runs f told tells stood (sure_before told (K.is_sure c.run_on-in-loop-done.new.keeper) (K.is_sure c.loop-done.keeper)
          c.run_on-in-loop-done.ensures.sure sure) in
          let still = runs-sure (K.is_sure c.run_on-in-loop-done.new.keeper) (H.house first) (H.count first) (H.alone first)
          (made_lines k c.args.seed) (first_state f told) p.state p.text p.runs sure in
          let next = rw (i.house, i.count, i.alone, c.as_slice-in-loop-done.ensures, c.in_ok-table.ensures.lines, c.from.ensures)
          at c.in_ok-run_on-2.ensures.ok in
          joined _ _ (H.house first) (H.count first) (H.alone first) (made_lines k c.args.seed) (table_lines c.args.seed (k + 1))
          (made_lines (k + 1) c.args.seed) (first_state f told) (lines-more k c.args.seed) p (next p.state p.left still);
      sure = search rules;
      house = search rules;
      alone = search rules;
      count = search rules;
      acts = ap (λ (n : ℕ). n + c.in_ok-table.table.acts) i.acts
          ∙ (ap (λ (n : ℕ). made_acts k c.args.seed + n) (rw c.from.ensures at c.in_ok-table.ensures.acts)
          ∙ sym (acts-more k c.args.seed));
      few = search rules;
      score = ap (λ (n : ℕ). n + c.from-score.result) i.score
          ∙ (ap (λ (n : ℕ). made_score k c.args.seed + n) (c.from-score.ensures ∙ (rw c.from.ensures at c.in_ok-table.ensures.score))
          ∙ sym (score-more k c.args.seed));
      low = search rules;
    }

pub returns : goal.returns
returns g c = λ f k stood told sure.
    let p = c.loop-done.invariant.runs f k stood told sure in
    let first = c.args.hall.now in
    let H = g.H.Hall in
    let all : c.loop-done.done ≡ c.args.tables = omega (arith, c.loop-done-test.false, c.loop-done.auto.done-end) in
    record {
      state = p.state;
      text = p.text;
      runs = subst (λ (n : ℕ). Runs (H.house first) (H.count first) (H.alone first) (made_lines n c.args.seed) (first_state f k) p.state
          p.text) all p.runs;
      bytes = c.bytes-bytes.ensures ∙ p.left.inside.bytes;
      acts = c.loop-done.invariant.acts ∙ ap (λ (n : ℕ). made_acts n c.args.seed) all;
      score = c.loop-done.invariant.score ∙ ap (λ (n : ℕ). made_score n c.args.seed) all;
    }
