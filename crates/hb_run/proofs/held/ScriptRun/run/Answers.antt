use Rattle.std.proofs.Common.{rules, add-one, length, refl, arith}
use Rattle.std.proofs.lemmas.Option.{slice_get_read}
use Rattle.hb_house.proofs.KeeperStepsLemmas.{sure_before}
use Rattle.hb_run.proofs.LinesGoOnLemmas.{runs-sure}
use Rattle.hb_run.proofs.RunsLemmas.{fault-more, line-more, stops-more, whole}
use Rattle.hb_run.proofs.held.ScriptRun.run.Goals as goal

pub returns-in-Err-clause-err : goal.returns-in-Err-clause-err
returns-in-Err-clause-err g c = λ s at sure.
    let K = g.K.Keeper in
    let H = g.H.Hall in
    let first = c.args.hall.now in
    let i = c.loop-line.invariant in
    let line = rw (i.house, i.count, i.alone) at c.in-Err.ensures.err in
    let p = i.runs s at (sure_before s.keeper (K.is_sure c.run_line.new.keeper)
    (K.is_sure c.loop-line.keeper) c.run_line.ensures.sure sure) in
    let still = runs-sure (K.is_sure c.run_line.new.keeper) (H.house first) (H.count first)
    (H.alone first) _ s p.state p.text p.runs sure in
    let is = slice_get_read c.args.lines.now (length c.args.lines.now) c.loop-line.line-index c.line-item.result refl
    c.loop-line-test.true c.line-item.is in
    stops-more _ _ (H.house first) (H.count first) (H.alone first) c.args.lines.now c.loop-line.line-index c.line-item.result s
    c.in-Err.e _ _ _
    is p (line p.state p.left still)

pub loop-line-preserved : goal.loop-line-preserved
loop-line-preserved g c =
    let K = g.K.Keeper in
    let H = g.H.Hall in
    let first = c.args.hall.now in
    let i = c.loop-line.invariant in
    record {
      runs = λ s at sure.
          let line = rw (i.house, i.count, i.alone) at c.in-Ok.ensures.ok in
          let p = i.runs s at (sure_before s.keeper (K.is_sure c.run_line.new.keeper)
          (K.is_sure c.loop-line.keeper) c.run_line.ensures.sure sure) in
          let still = runs-sure (K.is_sure c.run_line.new.keeper) (H.house first) (H.count first)
          (H.alone first) _ s p.state p.text p.runs sure in
          let is = slice_get_read c.args.lines.now (length c.args.lines.now) c.loop-line.line-index c.line-item.result refl
          c.loop-line-test.true c.line-item.is in
          rw add-one (line-more _ _ (H.house first) (H.count first) (H.alone first) c.args.lines.now c.loop-line.line-index
          c.line-item.result s _ _ _ is p (line p.state p.left still));
      sure = search rules;
      later = omega (arith, i.later, c.run_line.ensures.later);
      fault = fault-more _ _ _ _ _ _ i.fault c.run_line.ensures.fault i.later c.run_line.ensures.later;
      same = search rules;
      house = search rules;
      alone = search rules;
      count = search rules;
    }

pub returns-clause-ok : goal.returns-clause-ok
returns-clause-ok g c = λ s at sure.
    whole _ _ _ _ c.args.lines.now c.loop-line.line-index s _ _ (omega (arith, c.loop-line-test.false, c.loop-line.auto.line-index-end))
    (c.loop-line.invariant.runs s at sure)
