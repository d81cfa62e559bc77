use Rattle.std.proofs.Common.{◌≡◌, sym, ◌∙◌, ◌+◌, ◌++◌, ◌∷◌, [], arith, drop, length-drop, List, ℕ}
use Rattle.hb_script.specs.ScriptGrammar.{read_lines}
use Rattle.std.proofs.lemmas.List.Elements.{All-push}
use Rattle.hb_talk.specs.Scripts.{HasConnection}
use Rattle.hb_script.specs.ScriptLines.{lines_of}
use Rattle.hb_script.specs.ScriptReading.{lines_behind}
use Rattle.hb_script.proofs.FurtherLines.{line-bad, line-more, tail-is, tail-low, tail_after}
use Rattle.hb_script.proofs.texts.further.Goals as goal

pub returns-in-Ok-None-clause-err : goal.returns-in-Ok-None-clause-err
returns-in-Ok-None-clause-err c =
    let r = tail-is c.loop-at.at c.args.bytes.now in
    let e = rw r at c.place-end.ensures.is in
    let n = rw r at c.in-Ok-None.ensures.is in
    line-bad c.args.first c.loop-at.number c.place-end.result c.args.bytes.now (drop c.loop-at.at c.args.bytes.now) c.loop-at.lines
    (tail-low _ _ c.loop-at-test.true) e c.loop-at.invariant.so (sym c.in-Ok-None.field-0-is ∙ n)

pub loop-at-preserved : goal.loop-at-preserved
loop-at-preserved c =
    let r = tail-is c.loop-at.at c.args.bytes.now in
    let e = rw r at c.place-end.ensures.is in
    let w = rw r at c.place-end.ensures.within in
    let n = rw r at c.in-Ok-Some.ensures.is in
    let m = line-more c.args.first c.loop-at.number c.place-end.result c.args.bytes.now (drop c.loop-at.at c.args.bytes.now)
    c.loop-at.lines c.in-Ok-Some.said (tail-low _ _ c.loop-at-test.true) e c.loop-at.invariant.so (sym c.in-Ok-Some.field-0-is ∙ n) in
    let p = c.in-Ok.ensures.ok in
    let d = length-drop c.loop-at.at c.args.bytes.now in
    record {
      within = omega (arith, w, d, c.loop-at-test.true);
      number = omega (arith, c.loop-at.invariant.number);
      conns = rw p (All-push HasConnection c.loop-at.lines c.in-Ok-Some.said c.loop-at.invariant.conns (rw c.in-Ok-Some.field-0-is at
          c.in-Ok-Some.ensures.conn));
      so = rw p (tail_after c.loop-at.at c.place-end.result c.args.bytes.now (λ (l : List ℕ). read_lines c.args.first (lines_of
          c.args.bytes.now) ≡ lines_behind (c.loop-at.lines ++ c.in-Ok-Some.said ∷ []) (read_lines (c.loop-at.number + 1) (lines_of l))) m);
    }
