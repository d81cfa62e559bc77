use Rattle.std.proofs.Common.{◌≡◌, true, false, arith}
use Rattle.std.specs.Prelude.{is_some}
use Rattle.hb_rules.specs.Positions.{ended}
use Rattle.hb_view.proofs.ReviewTextLemmas.{reviewed-nowhere, reviewed-writes, view_review-none, view_review-runs}
use Rattle.hb_view.proofs.reviewed.write_reviewed.Goals as goal

pub returns-in_default : goal.returns-in_default
returns-in_default c = reviewed-nowhere c.args.a.now c.args.step.turn c.args.step.hypos c.args.step.action c.args.next.now c.args.out.now
    c.push_line.new.out (λ w is shows. view_review-none c.args.a.now w is shows c.in_default.is) c.in_ok-push_line.ensures

pub returns-then-is_none : goal.returns-then-is_none
returns-then-is_none c =
    let runs : is_some (ended c.in-Some.whole) ≡ false = grind (arith, c.ended.ensures, c.is_none.ensures, c.if-is_none.true) in
    reviewed-nowhere c.args.a.now c.args.step.turn c.args.step.hypos c.args.step.action c.args.next.now c.args.out.now c.push_line.new.out
    (λ w is shows. view_review-runs c.args.a.now w c.in-Some.whole is shows c.in-Some.is c.act_count-acts.ensures.played runs)
    c.in_ok-push_line.ensures

pub returns : goal.returns
returns c =
    let over : is_some (ended c.in-Some.whole) ≡ true = grind (arith, c.ended.ensures, c.is_none.ensures, c.if-is_none.false) in
    reviewed-writes c.args.a.now c.in-Some.whole c.stepped-shown.result c.args.step.turn c.args.step.hypos c.args.step.action
    c.args.next.now c.args.out.now c.push_standing.new.out c.in-Some.is c.act_count-acts.ensures.played over c.stepped-shown.ensures
    (rw (c.in_ok-push_line.ensures, c.none.ensures.bits) at c.in_ok-push_standing.ensures)
