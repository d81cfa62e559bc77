use Rattle.std.proofs.Common.{sym, ◌∙◌}
use Rattle.hb_script.proofs.LineWords.{line-clerk, line-no_number, line-no_space, line-said, rest-is}
use Rattle.hb_script.proofs.lines.line.Goals as goal

pub returns-then-at-text-clause-is : goal.returns-then-at-text-clause-is
returns-then-at-text-clause-is c = line-no_space c.place-at.result _ c.place-at.ensures.is c.if-at-text.true

pub returns-in-None-clause-is : goal.returns-in-None-clause-is
returns-in-None-clause-is c =
    line-no_number c.place-at.result _ c.place-at.ensures.is c.if-at-text.false c.place-at.ensures.within c.in-None.ensures

pub returns-then-eq-clause-is : goal.returns-then-eq-clause-is
returns-then-eq-clause-is c = let r = rest-is c.place-at.result c.args.text.now in let h = rw (r, c.as_slice.ensures) at c.if-eq.ensures in
    line-clerk c.place-at.result c.in-Some.moment _ c.place-at.ensures.is c.if-at-text.false c.place-at.ensures.within c.in-Some.ensures
    (sym h)

pub returns-in-Ok-clause-is : goal.returns-in-Ok-clause-is
returns-in-Ok-clause-is c = let r = rest-is c.place-at.result c.args.text.now in let h = rw (r, c.as_slice.ensures) at c.if-eq.ensures in
    let s = rw r at c.in-Ok.ensures.is in
    s ∙ line-said c.place-at.result c.in-Some.moment _ c.place-at.ensures.is c.if-at-text.false c.place-at.ensures.within
    c.in-Some.ensures (sym h)
