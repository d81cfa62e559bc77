use Rattle.std.proofs.Common.{sym, ◌∙◌, take}
use Rattle.hb_script.specs.ScriptLines.{number_of}
use Rattle.hb_script.proofs.LineWords.{rest-is, said-got, said-no_number, said-no_space, said-zero, within-most}
use Rattle.hb_script.proofs.lines.said.Goals as goal

pub returns-then-at-rest-clause-is : goal.returns-then-at-rest-clause-is
returns-then-at-rest-clause-is c = said-no_space _ c.place-at.result _ c.place-at.ensures.is c.if-at-rest.true

pub returns-in-None-clause-is : goal.returns-in-None-clause-is
returns-in-None-clause-is c =
    said-no_number _ c.place-at.result _ c.place-at.ensures.is c.if-at-rest.false c.place-at.ensures.within c.in-None.ensures

pub returns-then-conn-eq0-clause-is : goal.returns-then-conn-eq0-clause-is
returns-then-conn-eq0-clause-is c =
    said-zero _ c.place-at.result c.in-Some.conn _ c.place-at.ensures.is c.if-at-rest.false c.place-at.ensures.within c.in-Some.ensures
    c.if-conn-eq0.true

pub returns-in-Ok-Some-clause-conn : goal.returns-in-Ok-Some-clause-conn
returns-in-Ok-Some-clause-conn c = within-most 0 256 c.in-Some.conn (number_of (take c.place-at.result c.args.rest.now)) c.in-Some.ensures

pub returns-in-Ok-Some-clause-is : goal.returns-in-Ok-Some-clause-is
returns-in-Ok-Some-clause-is c = let r = rest-is c.place-at.result c.args.rest.now in let h = rw r at c.in-Ok-Some.ensures in
    said-got _ c.place-at.result c.in-Some.conn _ _ c.place-at.ensures.is c.if-at-rest.false c.place-at.ensures.within c.in-Some.ensures
    c.if-conn-eq0.false (sym c.in-Ok-Some.field-0-is ∙ h)

pub returns-in-Ok-None-clause-is : goal.returns-in-Ok-None-clause-is
returns-in-Ok-None-clause-is c = let r = rest-is c.place-at.result c.args.rest.now in let h = rw r at c.in-Ok-None.ensures in
    said-got _ c.place-at.result c.in-Some.conn _ _ c.place-at.ensures.is c.if-at-rest.false c.place-at.ensures.within c.in-Some.ensures
    c.if-conn-eq0.false (sym c.in-Ok-None.field-0-is ∙ h)
