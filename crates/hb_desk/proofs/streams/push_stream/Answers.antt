use Rattle.std.proofs.Common.{◌≡◌, ◌++◌, ◌∷◌, [], sym, ◌∙◌, ap, subst, true, false, arith}
use Rattle.std.proofs.lemmas.Bool.Decides.{nat_tests}
use Rattle.std.specs.Prelude.{◌==◌}
use Rattle.hb_wire.specs.declared.lines.Role.{Role}
use Rattle.hb_wire.specs.declared.lines.WireLine.TheVariants as wire
use Rattle.hb_wire.specs.WireLine.{line_text}
use Rattle.hb_view.specs.declared.cursors.Cursor.{Cursor}
use Rattle.hb_desk.specs.AnswerSteps.{Follows, goes_on}
use Rattle.hb_desk.proofs.StreamLemmas.{wrote-anew, wrote-on}
use Rattle.hb_desk.proofs.streams.push_stream.Goals as goal

pub returns-then-is_marked : goal.returns-then-is_marked
returns-then-is_marked c = λ w follows.
    let a = c.args.answered.now in
    let on : goes_on c.args.marks c.args.room a ≡ true = grind (arith, c.is_marked.ensures, c.if-is_marked.true) in
    let some : (a.table == 0) ≡ false = grind (arith, nat_tests, c.if-answered-eq0.false) in
    let behind = subst (λ (k : Cursor). Follows w a c.args.marks c.args.room k) (sym c.same-left.ensures) follows in
    wrote-on w a c.args.marks c.args.room c.same-left.result c.pump.new.cursor c.args.sent.now c.pump.new.out on some
    c.in_ok-pump.ensures.ok behind

pub returns : goal.returns
returns c = λ w follows.
    let a = c.args.answered.now in
    let off : goes_on c.args.marks c.args.room a ≡ false = grind (arith, c.is_marked.ensures, c.if-is_marked.false) in
    let some : (a.table == 0) ≡ false = grind (arith, nat_tests, c.if-answered-eq0.false) in
    let line = c.in_ok-push_line.ensures
    ∙ ap (λ (r : Role). c.args.sent.now ++ line_text (wire.Viewer r c.args.room a.table) ∷ []) c.role.ensures in
    wrote-anew w a c.args.marks c.args.room c.args.cursor.now c.new-left.result c.pump-2.new.cursor c.args.sent.now
    c.push_line.new.out c.pump-2.new.out off some line c.new-left.ensures c.in_ok-pump-2.ensures.ok follows
