use Rattle.std.proofs.Common.{◌≡◌, ◌≤◌, ◌∙◌, ◌∷◌, sym, length, arith}
use Rattle.hb_review.specs.Reviews.{reviewed}
use Rattle.hb_view.proofs.ReviewStepLemmas.{reviewed-go, reviewed-undo, turn_of-within}
use Rattle.hb_view.proofs.reviewed.stepped.Goals as goal

pub returns-then-step-eq0 : goal.returns-then-step-eq0
returns-then-step-eq0 c = λ taken shown are.
    let low : c.args.step.turn ≤ length c.args.whole.now.past = turn_of-within c.args.whole.now (c.args.step ∷ taken) are in
    (rw c.from.ensures at c.first_acts.ensures) low
    ∙ sym (reviewed-go c.args.whole.now taken c.args.step c.in-None.is (grind (arith, c.if-step-eq0.true)))

pub returns-else-step-eq0 : goal.returns-else-step-eq0
returns-else-step-eq0 c = λ taken shown are.
    let before : c.shown_or_whole-before.result ≡ reviewed c.args.whole.now taken = c.shown_or_whole-before.ensures taken shown in
    let undo = reviewed-undo c.args.whole.now taken c.args.step are c.in-None.is (λ e. grind (arith, c.if-step-eq0.false, e)) in
    (rw (c.from-else-step-eq0.ensures, c.from-else-step-eq0-2.ensures, before) at c.first_acts-else-step-eq0.ensures) undo.0
    ∙ sym undo.1
