-- The game without its last act shows the step that takes the last hypothetical act back.
use Rattle.std.proofs.Common.{◌≡◌, length, arith}
use Rattle.hb_review.specs.Reviews.{hypotheticals}
use Rattle.hb_review.proofs.Walks.{kept-undo}
use Rattle.hb_review.proofs.review.Review.undo.Goals as goal

pub invariant_of-self : goal.invariant_of-self
invariant_of-self c =
    let many : c.hypos-hypos.result ≡ length (hypotheticals c.self.inside.steps) = rw (← c.self.view_is) at c.hypos-hypos.ensures.exact in
    rw (c.add.ensures, c.prefix-self-inside.ensures)
    (kept-undo c.self.inside.whole c.self.inside.shown c.self.inside.turn c.act_count.result
    c.hypos-hypos.result c.self.inside.steps c.self.invariant c.act_count.ensures.count many (omega arith))
