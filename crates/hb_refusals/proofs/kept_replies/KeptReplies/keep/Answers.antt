use Rattle.std.specs.Prelude.{◌≡◌, true}
use Rattle.std.proofs.Common.{◌∙◌, sym}
use Rattle.hb_refusals.specs.KeptReplies.{is_first}
use Rattle.hb_refusals.proofs.KeptRepliesLemmas.{kept-first, kept-later}
use Rattle.hb_refusals.proofs.kept_replies.KeptReplies.keep.Goals as goal

pub returns-then-first-clause-keeps : goal.returns-then-first-clause-keeps
returns-then-first-clause-keeps c =
    let first : is_first c.args.self.now c.args.member.now c.args.number c.args.kept ≡ true =
    sym c.is_first-first.ensures ∙ c.if-first.true in
    kept-first c.args.member.now c.args.number c.args.kept c.args.self.now c.put.new.self first c.put.ensures.replies c.put.ensures.counts

pub returns-else-first-clause-keeps : goal.returns-else-first-clause-keeps
returns-else-first-clause-keeps c =
    kept-later c.args.member.now c.args.number c.args.kept c.args.self.now (sym c.is_first-first.ensures ∙ c.if-first.false)
