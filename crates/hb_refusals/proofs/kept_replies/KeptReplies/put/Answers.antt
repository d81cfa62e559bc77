use Rattle.hb_refusals.proofs.KeptRepliesLemmas.{on_ok}
use Rattle.hb_refusals.proofs.kept_replies.KeptReplies.put.Goals as goal

pub returns-clause-replies : goal.returns-clause-replies
returns-clause-replies c = λ m n.
    (on_ok c.insert.result (c.insert.ensures.succeeds c.requires.spare.0) c.insert.ensures.updates).0 (m, n)
