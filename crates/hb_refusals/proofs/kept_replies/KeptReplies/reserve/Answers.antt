use Rattle.std.proofs.Common.{ap}
use Rattle.std.specs.Prelude.{unwrap_or}
use Rattle.hb_refusals.proofs.kept_replies.KeptReplies.reserve.Goals as goal

pub returns-clause-same : goal.returns-clause-same
returns-clause-same c = record {
  replies = λ m n. c.reserve.ensures.entries.2 (m, n);
  counts = λ m. ap (λ o. unwrap_or o 0) (c.reserve-2.ensures.entries.2 m);
}
