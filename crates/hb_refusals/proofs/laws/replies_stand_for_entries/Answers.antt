use Rattle.hb_refusals.proofs.OwnRepliesLemmas.{kept_reply-own, own_after-stands}
use Rattle.hb_refusals.proofs.laws.replies_stand_for_entries.Goals as goal

pub returns-clause-moves : goal.returns-clause-moves
returns-clause-moves c = own_after-stands

pub returns-clause-replies : goal.returns-clause-replies
returns-clause-replies c = kept_reply-own
