use Rattle.std.proofs.Common.{arith, refl}
use Rattle.hb_turns.proofs.NextMember.{next-from, end-from}
use Rattle.hb_turns.proofs.game.clues.next_from.Goals as goal

pub returns-then-rest-eq0-clause-end : goal.returns-then-rest-eq0-clause-end
returns-then-rest-eq0-clause-end c = end-from c.args.set c.args.from c.if-rest-eq0.true

pub returns-else-rest-eq0-clause-next : goal.returns-else-rest-eq0-clause-next
returns-else-rest-eq0-clause-next c = next-from c.args.set c.args.from _ (omega arith) refl (omega arith)
