use Rattle.std.specs.Prelude.{◌^◌}
use Rattle.hb_seen.proofs.StandsAlikeLemmas.{rule-seen, touched-seen}
use Rattle.hb_seen.proofs.CanTellLemmas.{can_tell-all, can_tell-own}
use Rattle.hb_seen.proofs.laws.rules_are_seen.Goals as goal

pub returns-clause-touched : goal.returns-clause-touched
returns-clause-touched c = touched-seen

pub returns-clause-rules : goal.returns-clause-rules
returns-clause-rules c = rule-seen

pub returns-clause-own : goal.returns-clause-own
returns-clause-own c = λ g more past seat a many. rule-seen (2 ^ seat) g more past seat a many (can_tell-own seat a)

pub returns-clause-all : goal.returns-clause-all
returns-clause-all c = λ g more past act many. rule-seen 0 g more past act.who act.action many (can_tell-all act.who act.action)
