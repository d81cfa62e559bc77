use Rattle.std.proofs.Common.{arith, slice_index}
use Rattle.hb_match.proofs.Exchanged.{gives_own}
use Rattle.hb_match.proofs.exchange.open_to.Goals as goal

pub has-requires : goal.has-requires
has-requires c = (c.requires.held c.args.card c.requires.in_range).1

pub with-requires : goal.with-requires
with-requires c = (c.requires.held c.args.card c.requires.in_range).1

pub returns-clause-own : goal.returns-clause-own
returns-clause-own c = c.reach.ensures.keeps (slice_index c.args.chosen.now c.args.card) c.with.ensures.put

pub returns-clause-gives : goal.returns-clause-gives
returns-clause-gives c = λ left a g. c.reach.ensures.gives left c.args.card a (omega arith)
    (gives_own c.args.masks.now left c.args.chosen.now c.args.freed c.with.result c.args.card a c.with.ensures.put c.with.ensures.rest g)
