use Rattle.std.proofs.Common.{arith}
use Rattle.hb_match.proofs.Reach.{met_possible}
use Rattle.hb_match.proofs.exchange.possible_from.Goals as goal

pub returns : goal.returns
returns c = λ left a g. met_possible c.args.masks.now left c.args.chosen.now c.args.card c.open_to.result c.meet.result
    a (omega arith) (c.open_to.ensures.gives left a g) c.open_to.ensures.own c.open_to.ensures.closed c.meet.ensures
