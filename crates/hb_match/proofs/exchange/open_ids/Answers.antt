use Rattle.std.proofs.Common.{arith}
use Rattle.hb_match.proofs.Exchanged.{gives_start}
use Rattle.hb_match.proofs.Reach.{given_holds}
use Rattle.hb_match.proofs.exchange.open_ids.Goals as goal

pub reach-requires-clause-held : goal.reach-requires-clause-held
reach-requires-clause-held c = given_holds c.args.masks.now c.args.left.now c.args.chosen.now c.requires (omega arith)

pub returns-clause-gives : goal.returns-clause-gives
returns-clause-gives c = λ card h. c.reach.ensures.gives c.args.left.now card c.requires h
    (gives_start c.args.masks.now c.args.left.now c.args.chosen.now c.spare_ids.result card c.requires h c.spare_ids.ensures)
