use Rattle.std.proofs.Common.{arith, reverse}
use Rattle.hb_turns.proofs.SeatsLemmas.{bit-holder_none}
use Rattle.hb_turns.proofs.game.Game.hand_set.Goals as goal

pub returns-else-from-lt-SEATS-clause-set : goal.returns-else-from-lt-SEATS-clause-set
returns-else-from-lt-SEATS-clause-set c =
    rw (← c.self.view_is)
    (bit-holder_none c.self.inside.setup (reverse c.self.inside.acts.items) c.self.invariant.fair
    c.self.invariant.legal c.args.seat (omega arith))
