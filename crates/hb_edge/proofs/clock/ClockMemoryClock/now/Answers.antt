use Rattle.std.proofs.Common.{rules}
use Rattle.hb_edge.proofs.MomentsLemmas.{moments-go_on}
use Rattle.hb_edge.proofs.clock.ClockMemoryClock.now.Goals as goal

pub returns-then-self-len : goal.returns-then-self-len
returns-then-self-len c =
    rw (← c.self.view_is)
    (moments-go_on c.self.inside.moments.items c.self.inside.at c.index-moment.result.now (search rules) (search rules))
