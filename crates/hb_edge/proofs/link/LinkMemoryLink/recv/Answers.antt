use Rattle.std.proofs.Common.{rules, ◌≡◌}
use Rattle.hb_edge.proofs.TalkLemmas.{talk_of-one_more}
use Rattle.hb_edge.proofs.link.LinkMemoryLink.recv.Goals as goal

pub returns-clause-talk : goal.returns-clause-talk
returns-clause-talk c =
    let none : c.self.inside.ended ≡ 0 = search rules in
    rw (← c.self.view_is, none)
    (talk_of-one_more c.self.inside.gots.items c.self.inside.at c.in-Ok.got c.self.inside.sent.items (search rules) (search rules))
