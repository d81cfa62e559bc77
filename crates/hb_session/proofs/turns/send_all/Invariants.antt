use Rattle.std.proofs.Common.{◌≡◌, take}
use Rattle.hb_edge.specs.Telling.{Tells}
use Rattle.hb_session.specs.Talking.{with_texts}
use Rattle.hb_session.proofs.turns.send_all.Given as goal

abbrev pub invariant-loop-i : goal.invariant-loop-i
invariant-loop-i g l = record {
  sent : Tells (g.L.Link.talk l.fn.link) (g.L.Link.talk l.link) (with_texts (take l.i l.texts));
  same : g.L.Link.faults l.link ≡ g.L.Link.faults l.fn.link;
}
