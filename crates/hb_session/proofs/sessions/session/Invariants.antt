use Rattle.std.proofs.Common.{◌≡◌}
use Rattle.hb_club.specs.Fronts.{Fronts}
use Rattle.hb_session.specs.Talking.{Talks}
use Rattle.hb_session.proofs.sessions.session.Given as goal

abbrev pub invariant-loop-taken : goal.invariant-loop-taken
invariant-loop-taken g l = let H = g.H.Hall in record {
  talks : (f : Fronts) → H.stands l.fn.hall f
      → Talks H.stands (H.house l.fn.hall) (H.count l.fn.hall) (H.alone l.fn.hall) f (g.C.Clock.coming l.fn.clock)
      (g.L.Link.talk l.fn.link) l._taken l.hall (g.C.Clock.coming l.clock) l.desk (g.L.Link.talk l.link);
  same : g.L.Link.faults l.link ≡ g.L.Link.faults l.fn.link;
  house : H.house l.hall ≡ H.house l.fn.hall;
  count : H.count l.hall ≡ H.count l.fn.hall;
  alone : H.alone l.hall ≡ H.alone l.fn.hall;
}
