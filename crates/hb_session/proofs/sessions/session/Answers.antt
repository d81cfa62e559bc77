use Rattle.std.proofs.Common.{◌≡◌, arith, refl, rules}
use Rattle.std.proofs.lemmas.Bool.Decides.{nat_tests}
use Rattle.hb_session.proofs.TurnLemmas.{talks-begin, talks-spent}
use Rattle.hb_session.proofs.sessions.session.Goals as goal

pub loop-taken-init : goal.loop-taken-init
loop-taken-init g c =
    let H = g.H.Hall in
    let old = c.args.hall.now in
    record {
      talks = λ f stood.
          talks-begin H.stands (H.house old) (H.count old) (H.alone old) f old (g.C.Clock.coming c.args.clock.now) c.new-desk.result
          (g.L.Link.talk c.args.link.now) stood c.new-desk.ensures.session (c.new-desk.ensures.fits (H.house old) f);
      same = refl;
      house = refl;
      count = refl;
      alone = refl;
    }

pub loop-taken-preserved : goal.loop-taken-preserved
loop-taken-preserved g c =
    let i = c.loop-taken.invariant in
    record {
      talks = λ f stood.
          let step = rw (i.house, i.count, i.alone) at c.in-None.ensures.talks in
          step f (g.C.Clock.coming c.args.clock.now) (g.L.Link.talk c.args.link.now) c.loop-taken._taken 0 (i.talks f stood);
      same = search rules;
      house = search rules;
      count = search rules;
      alone = search rules;
    }

pub returns-in-Some-clause-converses : goal.returns-in-Some-clause-converses
returns-in-Some-clause-converses g c f stood =
    let i = c.loop-taken.invariant in
    let step = rw (i.house, i.count, i.alone) at c.in-Some.ensures.talks in
    step f (g.C.Clock.coming c.args.clock.now) (g.L.Link.talk c.args.link.now) c.loop-taken._taken c.args.budget
    (i.talks f stood)

pub returns-clause-converses : goal.returns-clause-converses
returns-clause-converses g c f stood =
    let H = g.H.Hall in
    let old = c.args.hall.now in
    let most = c.loop-taken.auto._taken-end in
    let least = c.loop-taken-test.false in
    let all : c.loop-taken._taken ≡ c.args.budget = grind (arith, nat_tests) in
    talks-spent H.stands (H.house old) (H.count old) (H.alone old) f (g.C.Clock.coming c.args.clock.now)
    (g.L.Link.talk c.args.link.now) c.loop-taken._taken c.args.budget c.loop-taken.hall
    (g.C.Clock.coming c.loop-taken.clock) c.loop-taken.desk (g.L.Link.talk c.loop-taken.link)
    (c.loop-taken.invariant.talks f stood) all
