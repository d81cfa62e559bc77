use Rattle.std.proofs.Common.{◌≡◌, ℕ, length, rules, sym, ◌∙◌, subst}
use Rattle.hb_house.specs.KeeperSteps.{Tells}
use Rattle.hb_serve.specs.Serving.{Served}
use Rattle.hb_serve.proofs.FrontsLemmas.{sure-back}
use Rattle.hb_serve.proofs.ServeLemmas.{served-all}
use Rattle.hb_serve.proofs.serving.serve_all.Goals as goal

pub returns-clause-sessions : goal.returns-clause-sessions
returns-clause-sessions g c clones f k stood told sure =
    let H = g.H.Hall in
    let D = g.D.Door in
    let L = g.D.Link.Link in
    let K = g.K.Keeper in
    let coming = g.C.Clock.coming in
    let old = c.args.hall.now in
    let all = c.accept_all-arrivals in
    let waits = c.wait_all-refused in
    let last = c.last_round-last in
    let accepted = all.ensures in
    let waited = waits.ensures in
    let came = accepted.comes f k stood told (sure-back k (K.is_sure last.new.keeper) (K.is_sure all.new.keeper) last.ensures.sure sure) in
    let held = rw (accepted.house, accepted.count) at waited.waited in
    let closed = rw (waited.alone ∙ accepted.alone, waited.house ∙ accepted.house, waited.count ∙ accepted.count) at last.ensures.closed in
    let size : c.len-served.result ≡ length all.new.tasks.items = search rules in
    subst (λ (jobs : ℕ). Served (H.stands last.new.hall) (Tells (K.tells last.new.keeper) (K.plan last.new.keeper)) L.stub_talk
    L.stub_faults (H.alone old) (H.house old) (H.count old) (coming c.args.clock) f k jobs waits.result last.result
    (D.back c.args.door.now) (D.back waits.new.door)) (sym size)
    (served-all (H.stands all.new.hall) (H.stands waits.new.hall) (H.stands last.new.hall)
    (Tells (K.tells all.new.keeper) (K.plan all.new.keeper)) (Tells (K.tells last.new.keeper) (K.plan last.new.keeper))
    (K.is_sure last.new.keeper) L.stub_talk L.stub_faults (H.alone old) (H.house old) (H.count old) (coming c.args.clock) f k
    (length all.new.tasks.items) waits.result last.result (D.back c.args.door.now) (D.back all.new.door) (D.back waits.new.door)
    came (held came.after (coming c.args.clock) came.stands_for (accepted.begun f stood clones)) accepted.back sure closed)

pub returns-clause-stopped : goal.returns-clause-stopped
returns-clause-stopped g c f k stood told sure =
    let K = g.K.Keeper in
    let all = c.accept_all-arrivals in
    let last = c.last_round-last in
    all.ensures.stopped f k stood told (sure-back k (K.is_sure last.new.keeper) (K.is_sure all.new.keeper) last.ensures.sure sure)
