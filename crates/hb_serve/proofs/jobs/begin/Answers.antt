use Rattle.std.proofs.Common.{[], ◌∷◌, ◌++◌, ap, ◌∙◌}
use Rattle.hb_serve.specs.Explanations.{IsBegun}
use Rattle.hb_serve.proofs.ClockLemmas.{from-same}
use Rattle.hb_serve.proofs.ListLemmas.{all-append_one}
use Rattle.hb_serve.proofs.jobs.begin.Goals as goal

pub returns-in-Ok-clause-begun : goal.returns-in-Ok-clause-begun
returns-in-Ok-clause-begun g c f from stood is clones all =
    let H = g.H.Hall in
    let L = g.L.Link in
    let coming = g.C.Clock.coming in
    let old = c.args.hall.now in
    let split = c.in_ok-hall.ensures in
    let clone = c.in_ok-clock.clock in
    let items = c.push_reserved.ensures.items ∙ ap (λ l. l ++ c.in-Ok.task ∷ []) c.in_ok-reserve.ensures.items in
    rw (items, c.in-Ok.ensures.task)
    (all-append_one (λ j. IsBegun H.stands H.house H.count H.alone (H.house old) (H.count old) from j.hall (L.talk j.link)
    (L.faults j.link) (coming j.clock)) c.args.tasks.now.items
    (record { alloc = c.args.alloc; hall = c.in_ok-hall.hall; link = c.args.link; clock = clone }) all
    (record {
      is_new = c.requires;
      same_house = split.house_of;
      same_count = split.count_of;
      not_alone = split.others;
      first = f;
      stands_for = split.stands f stood;
      from = from-same from (coming c.args.clock.now) (coming clone) is
          (clones c.args.clock.now clone c.in_ok-clock.ensures.cases);
    }))

pub returns-in-Err-clause-begun : goal.returns-in-Err-clause-begun
returns-in-Err-clause-begun g c f from stood is clones all = rw c.in_ok-reserve.ensures.items all
