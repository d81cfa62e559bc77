use Rattle.std.proofs.Common.{◌≡◌, ◌++◌, ◌∷◌, [], length, refl, rules}
use Rattle.std.proofs.lemmas.Option.{slice_get_read}
use Rattle.hb_sqlite.proofs.LineLemmas.{next_id, same_id}
use Rattle.hb_sqlite.proofs.members.ids_in.Goals.{then-id-last+else-is_err, else-id-last}
use Rattle.hb_sqlite.proofs.members.ids_in.Goals as goal

pub loop-place-preserved : goal.loop-place-preserved
loop-place-preserved c ids all =
    let here = slice_get_read c.args.rows.now (length c.args.rows.now) c.loop-place.place c.index-rows-place.result refl
    c.loop-place-test.true c.index-rows-place.is in
    let read = c.in_ok-id.ensures.ok.1 in
    elim c.if-id-last.branch [
      | then-id-last+else-is_err w ↦
          let pushed : w.push.new.self.items ≡ c.loop-place.ids.items ++ c.in_ok-id.id ∷ [] = search rules in
          rw (w.ids-is, w.last-is)
          (next_id ids c.args.rows.now c.loop-place.ids.items w.push.new.self.items c.loop-place.place c.loop-place.last
          c.index-rows-place.result c.in_ok-id.id all here read w.if-id-last.true pushed (c.loop-place.invariant ids all))
      | else-id-last w ↦
          rw (w.ids-is, w.last-is) (same_id ids c.args.rows.now c.loop-place.ids.items c.loop-place.place c.loop-place.last
          c.index-rows-place.result c.in_ok-id.id all here read w.if-id-last.false (c.loop-place.invariant ids all))
    ]
