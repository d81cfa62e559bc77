use Rattle.std.proofs.Common.{rules, ◌≡◌, ◌+◌, ◌<◌, length, map, take, refl, sym, ◌∙◌, subst, ap}
use Rattle.std.proofs.lemmas.List.{set-get_or}
use Rattle.std.proofs.lemmas.Option.{slice_get_read}
use Rattle.hb_hall.specs.HouseHalls.{without_number}
use Rattle.hb_hall.proofs.SplitsLemmas.{split-more}
use Rattle.hb_hall.proofs.places.split_rooms.Goals as goal

pub loop-i-preserved : goal.loop-i-preserved
loop-i-preserved g c =
    let rooms = c.loop-i.rooms.items in
    let p = c.index_mut.result.now in
    let within : c.loop-i.i < length rooms = search rules in
    let was = slice_get_read rooms (length rooms) c.loop-i.i p refl within c.index_mut.ensures.value in
    let first = c.loop-i.invariant.0 in
    let so_far = subst (λ rs. map without_number c.loop-i.made.items ≡ take c.loop-i.i (map without_number rs)) (sym first)
    c.loop-i.invariant.1 in
    let more = split-more rooms c.loop-i.made.items c.loop-i.i p c.in_ok-half.half so_far was c.in_ok-half.ensures.new in (
      rw (c.in_ok-half.ensures.same, c.index_mut.ensures.value) (set-get_or rooms c.loop-i.i _ ∙ first),
      rw c.in_ok-push.ensures.items (more ∙ ap (λ rs. take (c.loop-i.i + 1) (map without_number rs)) first),
    )

pub returns-in_err-half-clause-same : goal.returns-in_err-half-clause-same
returns-in_err-half-clause-same g c =
    rw (c.in_err-half.ensures.same, c.index_mut.ensures.value) (set-get_or c.loop-i.rooms.items c.loop-i.i _ ∙ c.loop-i.invariant.0)
