use Rattle.std.proofs.Common.{rules, ◌≡◌, ◌+◌, ◌<◌, length, [], ◌∷◌, ◌++◌, Some, refl, subst, arith, length-append}
use Rattle.std.proofs.lemmas.Option.{slice_get_read}
use Rattle.std.specs.Prelude.{slice_get}
use Rattle.hb_hall.proofs.JoinsLemmas.{JoinedBehind, join-more, last-table}
use Rattle.hb_hall.proofs.places.join_rooms.Goals as goal

pub join-requires : goal.join-requires
join-requires g c =
    let R = g.R.RoomMachine in
    let rooms = c.loop-other.rooms.items in
    let left = c.pop.new.self.items in
    let p = c.index_mut.result.now in
    let h = subst (λ os. JoinedBehind R.site R.stands c.args.rooms.now.items c.args.others.items rooms os) c.in-Some.ensures.items
    c.loop-other.invariant in
    let n : c.len.result ≡ length left = search rules in
    let size : length (left ++ c.in-Some.other ∷ []) ≡ length left + 1 = length-append left (c.in-Some.other ∷ []) in
    let most = h.within in
    let within : c.len.result < length rooms = omega arith in
    let was = slice_get_read rooms (length rooms) c.len.result p refl within c.index_mut.ensures.value in
    last-table R.site R.stands c.args.rooms.now.items c.args.others.items rooms left c.in-Some.other p c.requires h
    (subst (λ k. slice_get rooms k ≡ Some p) n was)

pub loop-other-preserved : goal.loop-other-preserved
loop-other-preserved g c =
    let R = g.R.RoomMachine in
    let rooms = c.loop-other.rooms.items in
    let left = c.pop.new.self.items in
    let p = c.index_mut.result.now in
    let h = subst (λ os. JoinedBehind R.site R.stands c.args.rooms.now.items c.args.others.items rooms os) c.in-Some.ensures.items
    c.loop-other.invariant in
    let n : c.len.result ≡ length left = search rules in
    let size : length (left ++ c.in-Some.other ∷ []) ≡ length left + 1 = length-append left (c.in-Some.other ∷ []) in
    let most = h.within in
    let within : c.len.result < length rooms = omega arith in
    let was = slice_get_read rooms (length rooms) c.len.result p refl within c.index_mut.ensures.value in
    rw n (join-more R.site R.stands c.args.rooms.now.items c.args.others.items rooms left c.in-Some.other p c.join.new.self h
    (subst (λ k. slice_get rooms k ≡ Some p) n was) c.join.ensures)
