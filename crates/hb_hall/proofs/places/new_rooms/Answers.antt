use Rattle.std.proofs.Common.{◌≡◌, ◌+◌, ◌∷◌, [], length, ℕ, sym, ◌∙◌, subst, ap, length-append}
use Rattle.hb_club.specs.Fronts.{House, site_of}
use Rattle.hb_hall.specs.HouseHalls.{AreNew, IsMadeWith}
use Rattle.hb_hall.proofs.NewRoomsLemmas.{new-more, site-made}
use Rattle.hb_hall.proofs.places.new_rooms.Goals as goal

pub loop-room-preserved : goal.loop-room-preserved
loop-room-preserved g c =
    let R = g.R.RoomMachine in
    let made = c.loop-room.made.items in
    let entrance = c.in_ok-entrance.entrance in
    let items = c.in_ok-push.ensures.items in
    let start = c.in_ok-entrance.ensures.start in
    let stood = subst (λ m. R.stands m.room []) (sym start) c.in_ok-room.ensures.empty in (
      ap length items ∙ (length-append made (entrance ∷ []) ∙ ap (λ k. k + 1) c.loop-room.invariant.0),
      (λ h made_with.
          let site = ap (λ m. R.site m.room) start ∙ (c.in_ok-room.ensures.site
          ∙ (sym (site-made c.args.shoe.now c.args.run h (c.loop-room.room + 1) made_with)
          ∙ ap (λ k. site_of h (k + 1)) (sym c.loop-room.invariant.0))) in
          subst (AreNew R.site R.stands h) (sym items)
          (new-more R.site R.stands h made entrance (c.loop-room.invariant.1 h made_with) site stood c.in_ok-entrance.ensures.pass)),
    )
