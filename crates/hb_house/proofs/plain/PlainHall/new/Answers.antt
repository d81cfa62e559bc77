use Rattle.std.proofs.Common.{◌+◌, ◌∷◌, [], length, sym, ◌∙◌, subst, ap, length-append}
use Rattle.hb_club.specs.declared.shoes.Shoe.{Shoe}
use Rattle.hb_club.specs.Fronts.{no_events, site_of}
use Rattle.hb_house.specs.PlainHalls.{PlainStands, house_with}
use Rattle.hb_house.proofs.PlainStandsLemmas.{AreEmpty, empty-more, empty-stands}
use Rattle.hb_house.proofs.plain.PlainHall.new.Goals as goal

pub loop-room-preserved : goal.loop-room-preserved
loop-room-preserved g c =
    let K = g.R.RoomMachine in
    let h = house_with c.args.shoe.now c.args.run in
    let made = c.loop-room.made.items in
    let room = c.in_ok-new.field-0 in
    let items = c.in_ok-push.ensures.items in
    let site = c.in_ok-new.ensures.site ∙ ap (λ k. site_of h (k + 1)) (sym c.loop-room.invariant.0) in (
      ap length items ∙ (length-append made (room ∷ []) ∙ ap (λ k. k + 1) c.loop-room.invariant.0),
      subst (λ l. AreEmpty K.site K.stands h l) (sym items)
          (empty-more K.site K.stands h made room c.loop-room.invariant.1 site c.in_ok-new.ensures.empty),
    )

pub returns-clause-empty : goal.returns-clause-empty
returns-clause-empty g c =
    let K = g.R.RoomMachine in
    let rooms = c.loop-room.made.items in
    let P : Shoe → Type 0 = λ shoe. PlainStands K.site K.stands (house_with shoe c.args.run) rooms c.new-2.result no_events in
    subst P (sym c.of.ensures) (empty-stands K.site K.stands (house_with c.args.shoe.now c.args.run) rooms c.new-2.result
    c.loop-room.invariant.1 c.new-2.ensures)
