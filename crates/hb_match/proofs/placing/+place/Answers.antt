use Rattle.std.proofs.Common.{List, ℕ, slice_index, arith, ap, subst}
use Rattle.std.proofs.lemmas.Grind.{common_steps}
use Rattle.hb_match.specs.Placing.{CanMove, Places}
use Rattle.hb_match.proofs.Moves.{placed_now, placed_moved, refill-set}
use Rattle.hb_match.proofs.placing.+place.Goals as goal

pub returns-in-Some : goal.returns-in-Some
returns-in-Some t c = grind (arith, common_steps, placed_now)

pub returns : goal.returns
returns t c =
    let old : List ℕ = c.args.chosen.now.items in
    let mid : List ℕ = c.place.new.chosen.items in
    let card : ℕ = c.in-Some-mover.card in
    let to : ℕ = c.in-Some-mover.to in
    let held_is = ap (λ xs. slice_index xs card) c.deref.ensures.0 in
    let can : CanMove c.args.masks.now old c.args.free card to =
    let P : List ℕ → Type 0 = λ xs. CanMove c.args.masks.now xs c.args.free card to in
    subst P c.as_slice.ensures.value c.in-Some-mover.ensures in
    let placed : Places c.args.masks.now old mid c.with.result (slice_index c.deref.result.now card) =
    let P : ℕ → Type 0 = λ x. Places c.args.masks.now old mid c.with.result x in subst P c.if-over-held.false c.in_ok-over.ensures in
    rw (refill-set mid c.deref_mut.result.now card to c.deref_mut.ensures.value)
    (placed_moved c.args.masks.now old mid c.args.free c.with.result card (slice_index c.deref.result.now card) to
    can placed held_is c.with.ensures.put c.with.ensures.rest)
