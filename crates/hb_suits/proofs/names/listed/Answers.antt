use Rattle.std.proofs.Common.{refl, sym, ◌∙◌}
use Rattle.hb_suits.proofs.Listed.{listed-found}
use Rattle.hb_suits.proofs.names.listed.Goals as goal

pub returns-in-Some : goal.returns-in-Some
returns-in-Some c = c.variant_with.ensures ∙ sym (listed-found c.args.name.now _ _ _ _ _ c.in-Some.ensures.1 refl refl refl refl)

pub returns-in-Some-suit_before : goal.returns-in-Some-suit_before
returns-in-Some-suit_before c =
    c.variant_with-in-Some-suit_before.ensures
    ∙ sym
    (listed-found c.args.name.now _ _ _ _ _ c.in_default.ensures (sym c.in-Some-suit_before.ensures) refl
    refl refl)

pub returns-in-Some-suit_before-2 : goal.returns-in-Some-suit_before-2
returns-in-Some-suit_before-2 c = c.variant_with-in-Some-suit_before-2.ensures
    ∙ sym
    (listed-found c.args.name.now _ _ _ _ _ c.in_default.ensures (sym c.in_default-suit_before.ensures)
    (sym c.in-Some-suit_before-2.ensures) refl refl)

pub returns-in-Some-suit_before-3 : goal.returns-in-Some-suit_before-3
returns-in-Some-suit_before-3 c = (rw c.special.ensures at c.variant_with-in-Some-suit_before-3.ensures)
    ∙ sym
    (listed-found c.args.name.now _ _ _ _ _ c.in_default.ensures (sym c.in_default-suit_before.ensures)
    (sym c.in_default-suit_before-2.ensures) (sym c.in-Some-suit_before-3.ensures) refl)

pub returns-in_err-suit : goal.returns-in_err-suit
returns-in_err-suit c = c.from_residual.ensures
    ∙ sym
    (listed-found c.args.name.now _ _ _ _ _ c.in_default.ensures (sym c.in_default-suit_before.ensures)
    (sym c.in_default-suit_before-2.ensures) (sym c.in_default-suit_before-3.ensures)
    (sym c.in_err-suit.ensures))

pub returns : goal.returns
returns c = (rw c.special-2.ensures at c.variant_with-2.ensures)
    ∙ sym
    (listed-found c.args.name.now _ _ _ _ _ c.in_default.ensures (sym c.in_default-suit_before.ensures)
    (sym c.in_default-suit_before-2.ensures) (sym c.in_default-suit_before-3.ensures)
    (sym c.in_ok-suit.ensures))
