use Rattle.std.proofs.Common.{◌≡◌, ◌++◌, ap, sym, ◌∙◌}
use Rattle.std.specs.Str.{bytes_eq}
use Rattle.hb_suits.specs.VariantNames.{suit_name}
use Rattle.hb_suits.proofs.Finds.{find-none, find-same, bytes_eq-append, bytes_eq-other}
use Rattle.hb_suits.proofs.names.suit_before.Goals as goal

pub returns-in_err-strip_suffix : goal.returns-in_err-strip_suffix
returns-in_err-strip_suffix c =
    rw c.from_residual.ensures
    (sym (find-none (λ suit. bytes_eq (suit_name suit ++ c.args.ending.now) c.args.name.now) c.args.suits.now
    (λ suit. bytes_eq-other c.args.name.now c.args.ending.now (suit_name suit) c.in_err-strip_suffix.ensures.cases)))

pub returns : goal.returns
returns c =
    let h = c.in_ok-strip_suffix.ensures.cases in
    let whole : c.args.name.now ≡ c.in_ok-strip_suffix.field-0.now ++ c.args.ending.now =
    h.1.1 ∙ ap (λ front. front ++ c.args.ending.now) (sym h.2) in
    c.suit_among.ensures
    ∙ find-same _ _ c.args.suits.now
    (λ suit.
    sym
    (ap (bytes_eq (suit_name suit ++ c.args.ending.now)) whole
    ∙ bytes_eq-append (suit_name suit) c.in_ok-strip_suffix.field-0.now c.args.ending.now))
