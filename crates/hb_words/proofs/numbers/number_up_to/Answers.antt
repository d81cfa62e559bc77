use Rattle.std.proofs.Common.{◌≡◌, ◌∙◌, arith, sym}
use Rattle.hb_words.proofs.Numerals.{decimal-same}
use Rattle.hb_words.proofs.numbers.number_up_to.Goals as goal

pub returns-in_default-clause-none : goal.returns-in_default-clause-none
returns-in_default-clause-none c = λ n few written.
    let same : n ≡ c.in-Some.number =
    decimal-same n c.in-Some.number (omega (arith, few, c.ranges.most.fits)) c.in-Some.ensures.found.1
    (sym written ∙ c.in-Some.ensures.found.0) in
    omega (arith, few, same, c.from.ensures, c.if-number-from.false)
