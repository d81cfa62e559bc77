use Rattle.std.proofs.Common.{◌≡◌, ◌∙◌, ap, arith}
use Rattle.std.specs.Prelude.{[], ◌∷◌, codes}
use Rattle.std.specs.Str.Parse.{digits_value}
use Rattle.hb_words.proofs.Decoded.{none_but_decoded}
use Rattle.hb_words.proofs.Numerals.{value-decimal}
use Rattle.hb_words.proofs.asked.make.Goals as goal

pub returns-then-tables-eq0-clause-none : goal.returns-then-tables-eq0-clause-none
returns-then-tables-eq0-clause-none c =
    let read : digits_value 10 c.args.tables.now ≡ c.in_ok-tables.tables =
    ap (digits_value 10) c.in_ok-tables.ensures.found.0 ∙ value-decimal c.in_ok-tables.tables (omega (arith, c.if-tables-eq0.true)) in
    none_but_decoded (codes "make" ∷ c.args.tables.now ∷ c.args.seed.now ∷ []) (λ asks. omega (arith, asks.1, read, c.if-tables-eq0.true))
