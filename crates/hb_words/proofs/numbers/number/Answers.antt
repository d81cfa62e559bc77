use Rattle.std.proofs.Common.{◌≡◌}
use Rattle.std.specs.declared.result.Result.TheVariants.{Ok}
use Rattle.hb_words.specs.Unpadded.{IsUnpadded}
use Rattle.hb_words.proofs.Numerals.{decimal-parse, parse-decimal-unpadded}
use Rattle.hb_words.proofs.numbers.number.Goals as goal

pub returns-in-Ok-clause-found : goal.returns-in-Ok-clause-found
returns-in-Ok-clause-found c =
    let unpadded : IsUnpadded c.args.word.now = rw c.as_bytes.ensures.value at (c.is_unpadded.ensures.0 c.if-is_unpadded.true) in
    decimal-parse c.args.word.now c.in-Ok.number c.in-Ok.ensures.value.0 unpadded

pub returns-in_default-clause-none : goal.returns-in_default-clause-none
returns-in_default-clause-none c = λ n small written.
    let read : (c.parse.result ≡ Ok n) × IsUnpadded c.args.word.now =
    parse-decimal-unpadded _ _ n _ small written c.parse.ensures.value.0 in
    cc (c.is_unpadded.ensures.1 (rw c.as_bytes.ensures.value read.1), c.if-is_unpadded.false)

pub returns-in_default-2-clause-none : goal.returns-in_default-2-clause-none
returns-in_default-2-clause-none c = λ n small written.
    let read : (c.parse.result ≡ Ok n) × IsUnpadded c.args.word.now =
    parse-decimal-unpadded _ _ n _ small written c.parse.ensures.value.0 in
    cc (read.0, c.in_default.is)
