use Rattle.std.proofs.Common.{ℕ, ◌+◌, ◌-◌, ◌*◌, ◌<◌, suc, arith, ap, sym, ◌∙◌, drop}
use Rattle.std.specs.Prelude.{slice_index}
use Rattle.hb_script.specs.ScriptLines.{within}
use Rattle.hb_script.proofs.ScriptNumbers.{digits-more, too-large}
use Rattle.hb_script.proofs.fields.digits.Goals as goal

pub returns-then-value-most : goal.returns-then-value-most
returns-then-value-most c =
    let value : ℕ = c.loop-byte.value * 10 + (slice_index c.args.bytes.now c.loop-byte.byte-index - 48) in
    let large : c.args.most < value = omega (arith, c.if-value-most.true, c.from.ensures) in
    sym (ap (within 0 c.args.most) (c.loop-byte.invariant.1
    ∙ digits-more c.loop-byte.value c.loop-byte.byte-index c.args.bytes.now c.loop-byte-test.true (sym
    c.if-not-is_ascii_digit.ensures.value))
    ∙ too-large c.args.most value (drop (suc c.loop-byte.byte-index) c.args.bytes.now) large)
