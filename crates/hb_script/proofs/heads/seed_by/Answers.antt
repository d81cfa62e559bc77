use Rattle.std.proofs.Common.{◌≡◌, ◌+◌, ◌*◌, ◌<◌, ◌∙◌, add-one, arith, length, length-set, refl, suc, take}
use Rattle.std.proofs.lemmas.List.{take_more_set}
use Rattle.hb_script.specs.ScriptGrammar.{by_pairs, hex_byte}
use Rattle.hb_script.proofs.PairLemmas.{pair-item, pairs-first}
use Rattle.hb_script.proofs.heads.seed_by.Goals as goal

pub loop-place-init : goal.loop-place-init
loop-place-init c = record { size = refl; so = pairs-first (by_pairs hex_byte c.args.digits.now) }

pub loop-place-preserved : goal.loop-place-preserved
loop-place-preserved c =
    let at = 2 * c.loop-place.place in
    let low : suc at < length c.args.digits.now = omega (arith, c.if-digits.false, c.loop-place-test.true) in
    let next : 2 * (c.loop-place.place + 1) ≡ suc (suc at) = omega arith in
    let here : c.loop-place.place < length c.loop-place.bytes = omega (arith, c.loop-place.invariant.size, c.loop-place-test.true) in
    let is = rw add-one at c.in-Some.ensures in
    let front = take_more_set c.loop-place.bytes c.loop-place.place c.in-Some.byte here in
    record {
      size = length-set c.loop-place.bytes c.loop-place.place c.in-Some.byte ∙ c.loop-place.invariant.size;
      so = rw front (pair-item hex_byte at (2 * (c.loop-place.place + 1)) c.args.digits.now c.args.digits.now (take c.loop-place.place
          c.loop-place.bytes) c.in-Some.byte low next c.loop-place.invariant.so is);
    }
