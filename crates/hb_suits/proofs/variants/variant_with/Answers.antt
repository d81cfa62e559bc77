use Rattle.std.proofs.Common.{◌≡◌, ◌≢◌, ◌<◌, ◌≤◌, ◌∙◌, Option, sym, arith, length, below_more, get_or-set_other, get_or-set_same}
use Rattle.std.proofs.Math.ListN.{length-set}
use Rattle.hb_rules.specs.declared.suits.Suit.{Suit}
use Rattle.hb_suits.specs.Variants.{placed}
use Rattle.hb_suits.proofs.PlacesLemmas.{option_copied-get, placed-filled, is_variant-few, variant_with-some, variant_with-none}
use Rattle.hb_suits.proofs.variants.variant_with.Goals as goal

pub returns-then-not-is_variant : goal.returns-then-not-is_variant
returns-then-not-is_variant c =
    sym
    (variant_with-none c.args.suits.now c.args.special (sym c.is_variant.ensures ∙ c.if-not-is_variant.true))

pub loop-index-preserved : goal.loop-index-preserved
loop-index-preserved c = record {
  long = omega (arith, length-set {A = Option Suit});
  filled = below_more _ _
      (λ k low. let other : k ≢ c.loop-index.index = omega arith in rw get_or-set_other (c.loop-index.invariant.filled k low))
      (let inside : c.loop-index.index < length c.loop-index.place-items = omega arith in
      rw get_or-set_same (c.copied.ensures ∙ option_copied-get c.args.suits.now c.loop-index.index c.get.result c.get.ensures.lookup.3));
}

pub invariant_of-result : goal.invariant_of-result
invariant_of-result c =
    let is = sym c.is_variant.ensures ∙ c.if-not-is_variant.false in
    let few : length c.args.suits.now ≤ 6 = is_variant-few c.args.suits.now c.args.special is in
    let same : c.loop-index.place-items ≡ placed c.args.suits.now =
    placed-filled c.args.suits.now c.loop-index.place-items few c.loop-index.invariant.long
    (λ k low. c.loop-index.invariant.filled k (omega arith)) in
    record { valid = rw same is }

pub returns : goal.returns
returns c =
    let is = sym c.is_variant.ensures ∙ c.if-not-is_variant.false in
    let few : length c.args.suits.now ≤ 6 = is_variant-few c.args.suits.now c.args.special is in
    let same : c.loop-index.place-items ≡ placed c.args.suits.now =
    placed-filled c.args.suits.now c.loop-index.place-items few c.loop-index.invariant.long
    (λ k low. c.loop-index.invariant.filled k (omega arith)) in
    sym (variant_with-some c.args.suits.now _ same)
