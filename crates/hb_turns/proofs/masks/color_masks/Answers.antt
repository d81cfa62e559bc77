use Rattle.std.proofs.Common.{◌≡◌, true, arith}
use Rattle.std.proofs.lemmas.List.{length-set}
use Rattle.hb_rules.specs.declared.acts.Clue.TheVariants as clue
use Rattle.hb_rules.specs.Touch.{offers}
use Rattle.hb_turns.specs.ClueMasks.{IsMask}
use Rattle.hb_turns.proofs.ClueMaskLemmas.{set-below}
use Rattle.hb_turns.proofs.masks.color_masks.Goals as goal

pub loop-color-preserved : goal.loop-color-preserved
loop-color-preserved c = record {
  many = rw length-set c.loop-color.invariant.many;
  all = rw c.from.ensures
      (set-below
      (λ k set. offers c.args.variant.now (clue.Color k) ≡ true
      → IsMask c.args.variant.now (clue.Color k) set)
      c.loop-color.masks c.loop-color.color _ (omega arith) c.loop-color.invariant.all c.mask_of.ensures);
}
