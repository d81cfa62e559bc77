use Rattle.std.proofs.Common.{◌≡◌, ◌+◌, true, arith}
use Rattle.std.proofs.lemmas.List.{length-set}
use Rattle.hb_rules.specs.declared.acts.Clue.TheVariants as clue
use Rattle.hb_rules.specs.Touch.{offers}
use Rattle.hb_turns.specs.ClueMasks.{IsMask}
use Rattle.hb_turns.proofs.ClueMaskLemmas.{set-below}
use Rattle.hb_turns.proofs.masks.rank_masks.Goals as goal

pub loop-place-preserved : goal.loop-place-preserved
loop-place-preserved c = record {
  many = rw length-set c.loop-place.invariant.many;
  all = rw c.from.ensures
      (set-below
      (λ k set. offers c.args.variant.now (clue.Rank (k + 1)) ≡ true
      → IsMask c.args.variant.now (clue.Rank (k + 1)) set)
      c.loop-place.masks c.loop-place.place _ (omega arith) c.loop-place.invariant.all c.mask_of.ensures);
}
