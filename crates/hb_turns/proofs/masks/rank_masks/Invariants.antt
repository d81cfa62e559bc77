use Rattle.std.proofs.Common.{◌≡◌, ◌+◌, ◌<◌, ℕ, true, length}
use Rattle.std.specs.Prelude.{slice_index}
use Rattle.hb_rules.specs.declared.acts.Clue.TheVariants as clue
use Rattle.hb_rules.specs.Touch.{offers}
use Rattle.hb_turns.specs.ClueMasks.{IsMask}
use Rattle.hb_turns.proofs.masks.rank_masks.Given as goal

abbrev pub invariant-loop-place : goal.invariant-loop-place
invariant-loop-place l = record {
  many : length l.masks ≡ 5;
  all : (k : ℕ) → k < l.place → offers l.variant (clue.Rank (k + 1)) ≡ true → IsMask l.variant (clue.Rank (k + 1)) (slice_index l.masks k);
}
