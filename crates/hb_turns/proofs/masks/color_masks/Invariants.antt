use Rattle.std.proofs.Common.{◌≡◌, ◌<◌, ℕ, true, length}
use Rattle.std.specs.Prelude.{slice_index}
use Rattle.hb_rules.specs.declared.acts.Clue.TheVariants as clue
use Rattle.hb_rules.specs.Touch.{offers}
use Rattle.hb_turns.specs.ClueMasks.{IsMask}
use Rattle.hb_turns.proofs.masks.color_masks.Given as goal

abbrev pub invariant-loop-color : goal.invariant-loop-color
invariant-loop-color l = record {
  many : length l.masks ≡ 6;
  all : (k : ℕ) → k < l.color → offers l.variant (clue.Color k) ≡ true → IsMask l.variant (clue.Color k) (slice_index l.masks k);
}
