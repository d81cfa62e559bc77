use Rattle.std.proofs.Common.{◌≡◌, ℕ, ◌<◌, None, length}
use Rattle.std.specs.Prelude.{slice_get, slice_index_or}
use Rattle.hb_suits.proofs.variants.variant_with.Given as goal

abbrev pub invariant-loop-index : goal.invariant-loop-index
invariant-loop-index l =
    record {
      long : length l.place-items ≡ 6;
      filled : (k : ℕ) → k < l.index → slice_index_or l.place-items k None ≡ slice_get l.suits k;
    }
