use Rattle.std.proofs.Common.{◌≡◌, ℕ, length, slice_index}
use Rattle.hb_match.proofs.empty_sets.Given as goal

abbrev pub invariant-loop : goal.invariant-loop
invariant-loop l = record {
  len : length l.sets.items ≡ l.index;
  empty : (card : ℕ) → slice_index l.sets.items card ≡ 0;
}
