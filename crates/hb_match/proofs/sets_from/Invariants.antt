use Rattle.std.proofs.Common.{◌≡◌, ℕ, ◌<◌, length, slice_index}
use Rattle.hb_match.specs.Matching.{IsPossibleSet}
use Rattle.hb_match.proofs.sets_from.Given as goal

abbrev pub invariant-loop-card : goal.invariant-loop-card
invariant-loop-card l = record {
  so_far : length l.sets.items ≡ l.card;
  exact : (card : ℕ) → card < l.card → IsPossibleSet l.masks l.left card (slice_index l.sets.items card);
}
