use Rattle.std.proofs.Common.{◌≡◌, ℕ, ◌<◌, ◌↔◌, length, slice_index}
use Rattle.hb_sets.specs.Sets.{Has}
use Rattle.hb_match.specs.Placing.{Holds, IsLeftOver}
use Rattle.hb_match.proofs.assign.Given as goal

abbrev pub invariant-loop : goal.invariant-loop
invariant-loop l = record {
  so_far : length l.chosen.items ≡ l.index;
  holds : Holds l.masks l.chosen.items;
  over : IsLeftOver l.left l.chosen.items l.over;
  spare : (id : ℕ) → Has l.spare id ↔ (0 < slice_index l.over id);
}
