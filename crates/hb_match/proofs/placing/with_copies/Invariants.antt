use Rattle.std.proofs.Common.{ℕ, ◌<◌, get_or}
use Rattle.hb_sets.specs.Sets.{Has}
use Rattle.hb_match.proofs.placing.with_copies.Given as goal

abbrev pub invariant-loop-id : goal.invariant-loop-id
invariant-loop-id l = record {
  only : (k : ℕ) → Has l.ids k → 0 < get_or l.over k 0;
  all : (k : ℕ) → k < l.id → 0 < get_or l.over k 0 → Has l.ids k;
}
