use Rattle.std.proofs.Common.{◌≡◌, ◌*◌, ◌≤◌}
use Rattle.hb_suits.proofs.Sizes.{size_of}
use Rattle.hb_suits.proofs.cards.deck_size.Given as goal

abbrev pub invariant-loop-index : goal.invariant-loop-index
invariant-loop-index l = record { so_far : l.size ≡ size_of l.variant l.index; few : l.size ≤ 10 * l.index }
