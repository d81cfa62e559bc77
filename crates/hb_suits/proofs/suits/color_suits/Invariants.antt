use Rattle.std.proofs.Common.{◌≡◌, ◌≤◌, length}
use Rattle.std.specs.Prelude.{filter}
use Rattle.std.specs.List.{range_with_len}
use Rattle.hb_rules.specs.Suits.{has_color}
use Rattle.hb_rules.specs.Cards.{suit_at}
use Rattle.hb_rules.specs.Touch.{suit_kind}
use Rattle.hb_suits.proofs.suits.color_suits.Given as goal

abbrev pub invariant-loop-index : goal.invariant-loop-index
invariant-loop-index l =
    (l.list.items ≡ filter (λ i. has_color (suit_kind (suit_at l.variant i))) (range_with_len 0 l.index))
    × (length l.list.items ≤ l.index)
