use Rattle.std.proofs.Common.{◌≡◌, ◌≤◌, length, map}
use Rattle.std.specs.List.{range_with_len}
use Rattle.hb_view.specs.StreamClocks.{bank_at}
use Rattle.hb_view.proofs.clocks.Clock.banks_at.Given as goal

abbrev pub invariant-loop-seat : goal.invariant-loop-seat
invariant-loop-seat l = (l.banks.items ≡ map (λ seat. bank_at l.self seat l.moment) (range_with_len 0 l.seat)) ×
    (length l.banks.items ≤ l.seat)
