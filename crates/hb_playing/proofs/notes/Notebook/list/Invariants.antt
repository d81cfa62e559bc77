use Rattle.std.proofs.Common.{◌≡◌, map}
use Rattle.std.specs.List.{range_with_len}
use Rattle.hb_club.specs.ClerkCalls.{text_at}
use Rattle.hb_playing.proofs.notes.Notebook.list.Given as goal

abbrev pub invariant-loop-order : goal.invariant-loop-order
invariant-loop-order l =
    l.texts ≡ map (λ order. text_at l.name order l.self.notes) (range_with_len 0 l.order)
