use Rattle.std.proofs.Common.{◌≡◌, ℕ, List, map, take}
use Rattle.std.specs.List.{range_with_len}
use Rattle.hb_club.specs.ClerkCalls.{text_at}
use Rattle.hb_playing.proofs.notes.Notebook.lists.Given as goal

abbrev pub invariant-loop-name : goal.invariant-loop-name
invariant-loop-name l =
    l.lists
    ≡ map (λ (name : List ℕ). map (λ order. text_at name order l.self.notes) (range_with_len 0 l.size)) (take l.name-index l.names)
