use Rattle.std.proofs.Common.{ℕ, List, map}
use Rattle.std.specs.List.{range_with_len}
use Rattle.hb_club.specs.ClerkCalls.{text_at}
use Rattle.hb_playing.proofs.NotesLemmas.{map-take_more}
use Rattle.hb_playing.proofs.notes.Notebook.lists.Goals as goal

pub loop-name-preserved : goal.loop-name-preserved
loop-name-preserved c =
    let f : List ℕ → List (List ℕ) =
    λ name. map (λ order. text_at name order c.args.self.now.notes) (range_with_len 0 c.args.size) in
    map-take_more f c.args.names.now c.loop-name.lists c.push.new.self c.loop-name.name-index c.name-item.result c.in_ok-list.field-0
    c.loop-name.invariant c.in_ok-list.ensures c.name-item.is c.loop-name-test.true c.in_ok-push.ensures.ok
