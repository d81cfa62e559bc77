use Rattle.hb_club.specs.ClerkCalls.{text_at}
use Rattle.hb_playing.proofs.NotesLemmas.{map-range_more}
use Rattle.hb_playing.proofs.notes.Notebook.list.Goals as goal

pub loop-order-preserved : goal.loop-order-preserved
loop-order-preserved c =
    map-range_more (λ order. text_at c.args.name.now order c.args.self.now.notes) c.loop-order.texts c.push.new.self c.loop-order.order
    c.in_ok-text.field-0 c.loop-order.invariant c.in_ok-text.ensures c.in_ok-push.ensures.ok
