use Rattle.std.proofs.Common.{◌≡◌, ◌∙◌, false}
use Rattle.hb_club.specs.ClerkCalls.{is_pending}
use Rattle.hb_club.specs.RoomEvents.{Loaded, Notes}
use Rattle.hb_table.specs.Changes.{due_in}
use Rattle.hb_table.proofs.ClerkLemmas.{loads-nothing}
use Rattle.hb_table.proofs.TimedLemmas.{out-stays, timed-at}
use Rattle.hb_table.proofs.room.Room.note_unasked.Goals as goal

pub returns-clause-ok : goal.returns-clause-ok
returns-clause-ok c = λ table id game none whole.
    let stays = out-stays (due_in c.reserve.new.self c.in_time.result) c.reserve.new.self c.apply_time.new.self c.apply_time.ensures.out in
    let still : is_pending c.apply_time.new.self.latest table id c.apply_time.new.self.load ≡ false =
    rw (stays.0 ∙ c.reserve.ensures.same.latest, stays.1 ∙ c.reserve.ensures.same.load) none in
    loads-nothing c.args.self.now c.apply_time.new.self c.args.moment table id game
    (timed-at (Notes c.args.moment (Loaded table id game)) c.args.self.now c.reserve.new.self c.apply_time.new.self c.in_time.result
    c.in_time.ensures
    c.reserve.ensures.same c.apply_time.ensures.out) whole still
