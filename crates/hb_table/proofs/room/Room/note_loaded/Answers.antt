use Rattle.std.proofs.Common.{◌≡◌, ◌∙◌, ℕ, Option, subst, sym}
use Rattle.hb_club.specs.declared.clerks.ClerkNote.TheVariants as note
use Rattle.hb_club.specs.EndedReplays.{Finished}
use Rattle.hb_club.specs.RoomEvents.{Loaded, Notes, read_text}
use Rattle.hb_club.proofs.WholeGamesLemmas.{note_event-whole}
use Rattle.hb_table.specs.Changes.{due_in}
use Rattle.hb_table.specs.Clerk.{Noting}
use Rattle.hb_table.proofs.ClerkLemmas.{pending-table}
use Rattle.hb_table.proofs.TimedLemmas.{out-stays, timed-at}
use Rattle.hb_table.proofs.ViewLemmas.{if-ok}
use Rattle.hb_table.proofs.room.Room.note_loaded.Goals as goal

pub returns-then-not-is_waiting-clause-ok : goal.returns-then-not-is_waiting-clause-ok
returns-then-not-is_waiting-clause-ok c =
    if-ok c.note_unasked.result (λ noted is. is c.args.table c.args.id (read_text c.args.text.now)
    (sym c.is_waiting.ensures ∙ c.if-not-is_waiting.true) (note_event-whole c.args.moment (note.Loaded c.args.table c.args.id
    c.args.text.now)))
    c.note_unasked.ensures.ok

pub returns-clause-ok : goal.returns-clause-ok
returns-clause-ok c =
    let stays = out-stays (due_in c.reserve.new.self c.in_time.result) c.reserve.new.self c.apply_time.new.self c.apply_time.ensures.out in
    let table : c.apply_time.new.self.latest ≡ c.args.table = stays.0 ∙ (c.reserve.ensures.same.latest
    ∙ sym (pending-table c.args.self.now.latest c.args.table c.args.id c.args.self.now.load (sym c.is_waiting.ensures
    ∙ c.if-not-is_waiting.false))) in
    subst (λ (g : Option Finished). Noting c.args.moment (Loaded c.args.table c.args.id g) c.take_loaded.result c.apply_time.new.self
    c.take_loaded.new.self)
    c.in_ok-game.ensures
    (subst (λ (t : ℕ). Noting c.args.moment (Loaded t c.args.id c.in_ok-game.game) c.take_loaded.result c.apply_time.new.self
    c.take_loaded.new.self) table
    c.take_loaded.ensures.done) c.args.self.now
    (timed-at (Notes c.args.moment (Loaded c.args.table c.args.id (read_text c.args.text.now))) c.args.self.now c.reserve.new.self
    c.apply_time.new.self
    c.in_time.result c.in_time.ensures c.reserve.ensures.same c.apply_time.ensures.out)
    (note_event-whole c.args.moment (note.Loaded c.args.table c.args.id c.args.text.now))
