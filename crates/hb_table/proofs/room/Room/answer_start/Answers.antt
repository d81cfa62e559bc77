use Rattle.std.proofs.Common.{◌≡◌, ◌∙◌, ap, false, sym}
use Rattle.hb_club.specs.CommandKinds.{is_look}
use Rattle.hb_club.specs.RoomEvents.{Call}
use Rattle.hb_table.proofs.HeadLemmas.{no-start-moves}
use Rattle.hb_table.proofs.StepLemmas.{refused-steps}
use Rattle.hb_table.proofs.TimedLemmas.{timed-bare}
use Rattle.hb_table.proofs.room.Room.answer_start.Goals as goal

pub returns-in-Some-clause-ok : goal.returns-in-Some-clause-ok
returns-in-Some-clause-ok c = λ a facts.
    let look : is_look c.args.e.now.command ≡ false = ap is_look c.requires.starts.command_is in
    refused-steps a c.args.self.now c.keep_entry.new.self c.args.e.now c.in-Some.reply look
    (timed-bare (Call c.args.e.now) a c.args.self.now facts c.requires.starts.bare) (sym c.verdict.ensures
    ∙ c.in-Some.is) c.keep_entry.ensures

pub returns-in-Some-clause-head : goal.returns-in-Some-clause-head
returns-in-Some-clause-head c = no-start-moves c.args.e.now _ c.args.self.now c.keep_entry.new.self c.keep_entry.ensures
