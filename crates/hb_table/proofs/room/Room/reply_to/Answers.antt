use Rattle.hb_table.proofs.HeadLemmas.{refused-stays}
use Rattle.std.proofs.Common.{◌∙◌, sym}
use Rattle.hb_table.proofs.StepLemmas.{few-refused, refused-steps}
use Rattle.hb_table.proofs.room.Room.reply_to.Goals as goal

pub keep_entry-requires-clause-few : goal.keep_entry-requires-clause-few
keep_entry-requires-clause-few c = few-refused c.args.self.now c.args.e.now c.in-Some.reply (sym c.verdict.ensures ∙ c.in-Some.is)

pub returns-in-Some-clause-ok : goal.returns-in-Some-clause-ok
returns-in-Some-clause-ok c = λ a time.
    refused-steps a c.args.self.now c.keep_entry.new.self c.args.e.now c.in-Some.reply c.requires.look time (sym c.verdict.ensures
    ∙ c.in-Some.is)
    c.keep_entry.ensures

pub returns-in-Some-clause-stays : goal.returns-in-Some-clause-stays
returns-in-Some-clause-stays c = refused-stays c.args.e.now _ c.args.self.now c.keep_entry.new.self c.keep_entry.ensures
