use Rattle.hb_table.specs.Steps.{item_in}
use Rattle.hb_table.proofs.AcceptLemmas.{does-accepts, does-same}
use Rattle.hb_table.proofs.StepLemmas.{few-done}
use Rattle.hb_table.proofs.HeadLemmas.{accepted-stays}
use Rattle.hb_table.proofs.room.Room.accept.Goals as goal

pub keep_entry-requires-clause-few : goal.keep_entry-requires-clause-few
keep_entry-requires-clause-few c =
    let same = does-same c.args.self.now c.act_on.new.self c.args.e.now
    (item_in c.args.self.now c.args.e.now.member c.args.e.now.command) c.act_on.ensures.does in
    few-done c.args.self.now c.act_on.new.self c.args.e.now same.0 same.1 c.requires.taken.none

pub returns-clause-done : goal.returns-clause-done
returns-clause-done c = does-accepts c.args.self.now c.act_on.new.self c.keep_entry.new.self c.args.e.now c.requires.taken c.requires.start
    c.act_on.ensures.does c.keep_entry.ensures

pub returns-clause-stays : goal.returns-clause-stays
returns-clause-stays c =
    accepted-stays (item_in c.args.self.now c.args.e.now.member c.args.e.now.command) c.args.e.now _ c.args.self.now c.act_on.new.self
    c.keep_entry.new.self c.act_on.ensures.does c.keep_entry.ensures
