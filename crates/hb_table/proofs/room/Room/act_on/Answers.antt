use Rattle.std.proofs.Common.{◌∙◌, sym}
use Rattle.hb_table.proofs.AcceptLemmas.{taken-reviewed}
use Rattle.hb_table.proofs.FewSeatsLemmas.{taken-few}
use Rattle.hb_table.proofs.KeptGamesLemmas.{taken-bare}
use Rattle.hb_table.proofs.room.Room.act_on.Goals as goal

pub review_step-requires : goal.review_step-requires
review_step-requires c = taken-reviewed c.args.self.now c.args.e.now c.requires.taken.none

pub add-requires-in-Some-item_of-clause-few : goal.add-requires-in-Some-item_of-clause-few
add-requires-in-Some-item_of-clause-few c =
    taken-few c.args.self.now (record c.args.self.now { review = c.review_step.new.review }) c.args.e.now c.in-Some-item_of.what
    c.requires.taken.none c.args.self.now.few_seats (sym c.item_of.ensures ∙ c.in-Some-item_of.is)

pub add-requires-in-Some-item_of-clause-bare : goal.add-requires-in-Some-item_of-clause-bare
add-requires-in-Some-item_of-clause-bare c =
    taken-bare c.args.self.now (record c.args.self.now { review = c.review_step.new.review }) c.args.e.now c.in-Some-item_of.what
    c.requires.taken.none (sym c.item_of.ensures ∙ c.in-Some-item_of.is)
