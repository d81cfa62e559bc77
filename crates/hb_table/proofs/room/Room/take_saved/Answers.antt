use Rattle.std.proofs.Common.{◌∙◌, ℕ, subst, sym}
use Rattle.hb_club.specs.declared.items.What.TheVariants as what
use Rattle.hb_table.specs.Changes.{AddsItem}
use Rattle.hb_table.proofs.ClerkLemmas.{saves-game, saves-nothing}
use Rattle.hb_table.proofs.room.Room.take_saved.Goals as goal

pub returns-then-not-is_due-clause-done : goal.returns-then-not-is_due-clause-done
returns-then-not-is_due-clause-done c =
    saves-nothing c.args.self.now c.args.moment c.args.table c.args.id (sym c.is_due.ensures ∙ c.if-not-is_due.true)

pub returns-clause-done : goal.returns-clause-done
returns-clause-done c =
    saves-game c.args.self.now c.add.new.self c.args.moment c.args.table c.args.id (sym c.is_due.ensures ∙ c.if-not-is_due.false)
    (subst (λ (n : ℕ). AddsItem n (what.Saved c.args.id) c.args.self.now.review c.args.self.now c.add.new.self) c.stamp_for-moment.ensures
    c.add.ensures.adds)
