use Rattle.std.proofs.Common.{◌∙◌, ℕ, ap, subst}
use Rattle.hb_table.specs.Changes.{TimesOut, due_in}
use Rattle.hb_table.specs.Clerk.{save_at}
use Rattle.hb_table.proofs.ClerkLemmas.{asks-todo}
use Rattle.hb_table.proofs.room.Room.todo.Goals as goal

pub returns-clause-ok : goal.returns-clause-ok
returns-clause-ok c =
    asks-todo c.args.self.now c.reserve.new.self c.apply_time.new.self c.args.moment
    (record { save = c.in_ok-save.save; load = c.load_of-load.result }) c.reserve.ensures.same
    (subst (λ (n : ℕ). TimesOut (due_in c.reserve.new.self n) c.reserve.new.self c.apply_time.new.self) c.in_time-moment.ensures
    c.apply_time.ensures.out)
    (c.in_ok-save.ensures.save ∙ ap (save_at c.reserve.new.self) c.in_time-moment.ensures) c.load_of-load.ensures
