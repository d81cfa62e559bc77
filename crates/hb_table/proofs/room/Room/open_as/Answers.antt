use Rattle.std.proofs.Common.{◌∙◌, ℕ, List, ap, subst, sym}
use Rattle.hb_rules.specs.declared.acts.Options.{Options}
use Rattle.hb_club.specs.RoomEvents.{in_time}
use Rattle.hb_club.specs.TableFacts.{held_options, opening_by}
use Rattle.hb_table.specs.Changes.{OpensTable}
use Rattle.hb_table.proofs.RoomOpenLemmas.{open-steps}
use Rattle.hb_club.specs.declared.commands.Command.{Command}
use Rattle.hb_table.proofs.HeadLemmas.{open-moves}
use Rattle.hb_table.proofs.room.Room.open_as.Goals as goal

pub returns-clause-ok : goal.returns-clause-ok
returns-clause-ok c = λ a facts.
    open-steps a c.args.self.now c.open_with.new.self c.keep_entry.new.self c.args.e.now c.args.name.now c.args.options.now facts
    c.requires.opening
    (subst (λ (o : List ℕ × Options). OpensTable (in_time c.args.e.now.moment) c.args.e.now.table c.args.e.now.member o c.args.self.now
    c.open_with.new.self)
    (sym (ap opening_by c.requires.opening.command_is))
    (subst (λ (n : List ℕ). OpensTable (in_time c.args.e.now.moment) c.args.e.now.table c.args.e.now.member
    (n, held_options c.args.options.now) c.args.self.now c.open_with.new.self) c.in_ok-new.ensures.name_is
    (subst (λ (m : ℕ). OpensTable m c.args.e.now.table c.args.e.now.member (c.in_ok-new.new.name, held_options c.args.options.now)
    c.args.self.now
    c.open_with.new.self) c.in_time.ensures c.open_with.ensures.opens)))
    c.keep_entry.ensures

pub returns-clause-head : goal.returns-clause-head
returns-clause-head c =
    open-moves _ _ _ (c.in_ok-new.new.name, held_options c.args.options.now) c.args.e.now _ c.args.self.now c.open_with.new.self
    c.keep_entry.new.self c.open_with.ensures.opens c.keep_entry.ensures
    (c.in_ok-new.ensures.name_is ∙ sym (ap (λ (k : Command). (opening_by k).0) c.requires.opening.command_is))
