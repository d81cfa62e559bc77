use Rattle.std.proofs.Common.{ℕ, Option, subst, sym}
use Rattle.hb_club.specs.declared.clerks.Noted.TheVariants as noted
use Rattle.hb_club.specs.declared.items.What.TheVariants as what
use Rattle.hb_club.specs.EndedReplays.{Finished}
use Rattle.hb_club.specs.RoomEvents.{Loaded}
use Rattle.hb_table.specs.Changes.{AddsItem, LoadsGame}
use Rattle.hb_table.specs.Clerk.{Noting}
use Rattle.hb_table.proofs.ClerkLemmas.{loads-game, loads-none}
use Rattle.hb_table.proofs.room.Room.take_loaded.Goals as goal

pub returns-in-Some-clause-done : goal.returns-in-Some-clause-done
returns-in-Some-clause-done c =
    subst (λ (g : Option Finished). Noting c.args.moment (Loaded c.args.self.now.latest c.args.id g) noted.Loaded c.args.self.now
    c.load_with.new.self)
    (sym c.in-Some.is)
    (loads-game c.args.self.now c.load_with.new.self c.args.moment c.args.id c.in-Some.game c.requires.waits
    (subst (λ (n : ℕ). LoadsGame n c.args.id c.in-Some.game c.args.self.now c.load_with.new.self) c.stamp_for-moment.ensures
    c.load_with.ensures))

pub returns-in-None-clause-done : goal.returns-in-None-clause-done
returns-in-None-clause-done c =
    subst (λ (g : Option Finished). Noting c.args.moment (Loaded c.args.self.now.latest c.args.id g) noted.NoGame c.args.self.now
    c.add.new.self)
    (sym c.in-None.is)
    (loads-none c.args.self.now c.add.new.self c.args.moment c.args.id c.requires.waits
    (subst (λ (n : ℕ). AddsItem n (what.NoGame c.args.id) c.args.self.now.review c.args.self.now c.add.new.self) c.stamp_for-moment.ensures
    c.add.ensures.adds))
