-- Are no more seated than may play, whatever a command adds that no row refuses?
use Rattle.std.proofs.Common.{◌≡◌, ℕ, ◌≤◌, List, refl, subst, length, Some, None, Option}
use Rattle.std.specs.Prelude.{option_map}
use Rattle.hb_rules.specs.declared.limits.TheConstants.{MOST_PLAYERS}
use Rattle.hb_review.specs.declared.steps.Step.{Step}
use Rattle.hb_club.specs.declared.commands.Command.{Command}
use Rattle.hb_club.specs.declared.commands.Command.TheVariants as command
use Rattle.hb_club.specs.declared.commands.Entry.{Entry}
use Rattle.hb_club.specs.declared.items.What.{What}
use Rattle.hb_club.specs.declared.items.What.TheVariants as what
use Rattle.hb_club.specs.NewItems.{step_item}
use Rattle.hb_club.specs.Seating.{seated_after}
use Rattle.hb_club.proofs.SeatingLemmas.{one-seat-less, one-seat-more}
use Rattle.hb_table.specs.declared.room.Room.{Room}
use Rattle.hb_table.specs.Steps.{item_in, step_in}
use Rattle.hb_table.specs.Verdicts.{verdict_in}
use Rattle.hb_table.proofs.VerdictLemmas.{taken-free}

-- after an item no more are seated than may play
abbrev pub FewAfter : What → List (List ℕ) → Type 0
FewAfter w seats = length (seated_after w seats) ≤ MOST_PLAYERS

some-same : {A : Type 0} {u v : A} → Some u ≡ Some v → u ≡ v
some-same e = cc

-- so it is of the item of each command that no row refuses, whatever the review is
pub taken-few : (r b : Room) (e : Entry) (w : What) → verdict_in r e ≡ None → length r.seats.items ≤ MOST_PLAYERS
    → item_in b e.member e.command ≡ Some w → FewAfter w r.seats.items
taken-few r b e w none few is = pick e.command refl is
  where
    seats : List (List ℕ)
    seats = r.seats.items

    this : (v : What) → Some v ≡ Some w → FewAfter v seats → FewAfter w seats
    this v same after = subst (λ (u : What). FewAfter u seats) (some-same same) after

    step : (o : Option Step) → option_map step_item o ≡ Some w → FewAfter w seats
    step None same = cc
    step (Some s) same = this (step_item s) same few

    pick : (c : Command) → e.command ≡ c → item_in b e.member c ≡ Some w → FewAfter w seats
    pick command.Sit at same =
        this (what.Sat e.member) same (one-seat-more seats e.member few (taken-free r e none at))
    pick command.Rise at same = this (what.Rose e.member) same (one-seat-less seats e.member few)
    pick (command.Act a) at same = this _ same few
    pick command.Pause at same = this _ same few
    pick command.Resume at same = this _ same few
    pick command.Terminate at same = this _ same few
    pick (command.Watch shadow) at same = this _ same few
    pick command.Leave at same = this _ same few
    pick command.Close at same = this _ same few
    pick (command.Go turn) at same = step (step_in b (command.Go turn)) same
    pick (command.Hypo a) at same = step (step_in b (command.Hypo a)) same
    pick command.Undo at same = step (step_in b command.Undo) same
    pick (command.Open name options) at same = cc
    pick command.Start at same = cc
    pick (command.Note order text) at same = cc
    pick (command.Load id) at same = cc
    pick command.Look at same = cc
