-- Who is seated while a game is there?
use Rattle.std.proofs.Common.{◌≡◌, ◌∙◌, true, false, refl, ap, sym, Some, None, Option}
use Rattle.std.specs.Prelude.{option_map}
use Rattle.hb_review.specs.declared.steps.Step.{Step}
use Rattle.hb_club.specs.declared.commands.Command.{Command}
use Rattle.hb_club.specs.declared.commands.Command.TheVariants as command
use Rattle.hb_club.specs.declared.commands.Entry.{Entry}
use Rattle.hb_club.specs.declared.items.What.{What}
use Rattle.hb_club.specs.CommandKinds.{is_for_gathering}
use Rattle.hb_club.specs.NewItems.{step_item}
use Rattle.hb_table.specs.declared.room.Room.{Room}
use Rattle.hb_table.specs.Items.{is_seating}
use Rattle.hb_table.specs.Steps.{item_in, step_in}
use Rattle.hb_table.specs.Verdicts.{verdict_in}
use Rattle.hb_table.proofs.VerdictLemmas.{taken-gathering}

-- a command that no row refuses moves a seat only where there is no game, whatever the review is
pub taken-bare : (r b : Room) (e : Entry) (w : What) → verdict_in r e ≡ None → item_in b e.member e.command ≡ Some w
    → is_seating w ≡ true → r.game ≡ None
taken-bare r b e w none is seats = pick e.command refl is
  where
    gathers : (c : Command) → e.command ≡ c → is_for_gathering c ≡ true → r.game ≡ None
    gathers c at gathering = r.bare (taken-gathering r e none (ap is_for_gathering at ∙ gathering)).0

    some-same : {u v : What} → Some u ≡ Some v → u ≡ v
    some-same e = cc

    still : (v : What) → Some v ≡ Some w → is_seating v ≡ false → r.game ≡ None
    still v same is = let never : false ≡ true = sym is ∙ (ap is_seating (some-same same) ∙ seats) in cc

    step : (o : Option Step) → option_map step_item o ≡ Some w → r.game ≡ None
    step None same = cc
    step (Some s) same = still (step_item s) same refl

    pick : (c : Command) → e.command ≡ c → item_in b e.member c ≡ Some w → r.game ≡ None
    pick command.Sit at same = gathers command.Sit at refl
    pick command.Rise at same = gathers command.Rise at refl
    pick (command.Act a) at same = still _ same refl
    pick command.Pause at same = still _ same refl
    pick command.Resume at same = still _ same refl
    pick command.Terminate at same = still _ same refl
    pick (command.Watch shadow) at same = still _ same refl
    pick command.Leave at same = still _ same refl
    pick command.Close at same = still _ same refl
    pick (command.Go turn) at same = step (step_in b (command.Go turn)) same
    pick (command.Hypo a) at same = step (step_in b (command.Hypo a)) same
    pick command.Undo at same = step (step_in b command.Undo) same
    pick (command.Open name options) at same = cc
    pick command.Start at same = cc
    pick (command.Note order text) at same = cc
    pick (command.Load id) at same = cc
    pick command.Look at same = cc
