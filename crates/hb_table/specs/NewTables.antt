-- Internal: no public clause cites this.
-- What is a new table made of, and when is one opened?
use Rattle.std.specs.Prelude.{◌≡◌, ℕ, ◌<◌, true, List, [], None}
use Rattle.std.specs.Vec.{vec_len, vec_capacity}
use Rattle.hb_rules.specs.declared.acts.Options.{Options}
use Rattle.hb_club.specs.declared.commands.Command.TheVariants as command
use Rattle.hb_club.specs.declared.commands.Entry.{Entry}
use Rattle.hb_refusals.specs.KeptReplies.{HasSpare, count_at, kept_at}
use Rattle.hb_table.specs.declared.openings.NewTable.{NewTable}
use Rattle.hb_table.specs.declared.room.Room.{Room}
use Rattle.hb_table.specs.Verdicts.{opens_in}

-- nothing happened there yet, and there is room for its first item and its first kept reply
pub record IsNew (name : List ℕ) (t : NewTable) : Type 0 where
  pub name_is : t.name ≡ name
  pub items : t.items.items ≡ []
  pub seats : t.seats.items ≡ []
  pub watchers : t.watchers.items ≡ []
  pub room : vec_len t.items < vec_capacity t.items
  pub spare : HasSpare t.kept
  pub replies : (m : List ℕ) (n : ℕ) → kept_at t.kept m n ≡ None
  pub counts : (m : List ℕ) → count_at t.kept m ≡ 0
  pub notes : t.notes.notes ≡ []

-- an entry opens the next table with this name and these options
pub record IsOpening (e : Entry) (name : List ℕ) (options : Options) (r : Room) : Type 0 where
  pub command_is : e.command ≡ command.Open name options
  pub opens : opens_in r e ≡ true
