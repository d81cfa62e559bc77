-- How does an entry change what the head of an answer shows, and how many items does it add?
use Rattle.std.specs.Prelude.{◌≡◌, ℕ, ◌+◌, ◌≤◌, Bool, true, false, ⊤, List, Option, Some, None, if◌then◌else◌, length}
use Rattle.hb_club.specs.declared.commands.Entry.{Entry}
use Rattle.hb_club.specs.NewItems.{by_seat}
use Rattle.hb_club.specs.TableFacts.{opening_by}
use Rattle.hb_table.specs.declared.room.Room.{Room}

-- the players stay, or those who are seated begin to play; a new table has none
abbrev pub PlayAfter : Bool → Option (List (Option (List ℕ))) → List (List ℕ)
    → Option (List (Option (List ℕ))) → Type 0
PlayAfter true names seats after = after ≡ None
PlayAfter false (Some names) seats after = after ≡ Some names
PlayAfter false None seats None = ⊤
PlayAfter false None seats (Some names) = names ≡ by_seat seats

-- the table stays, with so many items more at most, and no game is started or loaded
pub record StaysTable (more : ℕ) (a b : Room) : Type 0 where
  pub name : b.name ≡ a.name
  pub loaded : b.loaded ≡ a.loaded
  pub names : b.names ≡ a.names
  pub few : length b.items.items ≤ length a.items.items + more

-- an entry was taken, which opens the next table or does not
pub record MovesHead (opens : Bool) (e : Entry) (a b : Room) : Type 0 where
  pub name : b.name ≡ (if opens then (opening_by e.command).0 else a.name)
  pub loaded : b.loaded ≡ (if opens then None else a.loaded)
  pub names : PlayAfter opens a.names a.seats.items b.names
  pub few : length b.items.items ≤ length a.items.items + 2
