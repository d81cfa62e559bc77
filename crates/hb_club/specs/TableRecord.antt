-- In which order do the items of a table stand, and which seats do its viewers have?
use Rattle.std.specs.Prelude.{◌≡◌, ◌<◌, ◌≤◌, ℕ, ⊤, true, false, List, [], ◌∷◌, Some, None, length}
use Rattle.hb_rules.specs.declared.limits.TheConstants.{MOST_PLAYERS}
use Rattle.hb_club.specs.declared.items.Item.{Item}
use Rattle.hb_club.specs.declared.items.Viewer.{Viewer}
use Rattle.hb_club.specs.declared.items.Viewer.TheVariants as viewer
use Rattle.hb_club.specs.declared.items.What.{What}
use Rattle.hb_club.specs.declared.items.What.TheVariants.{Started, Acted, Paused, Resumed}
use Rattle.hb_club.specs.Seating.{players, viewer_of}
use Rattle.hb_club.specs.TableItems.{is_started}

-- an item may stand on those before it: a game is started once, and acts and pauses are those of a
-- game that was started
abbrev pub StandsOn : List Item → What → Type 0
StandsOn before (Started names) = is_started before ≡ false
StandsOn before (Acted act) = is_started before ≡ true
StandsOn before (Paused by) = is_started before ≡ true
StandsOn before (Resumed by) = is_started before ≡ true
StandsOn before _ = ⊤

-- each item may stand on those before it
abbrev pub AreInOrder : List Item → Type 0
AreInOrder [] = ⊤
AreInOrder (i ∷ items) = StandsOn items i.what × AreInOrder items

-- the seat of a viewer, if it has one, is a seat of some game
abbrev pub HasSeat : Viewer → Type 0
HasSeat (viewer.Seat seat) = seat < MOST_PLAYERS
HasSeat (viewer.Watcher (Some seat)) = seat < MOST_PLAYERS
HasSeat (viewer.Watcher None) = ⊤
HasSeat viewer.Guest = ⊤

-- what holds of the items of each table
pub record IsRecord (items : List Item) : Type 0 where
  pub order : AreInOrder items
  pub few : length (players items) ≤ MOST_PLAYERS
  pub seats : (member : List ℕ) → HasSeat (viewer_of items member)
