-- What may a member observe of a room? Nothing here has a deck, except for what events show of it.
use Rattle.std.specs.Prelude.{ℕ, ◌-◌, ◌^◌, List, [], Option, Some, None, option_map}
use Rattle.hb_rules.specs.declared.acts.Options.{Options}
use Rattle.hb_rules.specs.declared.events.Event.{Event}
use Rattle.hb_rules.specs.declared.setups.Setup.{Setup}
use Rattle.hb_rules.specs.Observed.{Observed, observed}
use Rattle.hb_seen.specs.Pieces.{pieces}
use Rattle.hb_club.specs.declared.items.Item.{Item}
use Rattle.hb_club.specs.declared.items.Viewer.{Viewer}
use Rattle.hb_club.specs.declared.items.Viewer.TheVariants as viewer
use Rattle.hb_club.specs.EndedReplays.{Finished}
use Rattle.hb_club.specs.OwnEntries.{OwnEntry}
use Rattle.hb_club.specs.RoomEvents.{RoomEvent, Site}
use Rattle.hb_club.specs.Rooms.{past_of, table_at}
use Rattle.hb_club.specs.Seating.{viewer_of}
use Rattle.hb_club.specs.Table.{Table}
use Rattle.hb_club.specs.TableFacts.{own_entries}
use Rattle.hb_club.specs.TableItems.{acts}
use Rattle.hb_club.specs.TimeFirst.{timed_table}

-- a game that was loaded, as everybody sees it: the variant's name and the players' names that its
-- replay has, and what is observed of it if no hand is hidden
pub record LoadedView : Type 0 where
  pub name : List ℕ
  pub players : List (List ℕ)
  pub seen : Observed

-- what a member may observe of the latest table
pub record View : Type 0 where
  -- the table's serial; 0 if no table was opened
  pub latest : ℕ
  pub viewer : Viewer
  -- the variant name and the options that the table was opened with
  pub name : List ℕ
  pub options : Options
  -- the items with their stamps, the newest first
  pub items : List Item
  -- what the viewer is told of the game that was started, in pieces: of the deal, and of each act
  pub pieces : List (List Event)
  pub loaded : Option LoadedView

-- the seats whose cards a viewer does not see, of so many: a player's own or the one whose shadow a
-- watcher is, none for another watcher, and all for a guest
abbrev pub blind_of : Viewer → ℕ → ℕ
blind_of (viewer.Seat seat) count = 2 ^ seat
blind_of (viewer.Watcher (Some seat)) count = 2 ^ seat
blind_of (viewer.Watcher None) count = 0
blind_of viewer.Guest count = 2 ^ count - 1

-- the pieces that a viewer is told of a game
abbrev pub pieces_for : Viewer → Option Setup → List Item → List (List Event)
pieces_for v None items = []
pieces_for v (Some g) items = pieces (blind_of v g.players) g (acts items)

abbrev pub loaded_view : Finished → LoadedView
loaded_view r = record { name = r.name; players = r.players; seen = observed 0 r.game }

-- what a viewer may observe of a table
abbrev pub view_as : Viewer → Table → View
view_as v t = record {
  latest = t.latest;
  viewer = v;
  name = t.name;
  options = t.options;
  items = t.items;
  pieces = pieces_for v t.game t.items;
  loaded = option_map loaded_view t.loaded;
}

-- what a member may observe of it
abbrev pub view_on : Table → List ℕ → View
view_on t member = view_as (viewer_of t.items member) t

-- the view of a member after these events
unfoldable pub view_at : Site → List RoomEvent → List ℕ → View
view_at s events member = view_on (table_at s events) member

-- the view of a member once time was applied to what these events left
abbrev pub view_in_time : Site → List RoomEvent → ℕ → List ℕ → View
view_in_time s events moment member = view_on (timed_table s (past_of s events) moment) member

-- the member's own entries at the latest table
abbrev pub own_at : Site → List RoomEvent → List ℕ → List OwnEntry
own_at s events member = own_entries (table_at s events).latest member (past_of s events)
