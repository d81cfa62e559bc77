-- Which views of rooms can be written, and what does a cursor keep while a room goes on?
use Rattle.std.specs.Prelude.{◌≡◌, ℕ, false, ◌==◌, List, ◌++◌}
use Rattle.hb_club.specs.RoomEvents.{RoomEvent, Site}
use Rattle.hb_club.specs.Rooms.{table_at}
use Rattle.hb_club.specs.Views.{view_at}
use Rattle.hb_club.specs.WholeGames.{BringWhole}
use Rattle.hb_view.specs.declared.cursors.Cursor.{Cursor}
use Rattle.hb_view.specs.Cursors.{Written}
use Rattle.hb_view.specs.StreamViews.{IsStream}

-- the view of each member of a room in which a table was opened can be written
abbrev pub ViewsAreStreams : Type 0
ViewsAreStreams = (s : Site) (events : List RoomEvent) (member : List ℕ) → BringWhole events
    → ((table_at s events).latest == 0) ≡ false → IsStream (view_at s events member)

-- a cursor that has written the items of a view has written them of each later view of the same
-- table, for the same viewer
abbrev pub CursorsGoOn : Type 0
CursorsGoOn = (s : Site) (more events : List RoomEvent) (member : List ℕ) (c : Cursor)
    → BringWhole (more ++ events)
    → (view_at s (more ++ events) member).latest ≡ (view_at s events member).latest
    → (view_at s (more ++ events) member).viewer ≡ (view_at s events member).viewer
    → Written (view_at s events member) (view_at s events member).items c
    → Written (view_at s (more ++ events) member) (view_at s events member).items c
