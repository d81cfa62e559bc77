-- How far has a session written the items of a room, and what does a turn leave of it?
use Rattle.std.specs.Prelude.{◌≡◌, ℕ, Bool, ⊤, List, Option, Some, None}
use Rattle.hb_club.specs.Fronts.{Fronts, GoesOn, House, site_of}
use Rattle.hb_club.specs.RoomEvents.{RoomEvent}
use Rattle.hb_club.specs.Views.{view_at}
use Rattle.hb_view.specs.declared.cursors.Cursor.{Cursor}
use Rattle.hb_view.specs.Cursors.{Written}
use Rattle.hb_talk.specs.declared.errands.Errand.{Errand}
use Rattle.hb_talk.specs.declared.sessions.Marks.{Marks}
use Rattle.hb_talk.specs.declared.sessions.Session.{Session}
use Rattle.hb_talk.specs.Sessions.{Turned}
use Rattle.hb_talk.specs.Turns.{marks_of}
use Rattle.hb_desk.specs.declared.desks.Desk.{Desk}

-- a session, as the definitions of turns see it
abbrev pub session_of : Desk → Session
session_of d = d.session

-- the marks are those of an earlier list of the room, and the cursor has written the items that
-- the member saw there
pub record HasWritten (h : House) (f : Fronts) (member : List ℕ) (m : Marks) (c : Cursor)
    : Type 0 where
  pub older : List RoomEvent
  pub goes_on : GoesOn older (f.rooms m.room)
  pub marks : marks_of m.room (view_at (site_of h m.room) older member) ≡ Some m
  pub cursor : let w = view_at (site_of h m.room) older member in Written w w.items c

-- only a session with a name has marks; without marks nothing was written
abbrev pub CursorFits : House → Fronts → Option (List ℕ) → Option Marks → Cursor → Type 0
CursorFits h f name None c = ⊤
CursorFits h f None (Some m) c = ⊥
CursorFits h f (Some member) (Some m) c = HasWritten h f member m c

-- a session fits the lists of a hall of this house
abbrev pub DeskFits : House → Fronts → Desk → Type 0
DeskFits h f d = CursorFits h f d.session.name d.session.marks d.cursor

-- a turn of a session for an errand: what `Turned` says of the lists, of the texts and of the
-- session, and the session that is left fits the lists
pub record DeskTurned {S : Type 0} (stands : S → Fronts → Type 0) (h : House) (count : ℕ)
    (alone : Bool) (hall : S) (before : Fronts) (d : Desk) (task : Errand)
    (old new : List (List ℕ)) (left : Desk) : Type 0 where
  pub turned : Turned stands h count alone hall before d.session task old new left.session
  pub fits : DeskFits h turned.after left
