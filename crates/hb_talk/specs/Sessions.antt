-- What does a call of a turn say of the lists for which its hall stands, of the texts and of the
-- session?
use Rattle.std.specs.Prelude.{◌≡◌, ℕ, ◌+◌, Bool, true, false, ◌==◌, ⊤, List, ◌++◌, Option, Some, None, if◌then◌else◌, length}
use Rattle.hb_club.specs.declared.answers.Answered.{Answered}
use Rattle.hb_club.specs.declared.answers.Seen.{Seen}
use Rattle.hb_club.specs.declared.items.Viewer.TheVariants.{Guest}
use Rattle.hb_club.specs.Fronts.{Fronts, GoesOn, House, Takes, TakesLobby, Waits, is_room, site_of}
use Rattle.hb_club.specs.RoomEvents.{Call, RoomEvent}
use Rattle.hb_club.specs.Views.{view_at}
use Rattle.hb_talk.specs.declared.errands.Errand.{Errand}
use Rattle.hb_talk.specs.declared.errands.Errand.TheVariants as errand
use Rattle.hb_talk.specs.declared.sessions.Marks.{Marks}
use Rattle.hb_talk.specs.declared.sessions.Session.{Session}
use Rattle.hb_talk.specs.Turns.{marks_of, turn_of}

-- a session that is new
abbrev pub new_session : Session
new_session = record { name = None; followed = None; marks = None }

-- the lists

-- a call of a room that exists takes its place in the room's list, behind entries of others
abbrev pub RoomCalls : Bool → Bool → ℕ → RoomEvent → Fronts → Fronts → Type 0
RoomCalls true alone room event before after = Takes alone room event before after
RoomCalls false alone room event before after = Waits alone room before after

-- the lists after a turn: its call took its place
abbrev pub TurnCalls : Bool → ℕ → Errand → Fronts → Fronts → Type 0
TurnCalls alone count (errand.Enters entry) before after = TakesLobby alone entry before after
TurnCalls alone count (errand.Calls room e) before after =
    RoomCalls (is_room count room) alone room (Call e) before after
TurnCalls alone count _ before after = after ≡ before

-- the marks

-- they are those of an earlier list of the room: so what was written are the first items of the
-- view, if it is of the same table
pub record MarksAreOf (h : House) (f : Fronts) (member : List ℕ) (m : Marks) : Type 0 where
  pub older : List RoomEvent
  pub goes_on : GoesOn older (f.rooms m.room)
  pub marks : marks_of m.room (view_at (site_of h m.room) older member) ≡ Some m

-- only a session with a name has marks
abbrev pub MarksFit : House → Fronts → Option (List ℕ) → Option Marks → Type 0
MarksFit h f name None = ⊤
MarksFit h f None (Some m) = ⊥
MarksFit h f (Some member) (Some m) = MarksAreOf h f member m

-- what a session tells a hall that it has seen of a room

abbrev pub nothing_seen : Seen
nothing_seen = record { table = 0; viewer = Guest; count = 0 }

abbrev pub seen_of : Option Marks → ℕ → Seen
seen_of None room = nothing_seen
seen_of (Some m) room =
    if m.room == room
    then record { table = m.table; viewer = m.viewer; count = m.count } else nothing_seen

-- the marks that an answer leaves
abbrev pub marks_after : ℕ → Answered → Option Marks
marks_after room a = if a.table == 0 then None else Some (record {
  room = room;
  table = a.table;
  viewer = a.viewer;
  count = a.from + length a.items;
})

-- the turn

-- a turn of a session for an errand: the hall stands for lists at which the texts and the session
-- that is left are those of the turn
pub record Turned {S : Type 0} (stands : S → Fronts → Type 0) (h : House) (count : ℕ)
    (alone : Bool) (hall : S) (before : Fronts) (s : Session) (task : Errand)
    (old new : List (List ℕ)) (left : Session) : Type 0 where
  pub after : Fronts
  pub stands_for : stands hall after
  pub calls : TurnCalls alone count task before after
  pub texts : new ≡ old ++ (turn_of h count after s task).texts
  pub session : left ≡ (turn_of h count after s task).left
  pub fits : MarksFit h after left.name left.marks
