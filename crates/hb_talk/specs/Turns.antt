-- What does a session write at a turn, and what does it keep? Both are functions of what it was to
-- do and of what it heard.
use Rattle.std.specs.Prelude.{ℕ, Bool, true, false, ◌&&◌, ◌==◌, List, [], ◌∷◌, ◌++◌, Option, Some, None, if◌then◌else◌, length}
use Rattle.hb_io.specs.declared.got.Got.{Got}
use Rattle.hb_wire.specs.declared.lines.WireLine.TheVariants as wire
use Rattle.hb_wire.specs.WireLine.{line_text}
use Rattle.hb_club.specs.declared.commands.Entry.{Entry}
use Rattle.hb_club.specs.declared.lobby.LobbyReply.{LobbyReply}
use Rattle.hb_club.specs.declared.lobby.LobbyReply.TheVariants.{Welcome}
use Rattle.hb_club.specs.CommandKinds.{is_look}
use Rattle.hb_club.specs.Fronts.{Fronts, House, is_room, site_of}
use Rattle.hb_club.specs.Lobby.{lobby_answer}
use Rattle.hb_club.specs.RoomEvents.{Outcome, Replied}
use Rattle.hb_club.specs.Rooms.{answer_to}
use Rattle.hb_club.specs.Seating.{same_viewer}
use Rattle.hb_club.specs.Views.{View, view_at}
use Rattle.hb_talk.specs.declared.errands.Denial.TheVariants.{NoSuchRoom}
use Rattle.hb_talk.specs.declared.errands.Errand.{Errand}
use Rattle.hb_talk.specs.declared.errands.Errand.TheVariants as errand
use Rattle.hb_talk.specs.declared.sessions.Marks.{Marks}
use Rattle.hb_talk.specs.declared.sessions.Session.{Session}
use Rattle.hb_talk.specs.Errands.{asked}
use Rattle.hb_talk.specs.Replies.{denied_line, lobby_line, reply_line}
use Rattle.hb_talk.specs.Streams.{item_texts, viewer_line}

-- what is written of a room

-- the reply's line; a look has none
abbrev pub reply_lines : Bool → ℕ → Outcome → List (List ℕ)
reply_lines false number (Replied reply) = reply_line number reply ∷ []
reply_lines _ number _ = []

-- how many items were written, if room, table and viewer are those of the marks
abbrev pub marked_count : Option Marks → ℕ → View → Option ℕ
marked_count None room w = None
marked_count (Some m) room w =
    if m.room == room && m.table == w.latest && same_viewer m.viewer w.viewer
    then Some m.count else None

-- the items behind those that were written; if none were, a line that begins the stream, and all
-- items
abbrev pub stream_from : Option ℕ → ℕ → View → List (List ℕ)
stream_from (Some count) room w = item_texts w count
stream_from None room w = viewer_line w.viewer room w.latest ∷ item_texts w 0

abbrev pub stream_when : Bool → Option Marks → ℕ → View → List (List ℕ)
stream_when true marks room w = []
stream_when false marks room w = stream_from (marked_count marks room w) room w

-- the stream of a room; nothing if no table was opened
abbrev pub stream : Option Marks → ℕ → View → List (List ℕ)
stream marks room w = stream_when (w.latest == 0) marks room w

-- the marks that it leaves
abbrev pub marks_of : ℕ → View → Option Marks
marks_of room w = if w.latest == 0 then None else Some (record {
  room = room;
  table = w.latest;
  viewer = w.viewer;
  count = length w.items;
})

-- the turn

-- what a turn hears: nothing, that there is no such room, the lobby's reply, or the room's answer
-- with the member's view
pub data Heard : Type 0 where
  Silence : Heard
  NoRoom : Heard
  FromLobby : (reply : LobbyReply) → Heard
  FromRoom : (room : ℕ) (entry : Entry) (answer : Outcome) (view : View) → Heard

-- what a turn writes, and the session that it leaves
pub record Turn : Type 0 where
  pub texts : List (List ℕ)
  pub left : Session

-- what is written without a call
abbrev pub own_lines : Errand → List (List ℕ)
own_lines (errand.Bad why) = line_text (wire.Bad why) ∷ []
own_lines (errand.Denied why) = denied_line why ∷ []
own_lines _ = []

-- the name that the lobby's reply binds
abbrev pub bound_name : LobbyReply → Option (List ℕ)
bound_name (Welcome name) = Some name
bound_name _ = None

-- the turn of a session, by what it was to do and what it heard
abbrev pub turn_on : Session → Errand → Heard → Turn
turn_on s task Silence = record { texts = own_lines task; left = s }
turn_on s task NoRoom = record { texts = denied_line NoSuchRoom ∷ []; left = s }
turn_on s task (FromLobby reply) =
    record { texts = lobby_line reply ∷ []; left = record s { name = bound_name reply } }
turn_on s task (FromRoom room e answer w) = record {
  texts = reply_lines (is_look e.command) e.number answer ++ stream s.marks room w;
  left = record s { followed = Some room; marks = marks_of room w };
}

-- what is heard of a room, by the lists after the turn
abbrev pub heard_when : Bool → House → Fronts → ℕ → Entry → Heard
heard_when true h after room e = let site = site_of h room in let events = after.rooms room in
    FromRoom room e (answer_to site events) (view_at site events e.member)
heard_when false h after room e = NoRoom

-- what is heard in a house of so many rooms
abbrev pub heard : House → ℕ → Fronts → Errand → Heard
heard h count after (errand.Enters entry) = FromLobby (lobby_answer after.lobby)
heard h count after (errand.Calls room e) = heard_when (is_room count room) h after room e
heard h count after _ = Silence

-- the turn for an errand, and the turn for what came
unfoldable pub turn_of : House → ℕ → Fronts → Session → Errand → Turn
turn_of h count after s task = turn_on s task (heard h count after task)

abbrev pub turn : House → ℕ → Fronts → Session → ℕ → Got → Turn
turn h count after s moment came = turn_of h count after s (asked s moment came)
