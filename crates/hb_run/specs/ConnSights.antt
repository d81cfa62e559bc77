-- What may the member of a connection observe at its turns, and what is the connection sent? Lines,
-- events and turns stand newest first.
use Rattle.std.specs.Prelude.{ℕ, Bool, true, false, ◌==◌, List, [], ◌∷◌, ◌++◌, Option, None, bytes_eq, if◌then◌else◌}
use Rattle.hb_io.specs.declared.got.Got.{Got}
use Rattle.hb_keeper.specs.declared.errors.KeepError.{KeepError}
use Rattle.hb_club.specs.declared.commands.Entry.{Entry}
use Rattle.hb_club.specs.declared.lobby.LobbyReply.{LobbyReply}
use Rattle.hb_club.specs.Fronts.{Fronts, House, is_room, site_of}
use Rattle.hb_club.specs.Lobby.{lobby_answer}
use Rattle.hb_club.specs.RoomEvents.{Call, RoomEvent, Site}
use Rattle.hb_club.specs.ViewLaws.{view_for}
use Rattle.hb_club.specs.Views.{View, view_at}
use Rattle.hb_talk.specs.declared.errands.Errand.{Errand}
use Rattle.hb_talk.specs.declared.errands.Errand.TheVariants as errand
use Rattle.hb_talk.specs.declared.scripts.ScriptLine.{ScriptLine}
use Rattle.hb_talk.specs.declared.scripts.ScriptLine.TheVariants as line
use Rattle.hb_talk.specs.Errands.{asked}
use Rattle.hb_talk.specs.Scripts.{Stage, fronts_after, ran_unless, session_of, stage_after}

-- what a member observes of a room

-- an entry of the member, the member's view when it came, and the view behind it
pub record EntrySight : Type 0 where
  pub entry : Entry
  pub before : View
  pub behind : View

abbrev pub own_sight : Bool → Site → List RoomEvent → Entry → List EntrySight
own_sight true s events e = record {
  entry = e;
  before = view_for s events e;
  behind = view_at s (Call e ∷ events) e.member;
} ∷ []
own_sight false s events e = []

-- at each of the member's own entries, from all its connections. No reply is among them
abbrev pub own_sights : Site → List RoomEvent → List ℕ → List EntrySight
own_sights s [] member = []
own_sights s (Call e ∷ events) member =
    own_sight (bytes_eq member e.member) s events e ++ own_sights s events member
own_sights s (_ ∷ events) member = own_sights s events member

-- what a connection observes at a turn

-- nothing, that there is no such room, the lobby's reply, or what its member observed of the room
-- that was called; the newest of these is the turn's own entry
pub data Sight : Type 0 where
  Silence : Sight
  NoRoom : Sight
  FromLobby : (reply : LobbyReply) → Sight
  FromRoom : (room : ℕ) (own : List EntrySight) → Sight

abbrev pub sight_when : Bool → House → Fronts → ℕ → Entry → Sight
sight_when true h after room e =
    FromRoom room (own_sights (site_of h room) (after.rooms room) e.member)
sight_when false h after room e = NoRoom

-- by the lists behind the turn
abbrev pub sight : House → ℕ → Fronts → Errand → Sight
sight h count after (errand.Enters entry) = FromLobby (lobby_answer after.lobby)
sight h count after (errand.Calls room e) = sight_when (is_room count room) h after room e
sight h count after _ = Silence

-- a turn: when it was, what came, and what was observed
pub record ConnTurn : Type 0 where
  pub moment : ℕ
  pub got : Got
  pub sight : Sight

-- the turns of a connection in a script

abbrev pub turn_when : Bool → House → ℕ → Stage → ℕ → ℕ → Got → List ConnTurn
turn_when true h count s conn moment got =
    let task = asked (session_of conn s.sessions) moment got in record {
      moment = moment;
      got = got;
      sight = sight h count (fronts_after count task s.fronts) task;
    } ∷ []
turn_when false h count s conn moment got = []

-- none behind what stopped the script
abbrev pub turn_unless : Option KeepError → House → ℕ → Stage → ℕ → ScriptLine → List ConnTurn
turn_unless None h count s conn (line.Says moment other got) =
    turn_when (other == conn) h count s conn moment got
turn_unless _ h count s conn l = []

unfoldable pub conn_turns : House → ℕ → Stage → ℕ → List ScriptLine → List ConnTurn
conn_turns h count s conn [] = []
conn_turns h count s conn (l ∷ lines) = let before = stage_after h count s lines in
    turn_unless before.stopped h count before conn l ++ conn_turns h count s conn lines

-- what is sent to it

-- a line's text, if it is the connection's
abbrev pub text_to : ℕ → ScriptLine → List ℕ → List ℕ
text_to conn (line.Says moment other got) text = if other == conn then text else []
text_to conn (line.Clerk moment) text = []

-- of the text of a script, what its lines write to the connection
unfoldable pub sent_to : House → ℕ → Stage → ℕ → List ScriptLine → List ℕ
sent_to h count s conn [] = []
sent_to h count s conn (l ∷ lines) = let before = stage_after h count s lines in
    sent_to h count s conn lines
    ++ text_to conn l (ran_unless before.stopped h count before l).text
