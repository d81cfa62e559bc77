-- What may a turn of a room, or of the lobby, do behind a turnstile?
use Rattle.std.specs.Prelude.{◌≡◌, ⊤, List, [], ◌∷◌, ◌++◌}
use Rattle.hb_club.specs.declared.lobby.LobbyEntry.{LobbyEntry}
use Rattle.hb_club.specs.HallAnswers.{HasRun, IsNoted, IsRoomAnswer, IsTodo}
use Rattle.hb_club.specs.Lobby.{Bound, bound_with, lobby_reply}
use Rattle.hb_club.specs.RoomEvents.{AsksTodo, Call, RoomEvent, Site, note_event}
use Rattle.hb_hall.specs.declared.guarded.LobbyTurn.{LobbyTurn}
use Rattle.hb_hall.specs.declared.guarded.LobbyTurn.TheVariants as lobby
use Rattle.hb_hall.specs.declared.guarded.RoomCall.{RoomCall}
use Rattle.hb_hall.specs.declared.guarded.RoomCall.TheVariants.{AskTodo, Enter, TakeNote}
use Rattle.hb_hall.specs.declared.guarded.RoomReply.{RoomReply}
use Rattle.hb_hall.specs.declared.guarded.RoomReply.TheVariants.{Entered, NoMemory, Noted, Owes}

-- the event of a call, by its reply: none if the room had no memory for the call. No reply is of
-- another kind than its call; one that was would count as want of memory
abbrev pub room_event : RoomCall → RoomReply → List RoomEvent
room_event (Enter entry seen) (Entered answered) = Call entry ∷ []
room_event (AskTodo moment) (Owes todo) = AsksTodo moment ∷ []
room_event (TakeNote moment note) (Noted noted) = note_event moment note ∷ []
room_event _ _ = []

-- a reply answers a call as a room does whose list ends with the event of the call
abbrev pub IsRightReply : Site → RoomCall → RoomReply → List RoomEvent → Type 0
IsRightReply s (Enter entry seen) (Entered answered) events =
    IsRoomAnswer s entry seen answered events
IsRightReply s (AskTodo moment) (Owes todo) events = IsTodo s todo events
IsRightReply s (TakeNote moment note) (Noted noted) events = IsNoted s noted events
IsRightReply s _ _ events = ⊤

-- the run of the key of a game that is due is one that a keeper gives
abbrev pub HasRunIn : RoomReply → Type 0
HasRunIn (Owes todo) = HasRun todo.save
HasRunIn _ = ⊤

-- one turn of a room: for each list for which it stood, it stands for that list with the event of
-- the call, and its reply is right there
abbrev pub RoomTurns : {R : Type 0} → (site : R → Site)
    → (stands : R → List RoomEvent → Type 0) → R → RoomCall → RoomReply → R → Type 0
RoomTurns site stands room call reply after =
    (site after ≡ site room) × HasRunIn reply
    × ((events : List RoomEvent) → stands room events
    → stands after (room_event call reply ++ events)
    × IsRightReply (site room) call reply (room_event call reply ++ events))

-- the entry of a call of the lobby, by its reply: none if the lobby had no memory for it
abbrev pub lobby_event : LobbyEntry → LobbyTurn → List LobbyEntry
lobby_event entry (lobby.Told reply) = entry ∷ []
lobby_event entry lobby.NoMemory = []

-- one turn of the lobby, of the names bound before and after it
abbrev pub LobbyTurns : List Bound → LobbyEntry → LobbyTurn → List Bound → Type 0
LobbyTurns bound entry (lobby.Told reply) after =
    (reply ≡ lobby_reply bound entry) × (after ≡ bound_with entry bound)
LobbyTurns bound entry lobby.NoMemory after = after ≡ bound
