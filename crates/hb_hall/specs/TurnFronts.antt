-- For which lists does a hall stand whose rooms and lobby are behind turnstiles? For what its
-- passes have seen, except the calls for which there was no memory. Lists of events stand newest
-- first, and what a pass has seen stands oldest first.
use Rattle.std.specs.Prelude.{◌≡◌, ⊤, ℕ, ◌-◌, ◌==◌, Bool, false, IsTrue, List, [], ◌∷◌, ◌++◌, Option, Some, None, if◌then◌else◌, IfNone, IfSome, is_none, length, map, slice_get}
use Rattle.atomic_table.specs.Seated.{TableId}
use Rattle.hb_turnstile.specs.declared.view.Entry.{Entry}
use Rattle.hb_club.specs.declared.lobby.LobbyEntry.{LobbyEntry}
use Rattle.hb_club.specs.Fronts.{ElseSame, Fronts, House, site_of}
use Rattle.hb_club.specs.RoomEvents.{RoomEvent, Site}
use Rattle.hb_hall.specs.declared.guarded.GuardedLobby.{GuardedLobby}
use Rattle.hb_hall.specs.declared.guarded.GuardedRoom.{GuardedRoom}
use Rattle.hb_hall.specs.declared.guarded.LobbyTurn.{LobbyTurn}
use Rattle.hb_hall.specs.declared.guarded.RoomCall.{RoomCall}
use Rattle.hb_hall.specs.declared.guarded.RoomReply.{RoomReply}
use Rattle.hb_hall.specs.Entrances.{Place}
use Rattle.hb_hall.specs.MachineTurns.{HasRunIn, IsRightReply, lobby_event, room_event}

-- the hall

-- a room at its turnstile, with a pass
abbrev pub RoomPlace : Type 0 → Type 0
RoomPlace R = Place (GuardedRoom R) RoomCall RoomReply

-- the lobby at its turnstile, with a pass
abbrev pub LobbyPlace : Type 0
LobbyPlace = Place GuardedLobby LobbyEntry LobbyTurn

-- a hall: its rooms, in the order of their numbers, and its lobby
pub record Places (R : Type 0) : Type 0 where
  pub rooms : List (RoomPlace R)
  pub lobby : LobbyPlace

-- the room with a number, if there is one: they are numbered from 1
abbrev pub place_at : {R : Type 0} → List (RoomPlace R) → ℕ → Option (RoomPlace R)
place_at rooms room = if room == 0 then None else slice_get rooms (room - 1)

-- the mark of a room's pass; there is none if there is no room
abbrev pub mark_in : {R : Type 0} → Option (RoomPlace R) → Bool
mark_in (Some p) = p.pass.worn
mark_in None = false

-- the mark of the room with a number
abbrev pub mark_at : {R : Type 0} → List (RoomPlace R) → ℕ → Bool
mark_at rooms room = mark_in (place_at rooms room)

-- the house

-- a turnstile in numbers: no two have the same
abbrev pub table_code : TableId → List ℕ
table_code t =
    t.words ∷ t.slots ∷ t.views_name ∷ t.atom ∷ t.block ∷ t.offset ∷ t.slot_names

-- the turnstile of a room
abbrev pub room_code : {R : Type 0} → RoomPlace R → List ℕ
room_code p = table_code p.pass.table

-- which house a hall is of: it has the turnstile of the lobby, and then those of the rooms. The
-- lobby began with what the rooms were made with
abbrev pub house_of : {R : Type 0} → Places R → House
house_of h = record {
  turnstiles = table_code h.lobby.pass.table ∷ map room_code h.rooms;
  seed = h.lobby.start.shoe.value.seed;
  written = h.lobby.start.shoe.value.written;
  run = h.lobby.start.run;
}

-- the lists

-- the events of a history, by the event of each call with its reply
abbrev pub front : {C R E : Type 0} → (event : C → R → List E) → List (Entry C R) → List E
front event [] = []
front event (e ∷ es) = front event es ++ event e.call e.reply

-- the events of a room that its pass has seen; none of no room
abbrev pub front_in : {R : Type 0} → Option (RoomPlace R) → List RoomEvent
front_in (Some p) = front room_event p.pass.seen
front_in None = []

-- the events of the room with a number
abbrev pub front_at : {R : Type 0} → List (RoomPlace R) → ℕ → List RoomEvent
front_at rooms room = front_in (place_at rooms room)

-- a room began with no event, and was made with this
abbrev pub Began : {R : Type 0} → (site : R → Site) → (stands : R → List RoomEvent → Type 0)
    → Site → Option (RoomPlace R) → Type 0
Began site stands s (Some p) = (site p.start.room ≡ s) × stands p.start.room []
Began site stands s None = ⊤

-- each list has what the pass of its room or of the lobby has seen; each room began as one of the
-- house, with no event, and the lobby with no name
pub record TurnStands {R : Type 0} (site : R → Site) (stands : R → List RoomEvent → Type 0)
    (h : Places R) (f : Fronts) : Type 0 where
  pub rooms : (room : ℕ) → f.rooms room ≡ front_at h.rooms room
  pub lobby : f.lobby ≡ front lobby_event h.lobby.pass.seen
  pub began : (room : ℕ)
      → Began site stands (site_of (house_of h) room) (place_at h.rooms room)
  pub opened : h.lobby.start.lobby ≡ []

-- a call of a room

-- the lists after it: events of others came to the room, and then the call's own, if it has one
pub record Happens (Stands : Fronts → Type 0) (room : ℕ) (event : List RoomEvent)
    (IsReply : List RoomEvent → Type 0) (before : Fronts) : Type 0 where
  pub after : Fronts
  pub stands_for : Stands after
  pub others : List RoomEvent
  pub front : after.rooms room ≡ event ++ (others ++ before.rooms room)
  pub rest : ElseSame room before after
  pub reply : IsReply (after.rooms room)

-- what a call of a room does to its hall; no reply comes exactly if the room is worn
pub record CallsRoom {R : Type 0} (site : R → Site) (stands : R → List RoomEvent → Type 0)
    (old : Places R) (room : ℕ) (call : RoomCall) (reply : Option RoomReply) (new : Places R)
    : Type 0 where
  pub house : house_of new ≡ house_of old
  pub count : length new.rooms ≡ length old.rooms
  pub lobby : new.lobby ≡ old.lobby
  pub mark : mark_at new.rooms room ≡ is_none reply
  pub marks : (other : ℕ) → IsTrue (mark_at old.rooms other) → IsTrue (mark_at new.rooms other)
  pub run : IfSome reply HasRunIn
  pub answered : (f : Fronts) → TurnStands site stands old f
      → IfSome reply (λ r. Happens (TurnStands site stands new) room (room_event call r)
      (IsRightReply (site_of (house_of old) room) call r) f)
  pub refused : (f : Fronts) → TurnStands site stands old f
      → IfNone reply (TurnStands site stands new f)
