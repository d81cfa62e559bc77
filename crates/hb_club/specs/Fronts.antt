-- For which lists does a hall stand? A list of events for each room, and one of entries for the
-- lobby, each with the newest first.
use Rattle.std.specs.Prelude.{◌≡◌, ◌≢◌, ◌<◌, ◌≤◌, ℕ, Bool, true, ◌&&◌, ◌==◌, List, [], ◌∷◌, ◌++◌, Option, if◌then◌else◌, nat_le, nat_lt}
use Rattle.hb_rules.specs.declared.suits.Identity.{Identity}
use Rattle.hb_club.specs.declared.lobby.LobbyEntry.{LobbyEntry}
use Rattle.hb_club.specs.RoomEvents.{RoomEvent, Site}

-- which house a hall is of: a code of the turnstiles that it calls, none for a hall without them,
-- and what its rooms were made with
pub record House : Type 0 where
  pub turnstiles : List (List ℕ)
  pub seed : List ℕ
  pub written : Option (List Identity)
  pub run : ℕ

-- what a room of a house was made with
abbrev pub site_of : House → ℕ → Site
site_of h room = record { room = room; seed = h.seed; written = h.written; run = h.run }

-- the number is that of one of so many rooms: they are numbered from 1
abbrev pub is_room : ℕ → ℕ → Bool
is_room count room = nat_lt 0 room && nat_le room count

abbrev pub IsRoom : ℕ → ℕ → Type 0
IsRoom count room = (0 < room) × (room ≤ count)

-- the lists of the rooms, by their numbers, and that of the lobby
pub record Fronts : Type 0 where
  pub rooms : ℕ → List RoomEvent
  pub lobby : List LobbyEntry

-- empty lists
abbrev pub no_events : Fronts
no_events = record { rooms = (λ room. []); lobby = [] }

-- the lists with one event more of a room
abbrev pub with_event : ℕ → RoomEvent → Fronts → Fronts
with_event room event f = record {
  rooms = (λ other. if other == room then event ∷ f.rooms other else f.rooms other);
  lobby = f.lobby;
}

-- the lists with one entry more of the lobby
abbrev pub with_entry : LobbyEntry → Fronts → Fronts
with_entry entry f = record { rooms = f.rooms; lobby = entry ∷ f.lobby }

-- the new list goes on from the old one
pub record GoesOn {A : Type 0} (old new : List A) : Type 0 where
  pub more : List A
  pub is : new ≡ more ++ old

-- each list goes on
pub record AllGoOn (old new : Fronts) : Type 0 where
  pub rooms : (room : ℕ) → GoesOn (old.rooms room) (new.rooms room)
  pub lobby : GoesOn old.lobby new.lobby

-- the lists but that of a room are as before
pub record ElseSame (room : ℕ) (old new : Fronts) : Type 0 where
  pub rooms : (other : ℕ) → other ≢ room → new.rooms other ≡ old.rooms other
  pub lobby : new.lobby ≡ old.lobby

-- events of other callers came to a room, and then the call's own. To a hall that is alone, none of
-- other callers come
pub record Takes (alone : Bool) (room : ℕ) (event : RoomEvent) (old new : Fronts) : Type 0 where
  pub others : List RoomEvent
  pub quiet : alone ≡ true → others ≡ []
  pub front : new.rooms room ≡ event ∷ others ++ old.rooms room
  pub rest : ElseSame room old new

-- events of other callers alone came to a room
pub record Waits (alone : Bool) (room : ℕ) (old new : Fronts) : Type 0 where
  pub others : List RoomEvent
  pub quiet : alone ≡ true → others ≡ []
  pub front : new.rooms room ≡ others ++ old.rooms room
  pub rest : ElseSame room old new

-- entries of other callers came to the lobby, and then the call's own
pub record TakesLobby (alone : Bool) (entry : LobbyEntry) (old new : Fronts) : Type 0 where
  pub others : List LobbyEntry
  pub quiet : alone ≡ true → others ≡ []
  pub front : new.lobby ≡ entry ∷ others ++ old.lobby
  pub rooms : (room : ℕ) → new.rooms room ≡ old.rooms room

-- entries of other callers alone came to the lobby
pub record WaitsLobby (alone : Bool) (old new : Fronts) : Type 0 where
  pub others : List LobbyEntry
  pub quiet : alone ≡ true → others ≡ []
  pub front : new.lobby ≡ others ++ old.lobby
  pub rooms : (room : ℕ) → new.rooms room ≡ old.rooms room
