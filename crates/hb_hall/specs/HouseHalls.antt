-- What do halls of one house have in common, and what becomes of their lists if one takes another
-- in?
use Rattle.std.specs.Prelude.{◌≡◌, ⊤, ℕ, false, List, Option, Some, None}
use Rattle.hb_turnstile.specs.Known.{first_pass}
use Rattle.hb_club.specs.declared.shoes.Shoe.{Shoe}
use Rattle.hb_club.specs.Fronts.{AllGoOn, Fronts, House, site_of}
use Rattle.hb_club.specs.RoomEvents.{RoomEvent, Site}
use Rattle.hb_hall.specs.Entrances.{JoinsAt}
use Rattle.hb_hall.specs.MachineTurns.{RoomTurns}
use Rattle.hb_hall.specs.TurnFronts.{Began, Places, RoomPlace, mark_at, place_at}

-- the lists of two halls begin those for which the hall stands into which they are joined
pub record JoinedFronts (Stands : Fronts → Type 0) (own other : Fronts) : Type 0 where
  pub after : Fronts
  pub stands_for : Stands after
  pub own_on : AllGoOn own after
  pub other_on : AllGoOn other after

-- a hall has the marks of another, of its rooms and of its lobby
pub record SameMarks {R : Type 0} (old new : Places R) : Type 0 where
  pub rooms : (room : ℕ) → mark_at new.rooms room ≡ mark_at old.rooms room
  pub lobby : new.lobby.pass.worn ≡ old.lobby.pass.worn

-- what a place has in common with those that are split off from it: all but the number of the pass
abbrev pub without_number : {R : Type 0} → RoomPlace R → RoomPlace R
without_number p = record {
  start = p.start;
  pass = record { table = p.pass.table; number = 0; seen = p.pass.seen; worn = p.pass.worn };
}

-- a room took in a place of the same room
abbrev pub JoinsRoom : {R : Type 0} → (site : R → Site) → (stands : R → List RoomEvent → Type 0)
    → (old other new : Option (RoomPlace R)) → Type 0
JoinsRoom site stands (Some old) (Some other) (Some new) =
    JoinsAt (λ m c r n. RoomTurns site stands m.room c r n.room) old other new
JoinsRoom site stands None None None = ⊤
JoinsRoom site stands _ _ _ = ⊥

-- each room did
abbrev pub JoinsRooms : {R : Type 0} → (site : R → Site) → (stands : R → List RoomEvent → Type 0)
    → (old others new : List (RoomPlace R)) → Type 0
JoinsRooms site stands old others new = (room : ℕ)
    → JoinsRoom site stands (place_at old room) (place_at others room) (place_at new room)

-- the pass of a room came with its turnstile: it has seen nothing, and is not worn
abbrev pub HasFirstPass : {R : Type 0} → Option (RoomPlace R) → Type 0
HasFirstPass (Some p) = p.pass ≡ first_pass p.pass.table
HasFirstPass None = ⊤

-- all rooms have just begun, as rooms of a house
abbrev pub AreNew : {R : Type 0} → (site : R → Site) → (stands : R → List RoomEvent → Type 0)
    → House → List (RoomPlace R) → Type 0
AreNew site stands h rooms = (room : ℕ)
    → Began site stands (site_of h room) (place_at rooms room)
    × HasFirstPass (place_at rooms room)

-- no mark of a hall is set
pub record IsUnworn {R : Type 0} (h : Places R) : Type 0 where
  pub rooms : (room : ℕ) → mark_at h.rooms room ≡ false
  pub lobby : h.lobby.pass.worn ≡ false

-- a house is made with this shoe, for the run with this number
pub record IsMadeWith (shoe : Shoe) (number : ℕ) (h : House) : Type 0 where
  pub seed : h.seed ≡ shoe.seed
  pub written : h.written ≡ shoe.written
  pub run : h.run ≡ number
