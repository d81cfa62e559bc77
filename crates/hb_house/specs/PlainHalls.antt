-- For which lists does a hall stand that nobody else calls?
use Rattle.std.specs.Prelude.{◌≡◌, ℕ, ◌+◌, List, [], Some, slice_get}
use Rattle.hb_club.specs.declared.shoes.Shoe.{Shoe}
use Rattle.hb_club.specs.Fronts.{Fronts, House, site_of}
use Rattle.hb_club.specs.Lobby.{Bound, bound_of}
use Rattle.hb_club.specs.RoomEvents.{RoomEvent, Site}

-- the house of a hall with rooms of its own, which is made with this shoe and run
abbrev pub house_with : Shoe → ℕ → House
house_with shoe run =
    record { turnstiles = []; seed = shoe.seed; written = shoe.written; run = run }

-- each room stands for its list, and the names are bound that the lobby's list has bound
pub record PlainStands {R : Type 0} (site : R → Site) (stands : R → List RoomEvent → Type 0)
    (h : House) (rooms : List R) (bound : List Bound) (f : Fronts) : Type 0 where
  pub each : (k : ℕ) (r : R) → slice_get rooms k ≡ Some r
      → (site r ≡ site_of h (k + 1)) × stands r (f.rooms (k + 1))
  pub lobby : bound_of f.lobby ≡ bound
