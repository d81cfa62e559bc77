-- For which lists does a hall of new rooms stand?
use Rattle.std.proofs.Common.{◌≡◌, ℕ, ◌+◌, true, false, List, [], ◌∷◌, ◌++◌, Option, Some, None, length, refl, ap, sym, ◌∙◌, subst}
use Rattle.hb_turnstile.specs.Known.{first_pass}
use Rattle.hb_club.specs.declared.shoes.Shoe.{Shoe}
use Rattle.hb_club.specs.Fronts.{House, no_events, site_of}
use Rattle.hb_club.specs.RoomEvents.{RoomEvent, Site}
use Rattle.hb_hall.specs.HouseHalls.{AreNew, HasFirstPass, IsMadeWith, IsUnworn}
use Rattle.hb_hall.specs.MachineTurns.{lobby_event, room_event}
use Rattle.hb_hall.specs.TurnFronts.{Began, Places, RoomPlace, TurnStands, front, front_in, house_of, mark_in, place_at}
use Rattle.hb_hall.proofs.PlaceLemmas.{at-each, place-append-here, place-append-there}

-- a new pass has seen nothing
first-front : {R : Type 0} (o : Option (RoomPlace R)) → HasFirstPass o → [] ≡ front_in o
first-front (Some p) first = sym (ap (λ k. front room_event k.seen) first)
first-front None first = refl

-- and is not worn
first-mark : {R : Type 0} (o : Option (RoomPlace R)) → HasFirstPass o → mark_in o ≡ false
first-mark (Some p) first = ap (λ k. k.worn) first
first-mark None first = refl

-- what a room of a house was made with
pub site-made : (shoe : Shoe) (run : ℕ) (h : House) (room : ℕ) → IsMadeWith shoe run h
    → site_of h room ≡ record { room = room; seed = shoe.seed; written = shoe.written; run = run }
site-made shoe run h room made = rw (made.seed, made.written, made.run) refl

module _ {R : Type 0} (site : R → Site) (stands : R → List RoomEvent → Type 0) where
  -- one new room more
  pub new-more : (h : House) (rooms : List (RoomPlace R)) (p : RoomPlace R) → AreNew site stands h rooms
      → site p.start.room ≡ site_of h (length rooms + 1) → stands p.start.room [] → p.pass ≡ first_pass p.pass.table
      → AreNew site stands h (rooms ++ p ∷ [])
  new-more h rooms p new sited stood first =
      let last = length rooms + 1 in
      let N : ℕ → Option (RoomPlace R) → Type 0 = λ n o. Began site stands (site_of h n) o × HasFirstPass o in
      at-each (λ n. N n (place_at (rooms ++ p ∷ []) n)) last
      (subst (N last) (sym (place-append-here rooms last p refl)) ((sited, stood), first))
      (λ other apart. subst (N other) (sym (place-append-there rooms other p apart)) (new other))

  -- a hall whose rooms and lobby are new stands for empty lists
  pub new-stands : (made : Places R) → AreNew site stands (house_of made) made.rooms → made.lobby.start.lobby ≡ []
      → made.lobby.pass ≡ first_pass made.lobby.pass.table → TurnStands site stands made no_events
  new-stands made new none first = record {
    rooms = (λ n. first-front (place_at made.rooms n) (new n).1);
    lobby = sym (ap (λ k. front lobby_event k.seen) first);
    began = (λ n. (new n).0);
    opened = none;
  }

  -- no mark of it is set
  pub new-unworn : (h : House) (made : Places R) → AreNew site stands h made.rooms → made.lobby.pass ≡ first_pass made.lobby.pass.table
      → IsUnworn made
  new-unworn h made new first =
      record { rooms = (λ n. first-mark (place_at made.rooms n) (new n).1); lobby = ap (λ k. k.worn) first }

-- which house a hall is of whose lobby began with a shoe and a run
pub house-made : {R : Type 0} (made : Places R) (shoe : Shoe) (run : ℕ) → made.lobby.start.shoe.value ≡ shoe → made.lobby.start.run ≡ run
    → IsMadeWith shoe run (house_of made)
house-made made shoe run same number =
    record { seed = ap (λ (s : Shoe). s.seed) same; written = ap (λ (s : Shoe). s.written) same; run = number }
