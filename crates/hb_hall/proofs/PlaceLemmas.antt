-- Which room has a number, if a list of rooms is changed at one place or at its end?
use Rattle.std.proofs.Common.{◌≡◌, ◌≢◌, ℕ, ◌+◌, ◌-◌, ◌<◌, ◌≤◌, Bool, true, false, zero, suc, List, [], ◌∷◌, ◌++◌, Option, Some, None, length, map, refl, ap, sym, ◌∙◌, subst, arith, set, nat_eq, if◌then◌else◌, ◌==◌, length-set}
use Rattle.std.proofs.lemmas.Bool.{eqb-false}
use Rattle.std.proofs.lemmas.Bool.Decides.{nat_tests}
use Rattle.std.proofs.lemmas.List.{get_or-set_same}
use Rattle.std.proofs.lemmas.Option.{slice_get-get_or, slice_get-map, slice_get_within}
use Rattle.std.specs.Prelude.{slice_get, option_map}
use Rattle.hb_hall.specs.TurnFronts.{RoomPlace, place_at}

-- what holds at one number, and at each other one, holds at all
pub at-each : (P : ℕ → Type 0) (room : ℕ) → P room → ((other : ℕ) → other ≢ room → P other) → (n : ℕ) → P n
at-each P room here there n = by (nat_eq n room) refl
  where
    by : (b : Bool) → nat_eq n room ≡ b → P n
    by true same = let is : n ≡ room = grind (arith, nat_tests) in subst P (sym is) here
    by false apart = there n (eqb-false n room apart)

-- what is in an option, or else this
abbrev or_this : {X : Type 0} → Option X → X → X
or_this (Some x) d = x
or_this None d = d

-- two options with the same value
pub same-some : {X : Type 0} {x y : X} → Some x ≡ Some y → x ≡ y
same-some {X} {x} e = ap (λ o. or_this o x) e

-- a list that was written at one place, read there
pub get-set-here : {X : Type 0} (xs : List X) (k : ℕ) (x y : X) → slice_get xs k ≡ Some x → slice_get (set xs k y) k ≡ Some y
get-set-here xs k x y is =
    let within : k < length xs = slice_get_within xs k x is in
    let within' : k < length (set xs k y) = omega (arith, length-set xs k y) in
    slice_get-get_or (set xs k y) k y within' ∙ ap Some (get_or-set_same xs k y y within)

-- and read at another place
pub get-set-there : {X : Type 0} (xs : List X) (k j : ℕ) (y : X) → j ≢ k → slice_get (set xs k y) j ≡ slice_get xs j
get-set-there [] k j y apart = refl
get-set-there (x ∷ xs) zero zero y apart = absurd (apart refl)
get-set-there (x ∷ xs) zero (suc j) y apart = refl
get-set-there (x ∷ xs) (suc k) zero y apart = refl
get-set-there (x ∷ xs) (suc k) (suc j) y apart = get-set-there xs k j y (λ e. apart (ap suc e))

-- a list with one element more, read at its end
pub get-append-here : {X : Type 0} (xs : List X) (x : X) → slice_get (xs ++ x ∷ []) (length xs) ≡ Some x
get-append-here [] x = refl
get-append-here (y ∷ xs) x = get-append-here xs x

-- and read elsewhere
pub get-append-there : {X : Type 0} (xs : List X) (x : X) (k : ℕ) → k ≢ length xs → slice_get (xs ++ x ∷ []) k ≡ slice_get xs k
get-append-there [] x zero apart = absurd (apart refl)
get-append-there [] x (suc k) apart = refl
get-append-there (y ∷ xs) x zero apart = refl
get-append-there (y ∷ xs) x (suc k) apart = get-append-there xs x k (λ e. apart (ap suc e))

-- images of a list with one element more
pub map-append-one : {X Y : Type 0} (f : X → Y) (xs : List X) (x : X) → map f (xs ++ x ∷ []) ≡ map f xs ++ f x ∷ []
map-append-one f [] x = refl
map-append-one f (y ∷ xs) x = ap (λ l. f y ∷ l) (map-append-one f xs x)

-- images of a list that was written at one place, with an element of the same image
pub map-set-same : {X Y : Type 0} (f : X → Y) (xs : List X) (k : ℕ) (x y : X) → slice_get xs k ≡ Some x → f y ≡ f x
    → map f (set xs k y) ≡ map f xs
map-set-same f [] k x y is same = refl
map-set-same f (z ∷ xs) zero x y is same = ap (λ v. v ∷ map f xs) (same ∙ ap f (sym (same-some is)))
map-set-same f (z ∷ xs) (suc k) x y is same = ap (λ l. f z ∷ l) (map-set-same f xs k x y is same)

module _ {R : Type 0} where
  -- the room with a number stands one place before it
  pub place-index : (rooms : List (RoomPlace R)) (room k : ℕ) → room ≡ k + 1 → place_at rooms room ≡ slice_get rooms k
  place-index rooms room k at =
      let no : nat_eq room 0 ≡ false = grind (arith, nat_tests) in
      let index : room - 1 ≡ k = omega arith in
      rw (no, index) refl

  -- the room that was written
  pub place-set-here : (rooms : List (RoomPlace R)) (room k : ℕ) (p q : RoomPlace R) → room ≡ k + 1 → place_at rooms room ≡ Some p
      → place_at (set rooms k q) room ≡ Some q
  place-set-here rooms room k p q at was =
      place-index (set rooms k q) room k at ∙ get-set-here rooms k p q (sym (place-index rooms room k at) ∙ was)

  -- another room
  pub place-set-there : (rooms : List (RoomPlace R)) (room k other : ℕ) (q : RoomPlace R) → room ≡ k + 1 → other ≢ room
      → place_at (set rooms k q) other ≡ place_at rooms other
  place-set-there rooms room k other q at apart = by (nat_eq other 0) refl
    where
      by : (b : Bool) → nat_eq other 0 ≡ b → place_at (set rooms k q) other ≡ place_at rooms other
      by true none = rw none refl
      by false some =
          let positive : other ≢ 0 = eqb-false other 0 some in
          let index : other - 1 ≢ k = omega arith in
          rw some (get-set-there rooms k (other - 1) q index)

  -- the room behind the others
  pub place-append-here : (rooms : List (RoomPlace R)) (room : ℕ) (p : RoomPlace R) → room ≡ length rooms + 1
      → place_at (rooms ++ p ∷ []) room ≡ Some p
  place-append-here rooms room p at = place-index (rooms ++ p ∷ []) room (length rooms) at ∙ get-append-here rooms p

  -- the others
  pub place-append-there : (rooms : List (RoomPlace R)) (other : ℕ) (p : RoomPlace R) → other ≢ length rooms + 1
      → place_at (rooms ++ p ∷ []) other ≡ place_at rooms other
  place-append-there rooms other p apart = by (nat_eq other 0) refl
    where
      by : (b : Bool) → nat_eq other 0 ≡ b → place_at (rooms ++ p ∷ []) other ≡ place_at rooms other
      by true none = rw none refl
      by false some =
          let positive : other ≢ 0 = eqb-false other 0 some in
          let index : other - 1 ≢ length rooms = omega arith in
          rw some (get-append-there rooms p (other - 1) index)

  -- a room of the images
  pub place-map : (f : RoomPlace R → RoomPlace R) (rooms : List (RoomPlace R)) (room : ℕ)
      → place_at (map f rooms) room ≡ option_map f (place_at rooms room)
  place-map f rooms room = by (nat_eq room 0) refl
    where
      by : (b : Bool) → nat_eq room 0 ≡ b → place_at (map f rooms) room ≡ option_map f (place_at rooms room)
      by true none = rw none refl
      by false some = rw some (slice_get-map f rooms (room - 1))
