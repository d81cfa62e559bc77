-- Which seats do the viewers of a table have? Seats of some game, if the players and the shadows are.
use Rattle.std.proofs.Common.{◌≡◌, ℕ, ◌+◌, ◌<◌, ◌≤◌, Bool, true, false, cond, List, [], ◌∷◌, ◌++◌, arith, length, length-append, Some, None, Option}
use Rattle.std.specs.Prelude.{◌==◌, ⊤, bytes_eq, filter, not}
use Rattle.hb_rules.specs.declared.limits.TheConstants.{MOST_PLAYERS}
use Rattle.hb_club.specs.Seating.{Watcher, other_watchers, place_from, shadow_of, viewer_by, without}
use Rattle.hb_club.specs.TableRecord.{HasSeat}
use Rattle.hb_club.specs.TableRefusals.{is_beyond}

-- a shadow is a seat of some game
abbrev pub IsLow : Option ℕ → Type 0
IsLow None = ⊤
IsLow (Some seat) = seat < MOST_PLAYERS

-- and so is that of each watcher
abbrev pub AreLow : List Watcher → Type 0
AreLow [] = ⊤
AreLow (w ∷ rest) = IsLow w.1 × AreLow rest

length-filter-le : (p : List ℕ → Bool) (xs : List (List ℕ)) → length (filter p xs) ≤ length xs
length-filter-le p [] = omega arith
length-filter-le p (x ∷ xs) = pick (p x) (length-filter-le p xs)
  where
    pick : (b : Bool) → length (filter p xs) ≤ length xs → length (cond b (x ∷ filter p xs) (filter p xs)) ≤ length (x ∷ xs)
    pick true ih = omega (arith, ih)
    pick false ih = omega (arith, ih)

-- without a watcher the others are as they were
pub other-low : (name : List ℕ) (all : List Watcher) → AreLow all → AreLow (other_watchers name all)
other-low name [] low = tt
other-low name (w ∷ rest) low = pick (not (bytes_eq w.0 name)) (other-low name rest low.1)
  where
    pick : (b : Bool) → AreLow (other_watchers name rest) → AreLow (cond b (w ∷ other_watchers name rest) (other_watchers name rest))
    pick true ih = (low.0, ih)
    pick false ih = ih

-- one who sits where a seat is free leaves no more than the seats
pub one-seat-more : (names : List (List ℕ)) (name : List ℕ) → length names ≤ MOST_PLAYERS → (length names == MOST_PLAYERS) ≡ false
    → length (without name names ++ name ∷ []) ≤ MOST_PLAYERS
one-seat-more names name few free =
    let less : length (without name names) ≤ length names = length-filter-le (λ other. not (bytes_eq other name)) names in
    let sum : length (without name names ++ name ∷ []) ≡ length (without name names) + 1 = length-append (without name names) (name ∷ []) in
    fewer (length names) (length (without name names)) (length (without name names ++ name ∷ [])) few free less sum
  where
    fewer : (n m k : ℕ) → n ≤ MOST_PLAYERS → (n == MOST_PLAYERS) ≡ false → m ≤ n → k ≡ m + 1 → k ≤ MOST_PLAYERS
    fewer n m k few free less sum = grind arith

-- and so does one who rises
pub one-seat-less : (names : List (List ℕ)) (name : List ℕ) → length names ≤ MOST_PLAYERS → length (without name names) ≤ MOST_PLAYERS
one-seat-less names name few =
    let less : length (without name names) ≤ length names = length-filter-le (λ other. not (bytes_eq other name)) names in
    omega (arith, few, less)

-- a shadow that no row refuses is low
pub low-shadow : (shadow : Option ℕ) (count most : ℕ) → is_beyond shadow count ≡ false → count ≤ most → most ≤ MOST_PLAYERS → IsLow shadow
low-shadow None count most h few six = tt
low-shadow (Some seat) count most h few six = grind arith

-- the place of a player is a seat
abbrev pub IsLowPlace : Option ℕ → ℕ → Type 0
IsLowPlace None most = ⊤
IsLowPlace (Some seat) most = seat < most

-- the place of a name is below the end of the list
pub place_from-low : (k : ℕ) (name : List ℕ) (names : List (List ℕ)) (most : ℕ) → k + length names ≤ most
    → IsLowPlace (place_from k name names) most
place_from-low k name [] most few = tt
place_from-low k name (other ∷ names) most few = pick (bytes_eq name other) (place_from-low (k + 1) name names most (omega (arith, few)))
  where
    pick : (b : Bool) → IsLowPlace (place_from (k + 1) name names) most
        → IsLowPlace (cond b (Some k) (place_from (k + 1) name names)) most
    pick true ih = omega (arith, few)
    pick false ih = ih

-- and so is the shadow of a watcher
abbrev pub IsLowWatch : Option (Option ℕ) → Type 0
IsLowWatch None = ⊤
IsLowWatch (Some shadow) = IsLow shadow

-- the shadow of a name is a watcher's
pub shadow_of-low : (name : List ℕ) (all : List Watcher) → AreLow all → IsLowWatch (shadow_of name all)
shadow_of-low name [] low = tt
shadow_of-low name (w ∷ rest) low = pick (bytes_eq name w.0) (shadow_of-low name rest low.1)
  where
    pick : (b : Bool) → IsLowWatch (shadow_of name rest) → IsLowWatch (cond b (Some w.1) (shadow_of name rest))
    pick true ih = low.0
    pick false ih = ih

-- so the seat of each viewer is one
pub viewer_by-seat : (p : Option ℕ) (watch : Option (Option ℕ)) → IsLowPlace p MOST_PLAYERS → IsLowWatch watch → HasSeat (viewer_by p watch)
viewer_by-seat (Some seat) watch low watch_low = low
viewer_by-seat None (Some (Some seat)) low watch_low = watch_low
viewer_by-seat None (Some None) low watch_low = tt
viewer_by-seat None None low watch_low = tt
