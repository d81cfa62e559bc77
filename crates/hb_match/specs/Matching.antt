-- What is an assignment of identities to cards, when is there none, and which identities can a card
-- have?
--
-- `masks` has a set of identities for each card, and `left` the copies that are left of each
-- identity, by its number. `slice_index left id` is 0 past the end of `left`: a number there names
-- no identity, and no assignment uses it.
use Rattle.std.specs.Prelude.{◌≡◌, ℕ, ◌*◌, ◌<◌, ◌≤◌, ◌↔◌, ◌==◌, List, length, map, slice_index, sum, count_by, count_ones}
use Rattle.std.specs.List.{range_with_len}
use Rattle.hb_sets.specs.Sets.{bit, Has}

-- how many of the chosen identities are id
unfoldable pub uses : List ℕ → ℕ → ℕ
uses chosen id = count_by (λ x. x == id) chosen

-- no identity is chosen more often than copies of it are left
abbrev pub IsEnough : List ℕ → List ℕ → Type 0
IsEnough left chosen = (id : ℕ) → uses chosen id ≤ slice_index left id

-- one identity for each card, of its mask, and none more often than copies of it are left
pub record IsAssignment (masks left chosen : List ℕ) : Type 0 where
  pub one_each : length chosen ≡ length masks
  pub in_mask : (k : ℕ) → k < length masks → Has (slice_index masks k) (slice_index chosen k)
  pub enough : IsEnough left chosen

-- there is no assignment
abbrev pub NoAssignment : List ℕ → List ℕ → Type 0
NoAssignment masks left = (chosen : List ℕ) → ¬ IsAssignment masks left chosen

-- the card has the identity in some assignment
abbrev pub Possible : List ℕ → List ℕ → ℕ → ℕ → Type 0
Possible masks left card id =
    (chosen : List ℕ) × IsAssignment masks left chosen × (slice_index chosen card ≡ id)

-- the members of the set are the identities that the card has in some assignment
abbrev pub IsPossibleSet : List ℕ → List ℕ → ℕ → ℕ → Type 0
IsPossibleSet masks left card set = (id : ℕ) → Has set id ↔ Possible masks left card id

-- the copies that are left of all identities of a set, together
abbrev pub copies_over : List ℕ → ℕ → ℕ
copies_over left ids =
    sum (map (λ id. bit ids id * slice_index left id) (range_with_len 0 (length left)))

-- Hall's condition fails for a set of cards, by index: for the identities of their masks, fewer
-- copies are left than there are cards
pub record IsObstruction (masks left : List ℕ) (cards ids : ℕ) : Type 0 where
  pub in_range : (k : ℕ) → Has cards k → k < length masks
  pub union : (id : ℕ) → Has ids id ↔ ((k : ℕ) × Has cards k × Has (slice_index masks k) id)
  pub too_few : copies_over left ids < count_ones cards
