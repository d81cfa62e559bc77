-- Internal: no public clause cites this.
-- How is the next card placed beside those that have an identity, if others are moved? A placed
-- card is one with an index below the length of `chosen`; it holds `slice_index chosen k`.
use Rattle.std.specs.Prelude.{◌≡◌, ℕ, ◌+◌, ◌<◌, ◌==◌, ◌^◌, ◌⊎◌, List, length, slice_index, if◌then◌else◌}
use Rattle.hb_sets.specs.Sets.{Has}
use Rattle.hb_match.specs.Matching.{uses}

-- over has the copies of each identity that are left beside the chosen ones
abbrev pub IsLeftOver : List ℕ → List ℕ → List ℕ → Type 0
IsLeftOver left chosen over = (id : ℕ) → slice_index over id + uses chosen id ≡ slice_index left id

-- each placed card holds an identity of its mask
abbrev pub Holds : List ℕ → List ℕ → Type 0
Holds masks chosen =
    (k : ℕ) → k < length chosen → Has (slice_index masks k) (slice_index chosen k)
    × (slice_index chosen k < 64)

-- no card below n that holds an identity outside the set could take one inside
abbrev pub IsClosed : List ℕ → List ℕ → ℕ → ℕ → Type 0
IsClosed masks chosen free n =
    (k : ℕ) → k < n → ¬ Has free (slice_index chosen k) → (id : ℕ) → Has (slice_index masks k) id
    → ¬ Has free id

-- the placed card `from` holds an identity outside the set and could take `to`, inside
pub record CanMove (masks chosen : List ℕ) (free from to : ℕ) : Type 0 where
  pub in_range : from < length chosen
  pub outside : ¬ Has free (slice_index chosen from)
  pub in_mask : Has (slice_index masks from) to
  pub inside : Has free to
  pub small : to < 64

-- 1 if x is id, else 0
unfoldable pub one : ℕ → ℕ → ℕ
one x id = if x == id then 1 else 0

-- new has one card more than old, and uses one copy more: of `over`, which is in the set.
-- Cards that held an identity of the set hold it still
pub record Places (masks old new : List ℕ) (free over : ℕ) : Type 0 where
  pub longer : length new ≡ length old + 1
  pub holds : Holds masks new
  pub inside : Has free over
  pub small : over < 64
  pub stays : (k : ℕ) → k < length old → Has free (slice_index old k)
      → slice_index new k ≡ slice_index old k
  pub same_uses : (id : ℕ) → uses new id ≡ uses old id + one over id

-- a wider set, which no placed card can move into, and in which the next card has no identity
pub record ShutsOut (masks chosen : List ℕ) (free closed : ℕ) : Type 0 where
  pub wider : (id : ℕ) → Has free id → Has closed id
  pub no_move : IsClosed masks chosen closed (length chosen)
  pub next_out : (id : ℕ) → Has (slice_index masks (length chosen)) id → ¬ Has closed id

-- the next card with the cards below n that hold an identity outside the set, and the union of
-- their masks
pub record Gathers (masks chosen : List ℕ) (closed n cards ids : ℕ) : Type 0 where
  pub next : Has cards (length chosen)
  pub taken : (k : ℕ) → k < n → ¬ Has closed (slice_index chosen k) → Has cards k
  pub only : (k : ℕ) → Has cards k → (k ≡ length chosen)
      ⊎ ((k < n) × ¬ Has closed (slice_index chosen k))
  pub covers : (k : ℕ) → Has cards k → (id : ℕ) → Has (slice_index masks k) id → Has ids id
  pub covered : (id : ℕ) → Has ids id → (k : ℕ) × Has cards k × Has (slice_index masks k) id
  pub narrow : cards < 2 ^ (length chosen + 1)
