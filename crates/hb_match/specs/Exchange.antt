-- Internal: no public clause cites this.
-- Which identities can a card be given, if the other cards of an assignment move on?
use Rattle.std.specs.Prelude.{◌≡◌, ◌≢◌, ℕ, ◌<◌, List, length, slice_index}
use Rattle.hb_sets.specs.Sets.{Has}
use Rattle.hb_match.specs.Matching.{uses, IsEnough}

-- `other` gives the card `id`. Each other card has an identity of its mask in it, and none is used
-- too often. The cards other than this one whose identity is outside the set keep it
pub record Exchanged (masks left chosen other : List ℕ) (free card id : ℕ) : Type 0 where
  pub one_each : length other ≡ length masks
  pub takes : slice_index other card ≡ id
  pub in_mask : (k : ℕ) → k < length masks → k ≢ card
      → Has (slice_index masks k) (slice_index other k)
  pub enough : IsEnough left other
  pub stays : (k : ℕ) → k < length masks → k ≢ card → ¬ Has free (slice_index chosen k)
      → slice_index other k ≡ slice_index chosen k

-- the set has the identities with a copy left over, and the card can be given each member of it,
-- its mask left aside
pub record Gives (masks left chosen : List ℕ) (free card : ℕ) : Type 0 where
  pub spare : (id : ℕ) → uses chosen id < slice_index left id → Has free id
  pub can : (id : ℕ) → Has free id
      → (other : List ℕ) × Exchanged masks left chosen other free card id
