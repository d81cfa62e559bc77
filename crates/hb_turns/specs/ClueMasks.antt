-- Which set of identities does each clue touch?
use Rattle.std.specs.Prelude.{◌≡◌, ℕ, ◌+◌, ◌<◌, true, ◌==◌, ◌&&◌, length, slice_index}
use Rattle.hb_rules.specs.declared.acts.Clue.{Clue}
use Rattle.hb_rules.specs.declared.acts.Clue.TheVariants as clue
use Rattle.hb_rules.specs.declared.limits.TheConstants.{HIGHEST_RANK, MOST_SUITS}
use Rattle.hb_rules.specs.declared.variants.Variant.{Variant}
use Rattle.hb_rules.specs.Cards.{identity, has_number}
use Rattle.hb_rules.specs.Touch.{offers, touches}
use Rattle.hb_sets.specs.Sets.{bit}
use Rattle.hb_turns.specs.declared.masks.ClueMasks.{ClueMasks}

-- the set has exactly the variant's identities, by number, that the clue touches
abbrev pub IsMask : Variant → Clue → ℕ → Type 0
IsMask v c set = (n : ℕ) → (bit set n == 1) ≡ (has_number v n && touches v c (identity n))

-- the same for each clue that the variant offers, and for all its identities
pub record AreClueMasks (v : Variant) (masks : ClueMasks) : Type 0 where
  pub many_colors : length masks.colors ≡ MOST_SUITS
  pub many_ranks : length masks.ranks ≡ HIGHEST_RANK
  pub all : (n : ℕ) → (bit masks.all n == 1) ≡ has_number v n
  pub colors : (c : ℕ) → c < MOST_SUITS → offers v (clue.Color c) ≡ true
      → IsMask v (clue.Color c) (slice_index masks.colors c)
  pub ranks : (r : ℕ) → r < HIGHEST_RANK → offers v (clue.Rank (r + 1)) ≡ true
      → IsMask v (clue.Rank (r + 1)) (slice_index masks.ranks r)
