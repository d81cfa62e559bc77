-- The number of a variant's cards, suit by suit.
use Rattle.std.proofs.Common.{◌≡◌, ℕ, length}
use Rattle.std.specs.Prelude.{sum_by}
use Rattle.std.specs.List.{range_with_len}
use Rattle.std.proofs.lemmas.List.Concat.{length-flat_map}
use Rattle.hb_rules.specs.declared.variants.Variant.{Variant}
use Rattle.hb_rules.specs.Cards.{cards, suit_cards}

-- the cards of the first suits
abbrev pub size_of : Variant → ℕ → ℕ
size_of v suits = sum_by (λ i. length (suit_cards v i)) (range_with_len 0 suits)

length-cards : (v : Variant) → length (cards v) ≡ size_of v 6
unfolding cards
length-cards v = length-flat_map (suit_cards v) (range_with_len 0 6)

-- those of all suits are all cards
pub size_of-all : (v : Variant) (suits : ℕ) → suits ≡ 6 → size_of v suits ≡ length (cards v)
size_of-all v suits all = rw (all, length-cards v)
