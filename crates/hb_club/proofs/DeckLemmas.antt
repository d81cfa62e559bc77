-- How many cards has the deck that a room deals a table? As many as the variant: the written deck is one of the variant, and a
-- shuffle keeps the length.
use Rattle.std.proofs.Common.{◌≡◌, ℕ, ◌-◌, Bool, true, false, List, zero, suc, refl, ◌∙◌, length, Some, None, Option}
use Rattle.std.specs.Prelude.{nat_lt, if◌then◌else◌, ◌^◌}
use Rattle.std.proofs.lemmas.List.Edits.{length-swap}
use Rattle.rand_core.specs.Stream.{Stream}
use Rattle.rand.specs.Shuffle.{Chooser, chooser_at, narrow_swaps, shuffled, wide_swaps}
use Rattle.hb_rules.specs.declared.acts.Options.{Options}
use Rattle.hb_rules.specs.declared.suits.Identity.{Identity}
use Rattle.hb_rules.specs.declared.variants.Variant.{Variant}
use Rattle.hb_rules.specs.Cards.{cards, is_deck}
use Rattle.hb_rules.proofs.IsDeal.{deck-is}
use Rattle.hb_rules.proofs.DeckSize.{deck-length}
use Rattle.hb_seen.specs.SeenSetup.{HasCards}
use Rattle.hb_club.specs.RoomEvents.{Site}
use Rattle.hb_club.specs.TableFacts.{deck_by, deck_when, setup_for, shuffled_deck}

length-narrow_swaps : {X : Type 0} (xs : List X) (c : Chooser) (s : Stream) (k : ℕ) → length (narrow_swaps xs c s k).0 ≡ length xs
unfolding narrow_swaps
length-narrow_swaps xs c s zero = refl
length-narrow_swaps xs c s (suc k) = length-swap _ _ _ ∙ length-narrow_swaps xs c s k

length-wide_swaps : {X : Type 0} (xs : List X) (start : ℕ) (s : Stream) (k : ℕ) → length (wide_swaps xs start s k).0 ≡ length xs
unfolding wide_swaps
length-wide_swaps xs start s zero = refl
length-wide_swaps xs start s (suc k) = length-swap _ _ _ ∙ length-wide_swaps xs start s k

length-shuffled : {X : Type 0} (xs : List X) (start : ℕ) (s : Stream) → length (shuffled xs start s).0 ≡ length xs
length-shuffled {X} xs start s = pick (nat_lt (length xs) (2 ^ 32 - 1))
  where
    narrow : List X × Stream
    narrow = let p = narrow_swaps xs (chooser_at start) s (length xs - start) in (p.0, p.2)

    pick : (b : Bool) → length (if b then narrow else wide_swaps xs start s (length xs - start)).0 ≡ length xs
    pick true = length-narrow_swaps xs (chooser_at start) s (length xs - start)
    pick false = length-wide_swaps xs start s (length xs - start)

length-deck_when : (b : Bool) (s : Site) (v : Variant) (serial : ℕ) (written : List Identity) → is_deck v written ≡ b
    → length (deck_when b s v serial written) ≡ length (cards v)
unfolding shuffled_deck
length-deck_when true s v serial written is = deck-length v written (deck-is v written is)
length-deck_when false s v serial written is = length-shuffled (cards v) 0 _

length-deck_by : (written : Option (List Identity)) (s : Site) (v : Variant) (serial : ℕ)
    → length (deck_by written s v serial) ≡ length (cards v)
unfolding shuffled_deck
length-deck_by None s v serial = length-shuffled (cards v) 0 _
length-deck_by (Some written) s v serial = length-deck_when (is_deck v written) s v serial written refl

-- the setup of a room's game has as many cards as its variant
pub setup_for-cards : (s : Site) (serial : ℕ) (o : Options) (count : ℕ) (v : Variant) → HasCards (setup_for s serial o count v)
setup_for-cards s serial o count v = length-deck_by s.written s v serial
