-- Which cards has a variant, how many copies are there of each, and what is a deck? The copies are
-- the rulebook's; Black has one card of each rank, after Hanabi Live.
use Rattle.std.specs.Prelude.{◌≡◌, ℕ, ◌+◌, ◌-◌, ◌*◌, ◌/◌, ◌%◌, nat_lt, nat_le, Bool, true, false, ◌&&◌, ◌||◌, ◌==◌, List, ◌++◌, Option, Some, None, is_some, count_by, flat_map, replicate, if◌then◌else◌, slice_index_or}
use Rattle.std.specs.List.{list_all, range_with_len}
use Rattle.hb_rules.specs.declared.limits.TheConstants.{HIGHEST_RANK, MOST_SUITS}
use Rattle.hb_rules.specs.declared.suits.Identity.{Identity}
use Rattle.hb_rules.specs.declared.suits.Suit.{Suit}
use Rattle.hb_rules.specs.declared.suits.Suit.TheVariants as suit
use Rattle.hb_rules.specs.declared.variants.Variant.{Variant}

-- the two are one identity
abbrev pub same_identity : Identity → Identity → Bool
same_identity a b = a.suit == b.suit && a.rank == b.rank

-- the suit at an index
abbrev pub suit_at : Variant → ℕ → Option Suit
suit_at v i = slice_index_or v.suits i None

-- how many suits the variant has; they stand at the indices below this number
abbrev pub suit_count : Variant → ℕ
suit_count v = count_by is_some v.suits

-- the suit of which there is one card of each rank
abbrev pub is_black : Option Suit → Bool
is_black (Some suit.Black) = true
is_black _ = false

-- how many cards of a rank are in a suit: three 1s, two each of 2, 3 and 4 and one 5, or one of
-- each rank for Black
abbrev pub rank_copies : Option Suit → ℕ → ℕ
rank_copies None rank = 0
rank_copies (Some s) rank =
    if is_black (Some s) || rank == HIGHEST_RANK then 1 else (if rank == 1 then 3 else 2)

-- the cards of the suit at an index, by rank
abbrev pub suit_cards : Variant → ℕ → List Identity
suit_cards v i =
    flat_map (λ rank. replicate (rank_copies (suit_at v i) rank) (record { suit = i; rank = rank }))
    (range_with_len 1 HIGHEST_RANK)

-- all cards of the variant, in order of identity numbers
unfoldable pub cards : Variant → List Identity
cards v = flat_map (suit_cards v) (range_with_len 0 MOST_SUITS)

-- how often an identity stands in a list of cards
abbrev pub count_of : Identity → List Identity → ℕ
count_of id deck = count_by (same_identity id) deck

-- how many copies the variant has of an identity: none of one that is not in it
unfoldable pub copies : Variant → Identity → ℕ
copies v id = count_of id (cards v)

-- each identity stands in the deck as often as there are copies of it, and so nothing else does
abbrev pub IsDeck : Variant → List Identity → Type 0
IsDeck v deck = (id : Identity) → count_of id deck ≡ copies v id

-- the same as a test: an identity that stands neither in the variant's cards nor in the list has no
-- copies and none in the list
abbrev pub is_deck : Variant → List Identity → Bool
is_deck v deck = list_all (λ id. count_of id deck == copies v id) (cards v ++ deck)

-- the number of an identity
abbrev pub number : Identity → ℕ
number id = id.suit * HIGHEST_RANK + (id.rank - 1)

-- the pair is an identity of some variant: the index of one of six suits, and a rank of 1 to 5
abbrev pub in_range : Identity → Bool
in_range id =
    nat_lt id.suit MOST_SUITS && nat_le 1 id.rank && nat_lt id.rank (HIGHEST_RANK + 1)

-- the identity with a number; the identities of a suit stand together, by rank
abbrev pub identity : ℕ → Identity
identity n = record { suit = n / HIGHEST_RANK; rank = n % HIGHEST_RANK + 1 }

-- the variant has cards of the identity with this number
abbrev pub has_number : Variant → ℕ → Bool
has_number v n = nat_lt 0 (copies v (identity n))
