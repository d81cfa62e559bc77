-- The cards of a variant in order: one rank and one suit more.
use Rattle.std.proofs.Common.{◌≡◌, ℕ, ◌+◌, ◌-◌, ◌<◌, ◌≤◌, List, [], ◌∷◌, ◌++◌, replicate, arith, refl, ap, sym, ◌∙◌}
use Rattle.std.specs.Prelude.{flat_map}
use Rattle.std.specs.List.{range_with_len}
use Rattle.std.proofs.lemmas.List.{map-id, append-nil}
use Rattle.std.proofs.lemmas.List.Concat.{flat_map-append}
use Rattle.std.proofs.lemmas.List.FromFn.{map-range_with_len_more}
use Rattle.hb_rules.specs.declared.suits.Identity.{Identity}
use Rattle.hb_rules.specs.declared.variants.Variant.{Variant}
use Rattle.hb_rules.specs.Cards.{cards, copies, suit_at, rank_copies, suit_cards}
use Rattle.hb_rules.proofs.Copies.{copies_is}

-- what a list of numbers gives, with the next number behind
flat_map-range_more : {Y : Type 0} (f : ℕ → List Y) (a n i : ℕ) → a + n ≡ i
    → flat_map f (range_with_len a (n + 1)) ≡ flat_map f (range_with_len a n) ++ f i
flat_map-range_more f a n i e =
    let more : range_with_len a (n + 1) ≡ range_with_len a n ++ i ∷ [] = simp map-id at (map-range_with_len_more (λ (x : ℕ). x) a n i e) in
    rw (more, flat_map-append, append-nil (f i)) refl

-- the cards of a suit up to a rank
abbrev pub cards_to : Variant → ℕ → ℕ → List Identity
cards_to v suit rank = flat_map (λ r. replicate (rank_copies (suit_at v suit) r) (record { suit = suit; rank = r })) (range_with_len 1 rank)

copies-in : (v : Variant) (suit rank : ℕ) → suit < 6 → 1 ≤ rank → rank < 6
    → copies v (record { suit = suit; rank = rank }) ≡ rank_copies (suit_at v suit) rank
copies-in v suit rank a b c = rw copies_is (grind arith)

-- the cards of a suit up to one more rank
pub cards_to-more : (v : Variant) (suit rank : ℕ) → suit < 6 → 1 ≤ rank → rank < 6
    → cards_to v suit (rank - 1)
    ++ replicate (copies v (record { suit = suit; rank = rank })) (record { suit = suit; rank = rank })
    ≡ cards_to v suit rank
cards_to-more v suit rank low one high =
    let e : 1 + (rank - 1) ≡ rank = omega arith in
    let e' : rank - 1 + 1 ≡ rank = omega arith in
    rw (copies-in v suit rank low one high)
    (sym
    (flat_map-range_more
    (λ r. replicate (rank_copies (suit_at v suit) r) (record { suit = suit; rank = r })) 1 (rank - 1)
    rank e)
    ∙ ap (cards_to v suit) e')

-- the cards of the first suits
abbrev pub cards_below : Variant → ℕ → List Identity
cards_below v suits = flat_map (suit_cards v) (range_with_len 0 suits)

-- the cards of one more suit
pub cards_below-more : (v : Variant) (suit : ℕ) → cards_below v suit ++ suit_cards v suit ≡ cards_below v (suit + 1)
cards_below-more v suit = sym (flat_map-range_more (suit_cards v) 0 suit suit (omega arith))

-- those of all suits
pub cards_below-all : (v : Variant) → cards_below v 6 ≡ cards v
unfolding cards
cards_below-all v = refl
