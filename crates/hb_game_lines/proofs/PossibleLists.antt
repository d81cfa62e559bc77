-- Which line do the exact sets of a hand make? The line of the hand's possible identities, as a function of what was observed.
use Rattle.std.proofs.Common.{◌≡◌, ℕ, Bool, true, false, cond, List, [], ◌∷◌, refl, ap, arith, sym, ◌∙◌, ◌+◌, ◌++◌, append-nil, map, None, suc, zero}
use Rattle.std.specs.Prelude.{◌==◌, ◌||◌, ◌^◌, All, bit_or, codes, flat_map}
use Rattle.std.specs.List.{range_with_len}
use Rattle.std.proofs.lemmas.Grind.{flat_map-append}
use Rattle.hb_rules.specs.declared.events.Event.{Event}
use Rattle.hb_rules.specs.declared.events.Event.TheVariants as event
use Rattle.hb_rules.specs.Cards.{IsDeck}
use Rattle.hb_rules.specs.Deals.{possible}
use Rattle.hb_rules.specs.Events.{blank, blanked, in_blind}
use Rattle.hb_rules.specs.Observed.{Observed, observed, with_seat}
use Rattle.hb_rules.specs.Positions.{events, hand}
use Rattle.hb_rules.specs.Setup.{Position}
use Rattle.hb_rules.proofs.RangesLemmas.{range_more}
use Rattle.hb_sight.specs.Seen.{seen_position}
use Rattle.hb_sight.proofs.BlindSeats.{in-or}
use Rattle.hb_empathy.specs.Exact.{IsExact, AreHandSets}
use Rattle.hb_wire.specs.Lines.{hand_line, listed}
use Rattle.hb_game_lines.specs.HandLines.{hand_line_of, hand_lines_below, with_possible}
use Rattle.hb_game_lines.proofs.SeenState.{seen_hand-is}

-- an event that is blanked for some seats and then for more is blanked for the more
blanked-more : (some more : ℕ) → ((seat : ℕ) → in_blind some seat ≡ true → in_blind more seat ≡ true) → (e : Event)
    → blanked more (blanked some e) ≡ blanked more e
blanked-more some more within (event.Drawn seat order id) = pick (in_blind some seat) (in_blind more seat) (within seat)
  where
    pick : (a b : Bool) → (a ≡ true → b ≡ true)
        → event.Drawn seat order (cond b None (cond a None id)) ≡ event.Drawn seat order (cond b None id)
    pick true b h = rw (h refl) refl
    pick false b h = refl
blanked-more some more within (event.Played seat order id f) = refl
blanked-more some more within (event.Discarded seat order id) = refl
blanked-more some more within (event.Clued giver to clue t) = refl
blanked-more some more within (event.Ended how by s) = refl
blanked-more some more within (event.Deck deck) = refl

blank-more : (some more : ℕ) → ((seat : ℕ) → in_blind some seat ≡ true → in_blind more seat ≡ true) → (es : List Event)
    → blank more (blank some es) ≡ blank more es
blank-more some more within [] = refl
blank-more some more within (e ∷ es) = rw (blanked-more some more within e, blank-more some more within es) refl

-- what is left for a viewer that does not see a seat's cards either is what the blind set with that seat has observed
with_seat-observed : (blind seat : ℕ) (p : Position) → with_seat (observed blind p) seat ≡ observed (bit_or blind (2 ^ seat)) p
with_seat-observed blind seat p =
    let blinds : ℕ = bit_or blind (2 ^ seat) in
    ap (λ (es : List Event). record (observed blinds p) { events = es })
    (blank-more blind blinds (λ other h. in-or blind seat other ∙ rw h (or-true (other == seat))) (events p))
  where
    or-true : (b : Bool) → (b || true) ≡ true
    or-true true = refl
    or-true false = refl

-- a card with its exact set is the card with its possible identities
card-listed : (seen : Observed) (order set : ℕ) → IsExact seen order set → listed (order, set) ≡ (order, possible seen order)
card-listed seen order set e = ap (λ (numbers : List ℕ). (order, numbers)) e.listed

cards-listed : (seen : Observed) (cards : List (ℕ × ℕ)) → All (λ card. IsExact seen card.0 card.1) cards
    → map listed cards ≡ with_possible seen (map (λ card. card.0) cards)
cards-listed seen [] exact = refl
cards-listed seen ((order, set) ∷ cards) exact =
    rw (
      card-listed seen order set (exact zero (order, set) (omega arith)),
      cards-listed seen cards
          (λ k d low. exact (suc k) d (omega arith)),
    ) refl

-- the line of the exact sets of a hand is the line of the hand
pub hand_line_of-sets : (blind seat : ℕ) (p : Position) (cards : List (ℕ × ℕ)) (text : List ℕ) → IsDeck p.setup.variant p.setup.deck.items
    → AreHandSets (observed (bit_or blind (2 ^ seat)) p) (hand p seat) cards
    → text ≡ hand_line seat (map listed cards) → text ≡ hand_line_of (observed blind p) seat
unfolding hand_line_of
hand_line_of-sets blind seat p cards text full sets is =
    let all : Observed = observed (bit_or blind (2 ^ seat)) p in
    let orders : map (λ card. card.0) cards ≡ hand (seen_position (observed blind p)) seat = sets.orders ∙ sym
    (seen_hand-is blind p seat full) in
    is ∙ (ap (hand_line seat) (cards-listed all cards sets.exact)
    ∙ (ap (λ (held : List ℕ). hand_line seat (with_possible all held)) orders
    ∙ ap (λ (seen : Observed). hand_line seat (with_possible seen (hand (seen_position (observed blind p)) seat)))
    (sym (with_seat-observed blind seat p))))

-- the line of one more hand
pub hand_lines_below-more : (seen : Observed) (n : ℕ)
    → hand_lines_below seen (n + 1) ≡ hand_lines_below seen n ++ (hand_line_of seen n ++ codes "\n")
hand_lines_below-more seen n =
    let line : ℕ → List ℕ = λ seat. hand_line_of seen seat ++ codes "\n" in
    rw range_more (flat_map-append line (range_with_len 0 n) (n ∷ [])
    ∙ ap (λ last. flat_map line (range_with_len 0 n) ++ last) (append-nil (hand_line_of seen n ++ codes "\n")))
