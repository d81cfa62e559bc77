-- Is how a game stands what can be read off each observation of it? Yes, and so are its hands.
use Rattle.std.proofs.Common.{◌≡◌, ℕ, List, [], ◌∷◌, ◌++◌, append_assoc, refl, ap, ◌∙◌, length, map}
use Rattle.std.specs.Prelude.{codes}
use Rattle.std.specs.List.{range_with_len}
use Rattle.hb_rules.specs.declared.acts.Act.{Act}
use Rattle.hb_rules.specs.declared.setups.Setup.{Setup}
use Rattle.hb_rules.specs.declared.suits.Identity.{Identity}
use Rattle.hb_rules.specs.Cards.{IsDeck, cards, suit_count}
use Rattle.hb_rules.specs.Observed.{Observed, observed}
use Rattle.hb_rules.specs.Positions.{hand}
use Rattle.hb_rules.specs.Result.{height}
use Rattle.hb_rules.specs.Setup.{Position}
use Rattle.hb_sight.specs.Seen.{seen_deck, seen_position}
use Rattle.hb_rules.proofs.Copies.{sum_by-same}
use Rattle.hb_rules.proofs.DeckSize.{deck-length}
use Rattle.hb_sight.proofs.Agreement.{SameCounts, SameGone, ended-same, hand-same, same-counts, with_cards}
use Rattle.hb_sight.proofs.SeenLemmas.{seen_deck-gone, seen_deck-long, seen_position-is}
use Rattle.hb_wire.specs.Lines.{state_line}
use Rattle.hb_game_lines.specs.HandLines.{hand_lines_of}
use Rattle.hb_game_lines.specs.Standing.{seen_state, standing_text, state_of}

map-same : {X : Type 0} (f h : ℕ → X) → ((k : ℕ) → f k ≡ h k) → (xs : List ℕ) → map f xs ≡ map h xs
map-same f h e [] = refl
map-same f h e (x ∷ xs) = rw (e x, map-same f h e xs) refl

-- how the game stands with another deck that agrees on what was played and discarded
state-same : (g : Setup) (deck : List Identity) (past : List Act) → length deck ≡ length g.deck.items → SameGone g past deck
    → state_of (record { setup = with_cards g deck; past = past }) ≡ state_of (record { setup = g; past = past })
state-same g deck past long gone =
    let counts : SameCounts (with_cards g deck) g past = same-counts g deck long past gone in
    rw (
      ended-same g deck past counts,
      long,
      counts.strikes,
      counts.tokens,
      sum_by-same (height (with_cards g deck) past) (height g past) counts.heights (range_with_len 0 (suit_count g.variant)),
      map-same (height (with_cards g deck) past) (height g past) counts.heights (range_with_len 0 (suit_count g.variant)),
    ) refl

-- how a game stands by what is seen of it is how it stands
pub seen_state-is : (blind : ℕ) (p : Position) → IsDeck p.setup.variant p.setup.deck.items → seen_state (observed blind p) ≡ state_of p
seen_state-is blind p full =
    let own : length p.setup.deck.items ≡ length (cards p.setup.variant) = deck-length p.setup.variant p.setup.deck.items full in
    ap state_of (seen_position-is blind p)
    ∙ state-same p.setup (seen_deck (observed blind p)) p.past (seen_deck-long blind p own) (seen_deck-gone blind p own)

-- and a seat's hand is its hand
pub seen_hand-is : (blind : ℕ) (p : Position) (seat : ℕ) → IsDeck p.setup.variant p.setup.deck.items
    → hand (seen_position (observed blind p)) seat ≡ hand p seat
seen_hand-is blind p seat full =
    let own : length p.setup.deck.items ≡ length (cards p.setup.variant) = deck-length p.setup.variant p.setup.deck.items full in
    ap (λ (q : Position). hand q seat) (seen_position-is blind p)
    ∙ hand-same p.setup (seen_deck (observed blind p)) (seen_deck-long blind p own) p.past seat

-- the line of a state and the lines of all hands, appended one behind the other
pub standing_text-appended : (seen : Observed) (old more all line : List ℕ) → line ≡ state_line (seen_state seen)
    → more ≡ old ++ (line ++ codes "\n") → all ≡ more ++ hand_lines_of seen → all ≡ old ++ standing_text seen
unfolding standing_text
standing_text-appended seen old more all line is first then_all = rw (then_all, first, is) (simp append_assoc)
