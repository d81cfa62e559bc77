-- A choice for the hidden cards, with the cards that are seen, is the beginning of a deck.
use Rattle.std.proofs.Common.{◌≡◌, ℕ, ◌+◌, ◌<◌, ◌≤◌, Bool, true, false, cond, List, ◌++◌, refl, arith, sym, ◌∙◌, length, None}
use Rattle.std.specs.Prelude.{not, nat_lt, if◌then◌else◌, map, count_by}
use Rattle.std.specs.List.{range_with_len}
use Rattle.std.proofs.lemmas.Bool.{not-true}
use Rattle.std.proofs.lemmas.List.{get_or_append_left, get_or_past}
use Rattle.std.proofs.lemmas.List.FromFn.{get_or-map-range_with_len, length-map-range_with_len}
use Rattle.std.proofs.lemmas.List.Sums.{sum_by-append}
use Rattle.hb_rules.specs.declared.acts.Act.{Act}
use Rattle.hb_rules.specs.declared.setups.Setup.{Setup}
use Rattle.hb_rules.specs.declared.suits.Identity.{Identity}
use Rattle.hb_rules.specs.Cards.{IsDeck, count_of, copies, cards, same_identity}
use Rattle.hb_rules.specs.Setup.{card, deal_size}
use Rattle.hb_rules.specs.Hands.{removed, drawn_count, receiver, is_gone}
use Rattle.hb_rules.specs.Legality.{Legal}
use Rattle.hb_rules.specs.Marks.{IsChoice, is_hidden, hidden, seen, meets, hides_from}
use Rattle.hb_rules.proofs.Decks.{filled-deck, length-same}
use Rattle.hb_rules.proofs.Undrawn.{receiver-undrawn, gone-undrawn}
use Rattle.hb_sight.proofs.Agreement.{with_cards}
use Rattle.hb_empathy.proofs.Replays.{Replays}
use Rattle.hb_empathy.proofs.ShownCards.{Shown}
use Rattle.hb_empathy.proofs.CardCounts.{count-within, count-map, count-both}
use Rattle.hb_empathy.proofs.MeetsLemmas.{meets-self, meets-undrawn, hidden-drawn}

-- the cards of the first orders, as a list
prefix_cards : (ℕ → Identity) → ℕ → List Identity
prefix_cards f n = map f (range_with_len 0 n)

-- the card of a choice: chosen if it is hidden
mixed_card : ℕ → Setup → List Act → (ℕ → Identity) → ℕ → Identity
mixed_card blind g past choice order = if is_hidden blind g past order then choice order else card g order

-- the deck has these cards at the orders that are drawn
pub record IsMixed (blind : ℕ) (g : Setup) (past : List Act) (choice : ℕ → Identity) (deck : List Identity) : Type 0 where
  long : length deck ≡ length g.deck.items
  first : (order : ℕ) → order < drawn_count g past → card (with_cards g deck) order ≡ mixed_card blind g past choice order

card-far : (g : Setup) (deck : List Identity) → length deck ≡ length g.deck.items → (order : ℕ) → length g.deck.items ≤ order
    → card (with_cards g deck) order ≡ card g order
card-far g deck long order far = get_or_past deck order (record { suit = 0; rank = 0 }) (omega arith) ∙ sym
    (get_or_past g.deck.items order (record { suit = 0; rank = 0 }) far)

-- if it is not hidden it is the game's card, unless it is still in the deck
mixed-open : (blind : ℕ) (g : Setup) (past : List Act) (choice : ℕ → Identity) (deck : List Identity) → IsMixed blind g past choice deck
    → (order : ℕ) → is_hidden blind g past order ≡ false → order < deal_size g + length (removed past) → card (with_cards g deck) order
    ≡ card g order
unfolding mixed_card
mixed-open blind g past choice deck m order open_card low = pick (nat_lt order (length g.deck.items)) refl
  where
    pick : (b : Bool) → nat_lt order (length g.deck.items) ≡ b → card (with_cards g deck) order ≡ card g order
    pick true inside = m.first order (grind arith) ∙ rw open_card refl
    pick false far = card-far g deck m.long order (grind arith)

-- and at a hidden order the chosen card
pub mixed-hidden : (blind : ℕ) (g : Setup) (past : List Act) (choice : ℕ → Identity) (deck : List Identity)
    → deal_size g ≤ length g.deck.items
    → IsMixed blind g past choice deck
    → (order : ℕ) → is_hidden blind g past order ≡ true → card (with_cards g deck) order ≡ choice order
unfolding mixed_card
mixed-hidden blind g past choice deck dealt m order hid = m.first order (hidden-drawn blind g past order dealt hid) ∙ rw hid refl

-- such a deck replays the history
pub mixed-replays : (blind : ℕ) (g : Setup) (past : List Act) (choice : ℕ → Identity) (deck : List Identity)
    → deal_size g ≤ length g.deck.items
    → Legal g past
    → IsChoice blind g past choice → IsMixed blind g past choice deck → Replays g past deck
mixed-replays blind g past choice deck dealt legal c m = record {
  long = m.long;
  gone = λ order gone. (let undrawn : deal_size g + length (removed past) ≤ order → is_gone past order ≡ false =
      gone-undrawn g past legal order in
      mixed-open blind g past choice deck m order (rw gone refl) (grind (arith, undrawn)));
  met = λ order. met order (is_hidden blind g past order) refl;
}
  where
    met : (order : ℕ) (b : Bool) → is_hidden blind g past order ≡ b → meets g past order (card (with_cards g deck) order) ≡ true
    met order true hid =
        let e : card (with_cards g deck) order ≡ choice order = mixed-hidden blind g past choice deck dealt m order hid in
        rw e (c.met order hid)
    met order false open_card = pick (nat_lt order (deal_size g + length (removed past))) refl
      where
        pick : (b : Bool) → nat_lt order (deal_size g + length (removed past)) ≡ b
            → meets g past order (card (with_cards g deck) order) ≡ true
        pick true low =
            let e : card (with_cards g deck) order ≡ card g order = mixed-open blind g past choice deck m order open_card (grind arith) in
            rw e (meets-self g past order)
        pick false far = meets-undrawn g past order (card (with_cards g deck) order) (grind arith)

-- and has the cards that are shown
pub mixed-shown : (blind : ℕ) (g : Setup) (past : List Act) (choice : ℕ → Identity) (deck : List Identity)
    → IsMixed blind g past choice deck
    → Shown blind g past deck
mixed-shown blind g past choice deck m order seat here open_seat =
    let undrawn : deal_size g + length (removed past) ≤ order → receiver g past order ≡ None = receiver-undrawn g past order in
    mixed-open blind g past choice deck m order (hides (is_gone past order)) (grind (arith, undrawn))
  where
    hides : (b : Bool) → hides_from blind (if b then None else receiver g past order) ≡ false
    hides true = refl
    hides false = rw here open_seat

-- the chosen cards and those that are seen are no more than the variant has
few-mixed : (blind : ℕ) (g : Setup) (past : List Act) (choice : ℕ → Identity) → IsChoice blind g past choice
    → (id : Identity) → count_of id (prefix_cards (mixed_card blind g past choice) (drawn_count g past)) ≤ count_of id (cards g.variant)
unfolding copies mixed_card prefix_cards
few-mixed blind g past choice c id =
    let n : ℕ = drawn_count g past in
    let p : ℕ → Bool = λ k. same_identity id (mixed_card blind g past choice k) in
    let in_hands : count_by p (hidden blind g past) ≡ count_by (λ k. same_identity id (choice k)) (hidden blind g past) =
    count-within p (λ k. same_identity id (choice k)) (is_hidden blind g past) 0 n (λ k low high hid. rw hid refl) in
    let in_sight : count_by p (seen blind g past) ≡ count_by (λ k. same_identity id (card g k)) (seen blind g past) =
    count-within p (λ k. same_identity id (card g k)) (λ k. not (is_hidden blind g past k)) 0 n
    (λ k low high open_card. rw (not-true (is_hidden blind g past k) open_card) refl) in
    let all : count_by p (hidden blind g past) + count_by p (seen blind g past) ≡ count_by p (range_with_len 0 n) = count-both
    (is_hidden blind g past) p (range_with_len 0 n) in
    let listed : count_of id (map (mixed_card blind g past choice) (range_with_len 0 n)) ≡ count_by p (range_with_len 0 n) = count-map
    (mixed_card blind g past choice) id (range_with_len 0 n) in
    omega (arith, in_hands, in_sight, all, listed, c.few id)

-- so the rest of a deck can be laid behind them
pub mixed-deck : (blind : ℕ) (g : Setup) (past : List Act) (choice : ℕ → Identity) → IsDeck g.variant g.deck.items
    → IsChoice blind g past choice
    → (deck : List Identity) × IsDeck g.variant deck × IsMixed blind g past choice deck
unfolding copies mixed_card prefix_cards
mixed-deck blind g past choice full c =
    let f : ℕ → Identity = mixed_card blind g past choice in
    let n : ℕ = drawn_count g past in
    let used : List Identity = prefix_cards f n in
    let few : (id : Identity) → count_of id used ≤ count_of id (cards g.variant) = few-mixed blind g past choice c in
    let r : (rest : List Identity)
    × ((id : Identity) → count_of id used + count_of id rest ≡ count_of id (cards g.variant)) =
    filled-deck used
    (cards g.variant) few in
    let is_deck : (id : Identity) → count_of id (used ++ r.0) ≡ copies g.variant id =
    (λ id. sum_by-append (λ y. cond (same_identity id y) 1 0) used r.0 ∙ r.1 id) in (
      used ++ r.0,
      is_deck,
      record {
        long = length-same (used ++ r.0) g.deck.items (λ id. is_deck id ∙ sym (full id));
        first = λ order low. get_or_append_left used r.0 (record { suit = 0; rank = 0 }) order (rw length-map-range_with_len low)
            ∙ get_or-map-range_with_len f 0 n order order (record { suit = 0; rank = 0 }) low (omega arith);
      },
    )
