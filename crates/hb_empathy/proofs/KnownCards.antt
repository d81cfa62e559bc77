-- Which sets are exact? Of a card that the blind set sees and of every card after the end its one identity, and of a hidden card
-- what a matching finds.
use Rattle.std.proofs.Common.{◌≡◌, ℕ, ◌+◌, ◌/◌, ◌%◌, ◌<◌, ◌≤◌, ◌↔◌, ◌⊎◌, inl, inr, Bool, true, false, List, refl, ap, arith, sym, ◌∙◌, length, Some, None, subst}
use Rattle.std.specs.Prelude.{◌==◌, ◌||◌, not, is_some, if◌then◌else◌, IsTrue, IsNone, IsSome}
use Rattle.std.proofs.lemmas.Bool.{cases_lt}
use Rattle.std.proofs.lemmas.List.{get_or_past}
use Rattle.hb_rules.specs.declared.acts.Act.{Act}
use Rattle.hb_rules.specs.declared.setups.Setup.{Setup}
use Rattle.hb_rules.specs.declared.suits.Identity.{Identity}
use Rattle.hb_rules.specs.Cards.{IsDeck, identity, number, in_range}
use Rattle.hb_rules.specs.Observed.{Observed, setup_with}
use Rattle.hb_rules.specs.Setup.{card}
use Rattle.hb_rules.specs.Hands.{receiver, holder, is_gone}
use Rattle.hb_rules.specs.Result.{ended}
use Rattle.hb_rules.specs.Legality.{Legal}
use Rattle.hb_rules.specs.Events.{observation, acts_of, in_blind}
use Rattle.hb_rules.specs.Deals.{IsPossible}
use Rattle.hb_rules.specs.Marks.{is_hidden, hidden}
use Rattle.hb_rules.proofs.Decks.{length-same}
use Rattle.hb_rules.proofs.DeckSize.{deck-card}
use Rattle.hb_rules.proofs.HandsLemmas.{holder-past}
use Rattle.hb_rules.proofs.NumbersLemmas.{identity-number, number-identity}
use Rattle.hb_rules.proofs.Possible.{possible-filter}
use Rattle.hb_sets.specs.Sets.{Has, bit, members}
use Rattle.hb_match.specs.Matching.{Possible}
use Rattle.hb_turns.specs.GameInvariant.{IsFair}
use Rattle.hb_empathy.specs.Exact.{IsExact, IsOnly}
use Rattle.hb_sight.proofs.NamedActs.{acts_of-observation}
use Rattle.hb_sight.proofs.Agreement.{with_cards}
use Rattle.hb_empathy.proofs.Replays.{Replays}
use Rattle.hb_empathy.proofs.ShownCards.{Shown}
use Rattle.hb_empathy.proofs.Observations.{observation-replays}
use Rattle.hb_empathy.proofs.Choices.{Runs, own-deal, seen_after}
use Rattle.hb_empathy.proofs.OneDeal.{one-deal}
use Rattle.hb_empathy.proofs.OrderPlaces.{place}
use Rattle.hb_empathy.proofs.Assignments.{IsAsked, assigned-possible}

-- a game that has not ended runs
pub game-runs : (g : Setup) (past : List Act) → IsFair g → Legal g past → IsNone (ended g past) → Runs g past
game-runs g past fair legal none = record { full = fair.full; dealt = fair.dealt; legal = legal; runs = none }

-- an order that is held is one of the deck's
pub held-low : (g : Setup) (past : List Act) (order : ℕ) → IsFair g → IsSome (holder g past order) → order < length g.deck.items
held-low g past order fair held = let none : length g.deck.items ≤ order → holder g past order ≡ None =
    holder-past g past order fair.dealt in grind (arith, none)

-- and its card is one of the variant's
pub held-card : (g : Setup) (past : List Act) (order : ℕ) → IsFair g → IsSome (holder g past order) → IsTrue (in_range (card g order))
held-card g past order fair held = deck-card g.variant g.deck.items fair.full order (record { suit = 0; rank = 0 })
    (held-low g past order fair held)

-- only identities with a number below 30 are possible
possible-low : (seen : Observed) (order n : ℕ) → IsPossible seen order (identity n) → n < 30
possible-low seen order n p = pick (cases_lt order (length p.deck))
  where
    pick : (order < length p.deck) ⊎ (length p.deck ≤ order) → n < 30
    pick (inl low) =
        let r : in_range (card (setup_with seen p.deck) order) ≡ true = deck-card seen.variant p.deck p.deal.full order
        (record { suit = 0; rank = 0 }) low in
        let s : in_range (identity n) ≡ true = subst (λ id. in_range id ≡ true) p.is r in
        let t : n / 5 < 6 = grind arith in omega arith
    pick (inr far) =
        let e : card (setup_with seen p.deck) order ≡ record { suit = 0; rank = 0 } = get_or_past p.deck order
        (record { suit = 0; rank = 0 }) far in
        let r : n % 5 + 1 ≡ 0 = ap (λ (id : Identity). id.rank) (sym p.is ∙ e) in absurd (omega arith)

-- a seat whose cards are not known is blind
pub not-known : (over blind : Bool) → (over || not blind) ≡ false → blind ≡ true
not-known over blind h = grind arith

tests-has : (set k : ℕ) → (bit set k == 1) ≡ true → Has set k
tests-has set k h = grind arith

has-tests : (set k : ℕ) → Has set k → (bit set k == 1) ≡ true
has-tests set k h = rw h refl

-- a set is exact if it has the number of each possible identity
exact-from : (seen : Observed) (order set : ℕ)
    → ((n : ℕ) → Has set n ↔ IsPossible seen order (identity n)) → IsExact seen order set
unfolding members
exact-from seen order set each = record {
  each = λ n low. each n;
  rest = λ n far has. (let low : n < 30 = possible-low seen order n ((each n).0 has) in omega arith);
  listed = possible-filter seen order (λ k. bit set k == 1)
      (λ k low. (λ h. (each k).0 (tests-has set k h), λ p. has-tests set k ((each k).1 p)));
}

-- the game's own card is possible
own-possible : (blind : ℕ) (g : Setup) (past : List Act) (order : ℕ) (id : Identity) → IsDeck g.variant g.deck.items → Legal g past
    → id ≡ card g order
    → IsPossible (seen_after blind g past) order id
own-possible blind g past order id full legal is = record { deck = g.deck.items; deal = own-deal blind g past full legal; is = sym is }

-- the card is known: no other identity is possible for it
abbrev pub IsKnown : ℕ → Setup → List Act → ℕ → Type 0
IsKnown blind g past order = (id : Identity) → IsPossible (seen_after blind g past) order id → id ≡ card g order

receiver-held : (g : Setup) (past : List Act) (order seat : ℕ) → holder g past order ≡ Some seat → receiver g past order ≡ Some seat
receiver-held g past order seat here = pick (is_gone past order) here
  where
    pick : (b : Bool) → (if b then None else receiver g past order) ≡ Some seat → receiver g past order ≡ Some seat
    pick true h = cc
    pick false h = h

-- a card of a seat outside the blind set is known while the game runs
known-open : (blind : ℕ) (g : Setup) (past : List Act) (order seat : ℕ) → Runs g past → holder g past order ≡ Some seat
    → in_blind blind seat ≡ false → IsKnown blind g past order
known-open blind g past order seat r here open_seat id p =
    let long : length p.deck ≡ length g.deck.items = length-same p.deck g.deck.items (λ x. p.deal.full x ∙ sym (r.full x)) in
    let acts : acts_of (observation blind g past) ≡ past = acts_of-observation blind g past in
    let legal' : Legal (with_cards g p.deck) past = subst (λ A. Legal (with_cards g p.deck) A) acts p.deal.legal in
    let same_events : observation blind (with_cards g p.deck) past ≡ observation blind g past = subst
    (λ A. observation blind (with_cards g p.deck) A ≡ observation blind g past) acts p.deal.same in
    let both : Replays g past p.deck × Shown blind g past p.deck =
    observation-replays blind g past p.deck long r.dealt r.legal legal' r.runs same_events in
    sym p.is ∙ both.1 order seat (receiver-held g past order seat here) open_seat

-- every card is known after the end
known-over : (blind : ℕ) (g : Setup) (past : List Act) (order : ℕ) → IsFair g → Legal g past → is_some (ended g past) ≡ true
    → IsKnown blind g past order
known-over blind g past order fair legal over id p =
    let e : p.deck ≡ g.deck.items = (one-deal blind g past fair.two fair.full legal over p.deck).0 p.deal in
    sym p.is ∙ ap (λ d. card (with_cards g d) order) e

-- the cards of a seat are known after the end, and so they are if the blind set does not have the seat
pub known-held : (blind : ℕ) (g : Setup) (past : List Act) (order seat : ℕ) → IsFair g → Legal g past → holder g past order ≡ Some seat
    → (is_some (ended g past) || not (in_blind blind seat)) ≡ true → IsKnown blind g past order
known-held blind g past order seat fair legal here shown = pick (is_some (ended g past)) refl shown
  where
    pick : (b : Bool) → is_some (ended g past) ≡ b → (b || not (in_blind blind seat)) ≡ true → IsKnown blind g past order
    pick true over h = known-over blind g past order fair legal over
    pick false runs h = known-open blind g past order seat
        (record { full = fair.full; dealt = fair.dealt; legal = legal; runs = runs }) here (grind arith)

in_range-rank : (id : Identity) → IsTrue (in_range id) → (1 ≤ id.rank) × (id.rank < 6)
in_range-rank id h = let e : in_range id ≡ true = h in (grind arith, grind arith)

-- the set of a known card's number is exact
pub known-exact : (blind : ℕ) (g : Setup) (past : List Act) (order set : ℕ) → IsFair g → Legal g past → IsTrue (in_range (card g order))
    → IsKnown blind g past order
    → IsOnly set (number (card g order)) → IsExact (seen_after blind g past) order set
known-exact blind g past order set fair legal in_variant only_card only =
    let r : (1 ≤ (card g order).rank) × ((card g order).rank < 6) = in_range-rank (card g order) in_variant in
    exact-from (seen_after blind g past) order set (λ n. (
      λ has. own-possible blind g past order (identity n) fair.full legal
          (ap identity ((only n).0 has) ∙ identity-number (card g order) r.0 r.1),
      λ p. (only n).1 (sym (number-identity n) ∙ ap number (only_card (identity n) p)),
    ))

-- an exact set has the card's own number
pub own-has : (blind : ℕ) (g : Setup) (past : List Act) (order set : ℕ) → IsFair g → Legal g past → IsTrue (in_range (card g order))
    → IsExact (seen_after blind g past) order set → Has set (number (card g order))
own-has blind g past order set fair legal in_variant exact =
    let r : (1 ≤ (card g order).rank) × ((card g order).rank < 6) = in_range-rank (card g order) in_variant in
    let p : IsPossible (seen_after blind g past) order (identity (number (card g order))) =
    own-possible blind g past order (identity (number (card g order))) fair.full legal (identity-number (card g order) r.0 r.1) in
    (exact.each (number (card g order)) (possible-low (seen_after blind g past) order (number (card g order)) p)).1 p

-- what a matching finds for a hidden order is exact
pub found-exact : (blind : ℕ) (g : Setup) (past : List Act) (marks left : List ℕ) (order set : ℕ) → IsAsked blind g past marks left
    → is_hidden blind g past order ≡ true
    → ((n : ℕ) → Has set n ↔ Possible marks left (place (hidden blind g past) order) n) → IsExact (seen_after blind g past) order set
found-exact blind g past marks left order set asked hid found =
    exact-from (seen_after blind g past) order set (λ n. (
      λ has. (assigned-possible blind g past marks left order asked hid n).0 ((found n).0 has),
      λ p. (found n).1 ((assigned-possible blind g past marks left order asked hid n).1 p),
    ))
