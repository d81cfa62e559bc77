-- Which sets do the loops collect? Those of a hand's cards, in its order, and those of the hidden orders, by their order.
use Rattle.std.proofs.Common.{◌≡◌, ◌≢◌, ℕ, ◌+◌, ◌<◌, ◌≤◌, ◌↔◌, ⊎_elim, Bool, true, List, [], ◌∷◌, ◌++◌, refl, ap, arith, sym, ◌∙◌, length, Some, None, Option, subst, take}
use Rattle.std.specs.Prelude.{◌||◌, not, is_some, filter, map, slice_index, slice_set, All, IsSome, IsNone}
use Rattle.std.specs.List.{range_with_len}
use Rattle.std.specs.List.Sorted.{IsStrictlyIncreasing}
use Rattle.std.proofs.lemmas.Bool.{cases_eq}
use Rattle.std.proofs.lemmas.List.{get_or_default, get_or-set_same, get_or-set_other, length-set, take_more, map-append, length-append, take_all}
use Rattle.std.proofs.lemmas.List.Elements.{All-push}
use Rattle.std.proofs.lemmas.List.Kept.{AllPairs-from_increasing, IsStrictlyIncreasing-filter}
use Rattle.hb_rules.specs.declared.acts.Act.{Act}
use Rattle.hb_rules.specs.declared.setups.Setup.{Setup}
use Rattle.hb_rules.specs.Cards.{number}
use Rattle.hb_rules.specs.Observed.{Observed}
use Rattle.hb_rules.specs.Setup.{card}
use Rattle.hb_rules.specs.Hands.{holder, hand, is_at, drawn_count}
use Rattle.hb_rules.specs.Result.{ended}
use Rattle.hb_rules.specs.Legality.{Legal}
use Rattle.hb_rules.specs.Events.{in_blind}
use Rattle.hb_rules.specs.Marks.{is_hidden, hides_from, hidden}
use Rattle.hb_sets.specs.Sets.{bit, Has}
use Rattle.hb_sets.proofs.Bits.{bit-zero}
use Rattle.hb_match.specs.Matching.{Possible}
use Rattle.hb_turns.specs.GameInvariant.{IsFair}
use Rattle.hb_empathy.specs.Exact.{AreHandSets, IsExact, IsOnly}
use Rattle.hb_empathy.specs.Unseen.{AreMarks, AreUnseen}
use Rattle.hb_empathy.proofs.OrderPlaces.{place, AtPlace, Passes, filter-at}
use Rattle.hb_empathy.proofs.Assignments.{hidden-place, IsAsked}
use Rattle.hb_empathy.proofs.Choices.{seen_after}
use Rattle.hb_empathy.proofs.KnownCards.{game-runs, held-card, known-held, known-exact, found-exact}
use Rattle.hb_rules.proofs.HandsLemmas.{is_at-true}
use Rattle.hb_rules.proofs.Possible.{range-rises}

-- what holds of each number that a test keeps
all-kept : (r : ℕ → Bool) (P : ℕ → Type 0) (n : ℕ) → ((k : ℕ) → k < n → r k ≡ true → P k) → All P (filter r (range_with_len 0 n))
all-kept r P n each j d low =
    let p : Passes r 0 n (slice_index (filter r (range_with_len 0 n)) j) = filter-at r 0 n j low in
    let e : slice_index (filter r (range_with_len 0 n)) j ≡ _ = get_or_default (filter r (range_with_len 0 n)) j 0 d low in
    subst P e (each (slice_index (filter r (range_with_len 0 n)) j) (omega (arith, p.high)) p.passes)

-- a seat holds the orders of its hand
hand-holder : (g : Setup) (past : List Act) (seat j : ℕ) → j < length (hand g past seat)
    → holder g past (slice_index (hand g past seat) j) ≡ Some seat
hand-holder g past seat j low =
    let p : Passes (λ order. is_at (holder g past order) seat) 0 (length g.deck.items) (slice_index (hand g past seat) j) = filter-at
    (λ order. is_at (holder g past order) seat) 0 (length g.deck.items) j low in
    is_at-true (holder g past (slice_index (hand g past seat) j)) seat p.passes

-- so the order at a place of a hand is held by the hand's seat
pub held-at : (g : Setup) (past : List Act) (held : List ℕ) (seat j order : ℕ) → held ≡ hand g past seat → j < length held
    → order ≡ slice_index held j → holder g past order ≡ Some seat
held-at g past held seat j order is low at =
    let l : j < length (hand g past seat) = subst (λ xs. j < length xs) is low in
    let e : order ≡ slice_index (hand g past seat) j = at ∙ ap (λ xs. slice_index xs j) is in
    subst (λ k. holder g past k ≡ Some seat) (sym e) (hand-holder g past seat j l)

-- each hidden order is in a hand
hides-some : (blind : ℕ) (o : Option ℕ) → hides_from blind o ≡ true → IsSome o
hides-some blind (Some seat) h = refl
hides-some blind None h = cc

-- so all hidden orders are
pub hidden-held : (blind : ℕ) (g : Setup) (past : List Act) → All (λ order. IsSome (holder g past order)) (hidden blind g past)
hidden-held blind g past = all-kept (is_hidden blind g past) (λ order. IsSome (holder g past order)) (drawn_count g past)
    (λ k low hid. hides-some blind (holder g past k) hid)

-- and is one of the deck's
pub hidden-low : (blind : ℕ) (g : Setup) (past : List Act) → IsFair g → All (λ order. order < 60) (hidden blind g past)
hidden-low blind g past fair = all-kept (is_hidden blind g past) (λ order. order < 60) (drawn_count g past)
    (λ k low hid. omega (arith, fair.long))

-- the hidden orders ascend
pub hidden-rises : (blind : ℕ) (g : Setup) (past : List Act) → IsStrictlyIncreasing (hidden blind g past)
hidden-rises blind g past = IsStrictlyIncreasing-filter (is_hidden blind g past) (range_with_len 0 (drawn_count g past))
    (range-rises (drawn_count g past))

-- the set of one number
pub only-is : (set m n : ℕ) → m ≡ n → Has set m → ((k : ℕ) → k ≢ m → bit set k ≡ bit 0 k) → IsOnly set n
only-is set m n is put rest k = ⊎_elim
    (λ (e : k ≡ m). (λ h. e ∙ is, λ q. rw e put))
    (λ (ne : k ≢ m). (λ h. absurd (omega (arith, rest k ne, bit-zero k)), λ q. absurd (ne (q ∙ sym is))))
    (cases_eq k m)

-- the sets by order, for the first orders of a list
pub record TableSoFar (orders sets table : List ℕ) (i : ℕ) : Type 0 where
  pub long : length table ≡ 60
  pub so_far : (j : ℕ) → j < i → slice_index table (slice_index orders j) ≡ slice_index sets j

-- with one order more
pub table-more : (orders sets table : List ℕ) (i : ℕ) → IsStrictlyIncreasing orders → All (λ order. order < 60) orders → i < length orders
    → TableSoFar orders sets table i
    → TableSoFar orders sets (slice_set table (slice_index orders i) (slice_index sets i)) (i + 1)
table-more orders sets table i rises low inside so = record {
  long = length-set table (slice_index orders i) (slice_index sets i) ∙ so.long;
  so_far = λ j less. ⊎_elim
      (λ (e : j ≡ i). subst (λ k. slice_index (slice_set table (slice_index orders i) (slice_index sets i)) (slice_index orders k)
      ≡ slice_index sets k) (sym e) here)
      (λ (ne : j ≢ i). get_or-set_other table (slice_index orders i) (slice_index orders j) (slice_index sets i) 0 (other j (omega arith))
      ∙ so.so_far j (omega arith))
      (cases_eq j i);
}
  where
    here : slice_index (slice_set table (slice_index orders i) (slice_index sets i)) (slice_index orders i) ≡ slice_index sets i
    here = let l : slice_index orders i < 60 = low i 0 inside in get_or-set_same table (slice_index orders i) (slice_index sets i) 0
        (omega (arith, so.long))

    other : (j : ℕ) → j < i → slice_index orders j ≢ slice_index orders i
    other j less e =
        let b : slice_index orders j < slice_index orders i = AllPairs-from_increasing orders rises j i 0 less inside in omega arith

-- what a matching finds for all hidden orders is exact for each
pub table-exact : (blind : ℕ) (g : Setup) (past : List Act) (orders marks left sets table : List ℕ) (order : ℕ) → IsFair g → Legal g past
    → IsNone (ended g past)
    → orders ≡ hidden blind g past → AreMarks g past orders marks → AreUnseen blind g past left
    → ((j n : ℕ) → j < length marks → Has (slice_index sets j) n ↔ Possible marks left j n)
    → ((j : ℕ) → j < length orders → slice_index table (slice_index orders j) ≡ slice_index sets j)
    → is_hidden blind g past order ≡ true → IsExact (seen_after blind g past) order (slice_index table order)
table-exact blind g past orders marks left sets table order fair legal none is marked unseen found placed hid =
    let m : AreMarks g past (hidden blind g past) marks = subst (λ xs. AreMarks g past xs marks) is marked in
    let asked : IsAsked blind g past marks left = record { runs = game-runs g past fair legal none; marked = m; unseen = unseen } in
    let j : ℕ = place (hidden blind g past) order in
    let at : AtPlace (hidden blind g past) order = hidden-place blind g past order fair.dealt hid in
    let t : slice_index table (slice_index (hidden blind g past) j) ≡ slice_index sets j = subst
    (λ xs. j < length xs → slice_index table (slice_index xs j) ≡ slice_index sets j) is (placed j) at.low in
    let s : slice_index table order ≡ slice_index sets j = subst (λ k. slice_index table k ≡ slice_index sets j) at.is t in
    found-exact blind g past marks left order (slice_index table order) asked hid
    (λ n. subst (λ set. Has set n ↔ Possible marks left j n) (sym s)
    (found j n (let l : j < length (hidden blind g past) = at.low in omega (arith, m.many))))

-- the sets of the first cards of a hand
pub record HandSoFar (seen : Observed) (held : List ℕ) (cards : List (ℕ × ℕ)) (i : ℕ) : Type 0 where
  pub many : length cards ≡ i
  pub orders : map (λ card. card.0) cards ≡ take i held
  pub exact : All (λ card. IsExact seen card.0 card.1) cards

-- before the first card
pub hand-none : (seen : Observed) (held : List ℕ) → HandSoFar seen held [] 0
hand-none seen held = record { many = refl; orders = refl; exact = λ k d low. absurd (omega arith) }

-- with one card more
pub hand-more : (seen : Observed) (held : List ℕ) (cards : List (ℕ × ℕ)) (i order set : ℕ) → HandSoFar seen held cards i → i < length held
    → order ≡ slice_index held i
    → IsExact seen order set → HandSoFar seen held (cards ++ (order, set) ∷ []) (i + 1)
hand-more seen held cards i order set so inside is exact = record {
  many = length-append cards ((order, set) ∷ []) ∙ omega (arith, so.many);
  orders = map-append (λ card. card.0) cards ((order, set) ∷ []) ∙
      (ap (λ xs. xs ++ order ∷ []) so.orders ∙ (ap (λ k. take i held ++ k ∷ []) is ∙ sym (take_more held i 0 inside)));
  exact = All-push (λ card. IsExact seen card.0 card.1) cards (order, set) so.exact exact;
}

-- with all cards
pub hand-done : (seen : Observed) (held : List ℕ) (cards : List (ℕ × ℕ)) (i : ℕ) → HandSoFar seen held cards i
    → length held ≤ i → AreHandSets seen held cards
hand-done seen held cards i so all = record { orders = so.orders ∙ take_all i held all; exact = so.exact }

-- a card of a hand that the blind set knows
pub known-entry : (blind : ℕ) (g : Setup) (past : List Act) (held : List ℕ) (seat j order set : ℕ) → IsFair g → Legal g past
    → held ≡ hand g past seat → j < length held → order ≡ slice_index held j
    → (is_some (ended g past) || not (in_blind blind seat)) ≡ true → IsOnly set (number (card g order)) → IsExact
    (seen_after blind g past) order set
known-entry blind g past held seat j order set fair legal is low at shown only =
    let h : holder g past order ≡ Some seat = held-at g past held seat j order is low at in
    known-exact blind g past order set fair legal (held-card g past order fair (rw h refl))
    (known-held blind g past order seat fair legal h shown) only

-- a card of a hand that it does not know is hidden
pub hidden-entry : (blind : ℕ) (g : Setup) (past : List Act) (held : List ℕ) (seat j order : ℕ) → held ≡ hand g past seat → j < length held
    → order ≡ slice_index held j → in_blind blind seat ≡ true
    → is_hidden blind g past order ≡ true
hidden-entry blind g past held seat j order is low at inside = let h : holder g past order ≡ Some seat =
    held-at g past held seat j order is low at in ap (hides_from blind) h ∙ inside
