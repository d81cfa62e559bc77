-- How many copies are left to the hidden cards? The steps of the loops that find the hidden orders and count the copies.
use Rattle.std.proofs.Common.{◌≡◌, ◌≢◌, ℕ, ◌+◌, ◌-◌, ◌<◌, ◌≤◌, ⊎_elim, Bool, true, false, cond, List, [], ◌∷◌, ◌++◌, refl, arith, sym, ◌∙◌, length, subst}
use Rattle.std.specs.Prelude.{filter, count_by, slice_index, slice_set, IsTrue}
use Rattle.std.specs.List.{range_with_len}
use Rattle.std.proofs.lemmas.Bool.{cases_eq}
use Rattle.std.proofs.lemmas.List.{get_or-set_same, get_or-set_other, append-nil, length-set}
use Rattle.std.proofs.lemmas.List.Sums.{sum_by_push}
use Rattle.hb_rules.specs.declared.acts.Act.{Act}
use Rattle.hb_rules.specs.declared.setups.Setup.{Setup}
use Rattle.hb_rules.specs.declared.suits.Identity.{Identity}
use Rattle.hb_rules.specs.Cards.{copies, identity, number, same_identity, in_range}
use Rattle.hb_rules.specs.Setup.{card}
use Rattle.hb_rules.specs.Hands.{drawn_count}
use Rattle.hb_rules.specs.Legality.{Legal}
use Rattle.hb_rules.specs.Marks.{is_hidden, gone_copies}
use Rattle.hb_rules.proofs.DeckSize.{deal-few, deck-card}
use Rattle.hb_rules.proofs.NumbersLemmas.{same-number}
use Rattle.hb_rules.proofs.RangesLemmas.{filter-range_more}
use Rattle.hb_turns.specs.GameInvariant.{IsFair}
use Rattle.hb_empathy.specs.Unseen.{is_shown, shown_below}
use Rattle.hb_empathy.proofs.SeenCopies.{hidden-room, seen-few, count-below}

-- there is room for one more hidden order
pub few-hidden : (blind : ℕ) (g : Setup) (past : List Act) → IsFair g → Legal g past → (k : ℕ) → k < drawn_count g past
    → is_hidden blind g past k ≡ true
    → length (filter (is_hidden blind g past) (range_with_len 0 k)) < 25
few-hidden blind g past fair legal k low hid =
    omega (arith, hidden-room blind g past fair.dealt legal k low hid, deal-few g fair.can.players fair.can.options)

-- what is kept below a number, one number on
pub filter-kept : (p : ℕ → Bool) (k : ℕ) → p k ≡ true → filter p (range_with_len 0 (k + 1)) ≡ filter p (range_with_len 0 k) ++ k ∷ []
filter-kept p k here = filter-range_more p k ∙ rw here refl

-- and if the number does not pass
pub filter-left_out : (p : ℕ → Bool) (k : ℕ) → p k ≡ false → filter p (range_with_len 0 (k + 1)) ≡ filter p (range_with_len 0 k)
filter-left_out p k out = filter-range_more p k ∙ rw out (append-nil _)

-- no more copies are gone than there are
pub gone-few : (g : Setup) (past : List Act) → IsFair g → Legal g past → (id : Identity) → gone_copies g past id ≤ copies g.variant id
gone-few g past fair legal id = omega (arith, seen-few 0 g past fair.full fair.dealt legal id)

-- one more number of a list is as it is to be
pub set_more : (xs : List ℕ) (n v : ℕ) (P : ℕ → ℕ → Type 0) → n < length xs → ((k : ℕ) → k < n → P k (slice_index xs k)) → P n v
    → (k : ℕ) → k < n + 1 → P k (slice_index (slice_set xs n v) k)
set_more xs n v P inside before now k low = ⊎_elim
    (λ (e : k ≡ n). subst (λ i. P i (slice_index (slice_set xs n v) i)) (sym e) (rw get_or-set_same now))
    (λ (ne : k ≢ n). rw get_or-set_other (before k (omega arith)))
    (cases_eq k n)

own-number : (id : Identity) (m : ℕ) → IsTrue (in_range id) → m ≡ number id → same_identity (identity m) id ≡ true
own-number id m in_variant is =
    let r : in_range id ≡ true = in_variant in
    let ranked : 1 ≤ id.rank = grind arith in
    let rank : id.rank < 6 = grind arith in
    same-number id m ranked rank ∙ grind arith

other-number : (id : Identity) (m n : ℕ) → IsTrue (in_range id) → m ≡ number id → n ≢ m → same_identity (identity n) id ≡ false
other-number id m n in_variant is ne =
    let r : in_range id ≡ true = in_variant in
    let ranked : 1 ≤ id.rank = grind arith in
    let rank : id.rank < 6 = grind arith in
    same-number id n ranked rank ∙ grind arith

-- a count over what is kept, one number on
count-kept : (p r : ℕ → Bool) (k : ℕ) → r k ≡ true
    → count_by p (filter r (range_with_len 0 (k + 1))) ≡ count_by p (filter r (range_with_len 0 k)) + cond (p k) 1 0
count-kept p r k here = rw (filter-kept r k here) (sum_by_push (λ y. cond (p y) 1 0) (filter r (range_with_len 0 k)) k)

-- the copies that are left once the shown cards below an order are taken away
pub record LeftSoFar (blind : ℕ) (g : Setup) (past : List Act) (left : List ℕ) (count : ℕ) : Type 0 where
  pub long : length left ≡ 30
  pub so_far : (n : ℕ) → n < 30
      → slice_index left n + gone_copies g past (identity n) + shown_below blind g past count (identity n) ≡ copies g.variant (identity n)

-- each drawn card is one of the variant's
drawn-card : (g : Setup) (past : List Act) (k : ℕ) → IsFair g → k < drawn_count g past → IsTrue (in_range (card g k))
drawn-card g past k fair low = deck-card g.variant g.deck.items fair.full k (record { suit = 0; rank = 0 }) (omega arith)

-- a shown card is of an identity of which a copy is left
pub left-some : (blind : ℕ) (g : Setup) (past : List Act) (left : List ℕ) (k m : ℕ) → IsFair g → Legal g past
    → LeftSoFar blind g past left k → k < drawn_count g past
    → is_shown blind g past k ≡ true → m ≡ number (card g k) → m < 30 → 1 ≤ slice_index left m
left-some blind g past left k m fair legal so low here is small =
    let p : ℕ → Bool = λ order. same_identity (identity m) (card g order) in
    let r : ℕ → Bool = is_shown blind g past in
    let it : p k ≡ true = own-number (card g k) m (drawn-card g past k fair low) is in
    let last : count_by p (filter r (range_with_len 0 (k + 1))) ≡ count_by p (filter r (range_with_len 0 k)) + 1 = count-kept p r k here
    ∙ rw it refl in
    let e : k + 1 + (drawn_count g past - (k + 1)) ≡ drawn_count g past = omega arith in
    let most : count_by p (filter r (range_with_len 0 (k + 1))) ≤ count_by p (filter r (range_with_len 0 (drawn_count g past))) = rw e at
    (count-below p r (k + 1) (drawn_count g past - (k + 1))) in
    omega (arith, so.so_far m small, last, most, seen-few blind g past fair.full fair.dealt legal (identity m))

-- and then one copy less is left of it
pub left-taken : (blind : ℕ) (g : Setup) (past : List Act) (left : List ℕ) (k m : ℕ) → IsFair g → Legal g past
    → LeftSoFar blind g past left k → k < drawn_count g past
    → is_shown blind g past k ≡ true → m ≡ number (card g k) → m < 30 → LeftSoFar blind g past (slice_set left m (slice_index left m - 1))
    (k + 1)
left-taken blind g past left k m fair legal so low here is small = record {
  long = length-set left m (slice_index left m - 1) ∙ so.long;
  so_far = λ n less. ⊎_elim (λ e. subst (λ i. Counted i) (sym e) same) (λ ne. other n less ne) (cases_eq n m);
}
  where
    Counted : ℕ → Type 0
    Counted n = slice_index (slice_set left m (slice_index left m - 1)) n + gone_copies g past (identity n) + shown_below blind g past
        (k + 1) (identity n) ≡ copies g.variant (identity n)

    in_variant : IsTrue (in_range (card g k))
    in_variant = drawn-card g past k fair low

    same : Counted m
    same =
        let p : ℕ → Bool = λ order. same_identity (identity m) (card g order) in
        let it : p k ≡ true = own-number (card g k) m in_variant is in
        let more : shown_below blind g past (k + 1) (identity m) ≡ shown_below blind g past k (identity m) + 1 = count-kept p
        (is_shown blind g past) k here ∙ rw it refl in
        let some : 1 ≤ slice_index left m = left-some blind g past left k m fair legal so low here is small in
        let inside : m < length left = omega (arith, so.long) in
        rw get_or-set_same (omega (arith, so.so_far m small, more))

    other : (n : ℕ) → n < 30 → n ≢ m → Counted n
    other n less ne =
        let p : ℕ → Bool = λ order. same_identity (identity n) (card g order) in
        let it : p k ≡ false = other-number (card g k) m n in_variant is ne in
        let more : shown_below blind g past (k + 1) (identity n) ≡ shown_below blind g past k (identity n) + 0 = count-kept p
        (is_shown blind g past) k here ∙ rw it refl in
        rw get_or-set_other (omega (arith, so.so_far n less, more))

-- a card that is not shown leaves the copies
pub left-kept : (blind : ℕ) (g : Setup) (past : List Act) (left : List ℕ) (k : ℕ) → LeftSoFar blind g past left k
    → is_shown blind g past k ≡ false → LeftSoFar blind g past left (k + 1)
left-kept blind g past left k so out = record {
  long = so.long;
  so_far = λ n low. rw (filter-left_out (is_shown blind g past) k out)
      (so.so_far n low);
}
