-- Two decks by which a clue touches the same orders of a hand have a card there that meets the clue.
use Rattle.std.proofs.Common.{◌≡◌, ℕ, ◌+◌, ◌^◌, ◌≢◌, ◌<◌, ◌≤◌, Bool, true, false, List, [], ◌∷◌, refl, ap, arith, sym, ◌∙◌, length, None, zero, suc}
use Rattle.std.specs.Prelude.{◌==◌, ◌&&◌, if◌then◌else◌, filter}
use Rattle.std.specs.Int.{bit_at}
use Rattle.std.specs.List.{list_any, range_with_len}
use Rattle.std.proofs.lemmas.Nat.Bits.{bit_at-zero, bit_at_or, bit_at-pow_same, bit_at-pow_other}
use Rattle.hb_rules.specs.declared.acts.Act.{Act}
use Rattle.hb_rules.specs.declared.acts.Action.TheVariants as action
use Rattle.hb_rules.specs.declared.acts.Clue.{Clue}
use Rattle.hb_rules.specs.declared.setups.Setup.{Setup}
use Rattle.hb_rules.specs.declared.suits.Identity.{Identity}
use Rattle.hb_rules.specs.Setup.{card, deal_size}
use Rattle.hb_rules.specs.Touch.{touches}
use Rattle.hb_rules.specs.Hands.{hand, holder, is_at}
use Rattle.hb_rules.specs.Legality.{touched}
use Rattle.hb_rules.specs.Events.{bits}
use Rattle.hb_rules.specs.Marks.{same}
use Rattle.hb_rules.proofs.HandsLemmas.{holder-past}
use Rattle.hb_sight.proofs.Agreement.{with_cards, hand-same}
use Rattle.hb_empathy.proofs.Replays.{MeetsClue}

-- the bits of a word of orders tell each order
bit_at-bits : (xs : List ℕ) (k : ℕ) → bit_at (bits xs) k ≡ (if list_any (λ x. x == k) xs then 1 else 0)
bit_at-bits [] k = bit_at-zero k
bit_at-bits (x ∷ xs) k =
    let ih : bit_at (bits xs) k ≡ (if list_any (λ y. y == k) xs then 1 else 0) = bit_at-bits xs k in
    let yes' : x ≡ k → bit_at (2 ^ x) k ≡ 1 = (λ e. rw e (bit_at-pow_same k)) in
    let no' : k ≢ x → bit_at (2 ^ x) k ≡ 0 = bit_at-pow_other x k in
    rw (bit_at_or, ih) (grind (arith, yes', no'))

any-filter : (p : ℕ → Bool) (o : ℕ) (xs : List ℕ) → list_any (λ x. x == o) (filter p xs) ≡ (list_any (λ x. x == o) xs && p o)
any-filter p o [] = refl
any-filter p o (x ∷ xs) = let ih : list_any (λ y. y == o) (filter p xs) ≡ (list_any (λ y. y == o) xs && p o) = any-filter p o xs in
    grind (arith, ih)

any-range : (o a n : ℕ) → a ≤ o → o < a + n → list_any (λ x. x == o) (range_with_len a n) ≡ true
any-range o a zero low high = absurd (omega arith)
any-range o a (suc n) low high = let ih : a + 1 ≤ o → o < a + 1 + n → list_any (λ x. x == o) (range_with_len (a + 1) n) ≡ true = any-range o
    (a + 1) n in grind (arith, ih)

one-or-none : (a b : Bool) → (if◌then◌else◌ {A = ℕ} a 1 0) ≡ (if◌then◌else◌ {A = ℕ} b 1 0) → a ≡ b
one-or-none true true e = refl
one-or-none true false e = absurd (omega arith)
one-or-none false true e = absurd (omega arith)
one-or-none false false e = refl

-- a test agrees with itself
pub same-self : (b : Bool) → same b b ≡ true
same-self true = refl
same-self false = refl

held-in-hand : (g : Setup) → deal_size g ≤ length g.deck.items → (past : List Act) (to order : ℕ) → is_at (holder g past order) to ≡ true
    → list_any (λ x. x == order) (hand g past to) ≡ true
held-in-hand g dealt past to order held =
    let nobody : length g.deck.items ≤ order → holder g past order ≡ None = holder-past g past order dealt in
    let low : order < length g.deck.items = grind (arith, nobody) in
    any-filter (λ k. is_at (holder g past k) to) order (range_with_len 0 (length g.deck.items))
    ∙ rw (any-range order 0 (length g.deck.items) (omega arith) (omega arith), held) refl

-- the order stands among those that a clue touches exactly if its card is touched, for an order in the hand
in-touched : (h : Setup) (past : List Act) (to : ℕ) (clue : Clue) (order : ℕ) → list_any (λ x. x == order) (hand h past to) ≡ true
    → list_any (λ x. x == order) (touched h past to clue) ≡ touches h.variant clue (card h order)
in-touched h past to clue order here =
    any-filter (λ k. touches h.variant clue (card h k)) order (hand h past to) ∙ ap (λ b. b && touches h.variant clue (card h order)) here

-- if the two words of touched orders are the same, each card meets the clue
pub touched-inj : (g : Setup) (deck : List Identity) → length deck ≡ length g.deck.items → deal_size g ≤ length g.deck.items
    → (past : List Act) (to : ℕ) (clue : Clue)
    → bits (touched (with_cards g deck) past to clue) ≡ bits (touched g past to clue) → MeetsClue g past (action.Clue to clue) deck
touched-inj g deck long dealt past to clue words order = pick (is_at (holder g past order) to) refl
  where
    in_list : List ℕ → Bool
    in_list xs = list_any (λ x. x == order) xs

    pick : (b : Bool) → is_at (holder g past order) to ≡ b
        → (if b then same (touches g.variant clue (card g order)) (touches g.variant clue (card (with_cards g deck) order)) else true)
        ≡ true
    pick true held =
        let h : Setup = with_cards g deck in
        let here : in_list (hand g past to) ≡ true = held-in-hand g dealt past to order held in
        let there : in_list (hand h past to) ≡ true = ap in_list (hand-same g deck long past to) ∙ here in
        let bit : in_list (touched h past to clue) ≡ in_list (touched g past to clue) =
        one-or-none (in_list (touched h past to clue)) (in_list (touched g past to clue))
        (sym (bit_at-bits (touched h past to clue) order) ∙
        (ap (λ w. bit_at w order) words ∙ bit_at-bits (touched g past to clue) order)) in
        rw (sym (in-touched g past to clue order here) ∙ (sym bit ∙ in-touched h past to clue order there))
        (same-self (touches g.variant clue (card h order)))
    pick false held = refl
