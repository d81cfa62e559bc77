-- The test of a possible identity says what its record says, and the possible identities are listed whole.
use Rattle.std.proofs.Common.{◌≡◌, ℕ, ◌+◌, ◌<◌, ◌≤◌, ◌↔◌, ◌⊎◌, inl, inr, Bool, true, false, cond, List, [], ◌∷◌, ◌∙◌, refl, arith, length, map, subst, sym, zero, suc}
use Rattle.std.specs.Prelude.{◌&&◌, ◌||◌, nat_le, Any, Contains, filter, flat_map}
use Rattle.std.specs.List.{list_any, range_with_len}
use Rattle.std.specs.List.Sorted.{IsStrictlyIncreasing}
use Rattle.std.proofs.lemmas.Bool.{and_parts, and_from}
use Rattle.std.proofs.lemmas.List.FromFn.{get_or-range_with_len, length-range_with_len}
use Rattle.std.proofs.lemmas.List.Folds.{Any-from_list_any, list_any-append}
use Rattle.std.proofs.lemmas.List.Kept.{IsStrictlyIncreasing-filter}
use Rattle.hb_rules.specs.declared.suits.Identity.{Identity}
use Rattle.hb_rules.specs.Cards.{cards, copies, count_of, identity, same_identity}
use Rattle.hb_rules.specs.Deals.{IsPossible, is_deal, is_possible, lists_of, possible}
use Rattle.hb_rules.specs.Observed.{Observed, setup_with}
use Rattle.hb_rules.specs.Setup.{card}
use Rattle.hb_rules.proofs.DeckSize.{deck-length}
use Rattle.hb_rules.proofs.Identities.{same_identity-refl, same_identity-true}
use Rattle.hb_rules.proofs.IsDeal.{count-cons, counted-later, deal-is, deal-tests}

-- a test that some item of a list passes, where the list is put together
any-map : {X Y : Type 0} (q : Y → Bool) (h : X → Y) (xs : List X) → list_any q (map h xs) ≡ list_any (λ x. q (h x)) xs
any-map q h [] = refl
any-map q h (x ∷ xs) = rw (any-map q h xs) refl

any-flat_map : {X Y : Type 0} (q : Y → Bool) (f : X → List Y) (xs : List X)
    → list_any q (flat_map f xs) ≡ list_any (λ x. list_any q (f x)) xs
any-flat_map q f [] = refl
any-flat_map q f (x ∷ xs) = rw (list_any-append q (f x) (flat_map f xs), any-flat_map q f xs) refl

any-same : {X : Type 0} (p q : X → Bool) → ((x : X) → p x ≡ q x) → (xs : List X) → list_any p xs ≡ list_any q xs
any-same p q e [] = refl
any-same p q e (x ∷ xs) = rw (e x, any-same p q e xs) refl

-- an identity that passes and stands in the list
any-count : (p : Identity → Bool) (id : Identity) (xs : List Identity) → 1 ≤ count_of id xs → p id ≡ true → list_any p xs ≡ true
any-count p id [] some here = absurd (omega arith)
any-count p id (x ∷ xs) some here = pick (same_identity id x) refl (any-count p id xs)
  where
    or-left : (a b : Bool) → a ≡ true → (a || b) ≡ true
    or-left a b h = grind arith

    or-right : (a b : Bool) → b ≡ true → (a || b) ≡ true
    or-right a b h = grind arith

    pick : (b : Bool) → same_identity id x ≡ b → (1 ≤ count_of id xs → p id ≡ true → list_any p xs ≡ true) → (p x || list_any p xs) ≡ true
    pick true e ih = or-left (p x) (list_any p xs) (subst (λ y. p y ≡ true) (same_identity-true id x e) here)
    pick false e ih = or-right (p x) (list_any p xs) (ih (counted-later id x xs e some) here)

first-counted : (x : Identity) (xs : List Identity) → 1 ≤ count_of x (x ∷ xs)
first-counted x xs = let c : count_of x (x ∷ xs) ≡ 1 + count_of x xs = count-cons x x xs ∙ rw same_identity-refl refl in omega (arith, c)

later-counted : (id x : Identity) (xs : List Identity) → 1 ≤ count_of id xs → 1 ≤ count_of id (x ∷ xs)
later-counted id x xs some = omega (arith, count-cons id x xs)

-- a list of cards that are all choices is among the lists of as many
any-lists : (choices deck : List Identity) (q : List Identity → Bool)
    → ((id : Identity) → 1 ≤ count_of id deck → 1 ≤ count_of id choices) → q deck ≡ true
    → list_any q (lists_of (length deck) choices) ≡ true
any-lists choices [] q within here = rw here refl
any-lists choices (x ∷ deck) q within here =
    let extended : List Identity → List (List Identity) = λ rest. map (λ id. id ∷ rest) choices in
    let first : 1 ≤ count_of x choices = within x (first-counted x deck) in
    let rest : list_any (λ r. list_any (λ id. q (id ∷ r)) choices) (lists_of (length deck) choices) ≡ true =
    any-lists choices deck (λ r. list_any (λ id. q (id ∷ r)) choices)
    (λ id some. within id (later-counted id x deck some))
    (any-count (λ id. q (id ∷ deck)) x choices first here) in
    any-flat_map q extended (lists_of (length deck) choices)
    ∙ (any-same (λ r. list_any q (extended r)) (λ r. list_any (λ id. q (id ∷ r)) choices)
    (λ r. any-map q (λ id. id ∷ r) choices) (lists_of (length deck) choices)
    ∙ rest)

-- what the test says is possible is
pub possible-is : (seen : Observed) (order : ℕ) (id : Identity) → is_possible seen order id ≡ true → IsPossible seen order id
unfolding is_possible
possible-is seen order id h =
    let q : List Identity → Bool = λ deck. is_deal seen deck && same_identity (card (setup_with seen deck) order) id in
    pick (Any-from_list_any q (lists_of (length (cards seen.variant)) (cards seen.variant)) h)
  where
    pick : Any (λ deck. (is_deal seen deck && same_identity (card (setup_with seen deck) order) id) ≡ true)
        (lists_of (length (cards seen.variant)) (cards seen.variant))
        → IsPossible seen order id
    pick (k, deck, low, at, both) = let p : (is_deal seen deck ≡ true) × (same_identity (card (setup_with seen deck) order) id ≡ true) =
        and_parts (is_deal seen deck) (same_identity (card (setup_with seen deck) order) id) both in
        record { deck = deck; deal = deal-is seen deck p.0; is = same_identity-true (card (setup_with seen deck) order) id p.1 }

-- and what is possible passes the test
pub possible-tests : (seen : Observed) (order : ℕ) (id : Identity) → IsPossible seen order id → is_possible seen order id ≡ true
unfolding is_possible copies
possible-tests seen order id p =
    let q : List Identity → Bool = λ deck. is_deal seen deck && same_identity (card (setup_with seen deck) order) id in
    let passes : q p.deck ≡ true = and_from (is_deal seen p.deck) (same_identity (card (setup_with seen p.deck) order) id)
    (deal-tests seen p.deck p.deal)
    (subst (λ c. same_identity (card (setup_with seen p.deck) order) c ≡ true) p.is
    (same_identity-refl (card (setup_with seen p.deck) order))) in
    subst (λ many. list_any q (lists_of many (cards seen.variant)) ≡ true) (deck-length seen.variant p.deck p.deal.full)
    (any-lists (cards seen.variant) p.deck q (λ c some. subst (λ many. 1 ≤ many) (p.deal.full c) some) passes)

-- filters over a range by tests that agree on it
pub filter-within : (p q : ℕ → Bool) (a n : ℕ) → ((k : ℕ) → a ≤ k → k < a + n → p k ≡ q k)
    → filter p (range_with_len a n) ≡ filter q (range_with_len a n)
filter-within p q a zero same = refl
filter-within p q a (suc n) same =
    let here : p a ≡ q a = same a (omega arith) (omega arith) in
    let rest : filter p (range_with_len (a + 1) n) ≡ filter q (range_with_len (a + 1) n) =
    filter-within p q (a + 1) n (λ k low high. same k (omega arith) (omega arith)) in
    rw (here, rest) refl

iff-same : (a b : Bool) → (a ≡ true → b ≡ true) → (b ≡ true → a ≡ true) → a ≡ b
iff-same true b f g = sym (f refl)
iff-same false true f g = g refl
iff-same false false f g = refl

-- the numbers below 30 that pass a test are the possible identities where the test says which are possible
pub possible-filter : (seen : Observed) (order : ℕ) (p : ℕ → Bool)
    → ((k : ℕ) → k < 30 → (p k ≡ true → IsPossible seen order (identity k)) × (IsPossible seen order (identity k) → p k ≡ true))
    → filter p (range_with_len 0 30) ≡ possible seen order
unfolding possible
possible-filter seen order p says = filter-within p (λ k. is_possible seen order (identity k)) 0 30
    (λ k low high. iff-same (p k) (is_possible seen order (identity k))
    (λ h. possible-tests seen order (identity k) ((says k (omega arith)).0 h))
    (λ h. (says k (omega arith)).1 (possible-is seen order (identity k) h)))

-- numbers of a range ascend
pub range-rises : (n : ℕ) → IsStrictlyIncreasing (range_with_len 0 n)
range-rises n k low =
    let l : k + 1 < n = omega (arith, length-range_with_len 0 n) in
    omega (arith, get_or-range_with_len 0 n k 0 (omega arith), get_or-range_with_len 0 n (k + 1) 0 l)

-- the possible identities are listed by their numbers
pub possible-rises : (seen : Observed) (order : ℕ) → IsStrictlyIncreasing (possible seen order)
unfolding possible
possible-rises seen order = IsStrictlyIncreasing-filter (λ k. is_possible seen order (identity k)) (range_with_len 0 30) (range-rises 30)

-- what a filter of a range holds
listed-first : (x : ℕ) (xs : List ℕ) → Contains (x ∷ xs) x
listed-first x xs = (zero, omega arith, refl)

listed-later : (x k : ℕ) (xs : List ℕ) → Contains xs k → Contains (x ∷ xs) k
listed-later x k xs (i, low, at) = (suc i, omega arith, at)

listed-cases : (x k : ℕ) (xs : List ℕ) → Contains (x ∷ xs) k → (x ≡ k) ⊎ Contains xs k
listed-cases x k xs (zero, low, at) = inl at
listed-cases x k xs (suc i, low, at) = inr (i, omega arith, at)

-- the number is in the range and passes
record Passes (p : ℕ → Bool) (a n k : ℕ) : Type 0 where
  low : a ≤ k
  high : k < a + n
  passes : p k ≡ true

filter-passes : (p : ℕ → Bool) (a n k : ℕ) → Contains (filter p (range_with_len a n)) k → Passes p a n k
filter-passes p a zero k (i, low, at) = absurd (omega arith)
filter-passes p a (suc n) k c = pick (p a) refl c (filter-passes p (a + 1) n k)
  where
    wider : Passes p (a + 1) n k → Passes p a (suc n) k
    wider w = record { low = omega (arith, w.low); high = omega (arith, w.high); passes = w.passes }

    first : a ≡ k → p a ≡ true → Passes p a (suc n) k
    first e h = record { low = omega arith; high = omega arith; passes = subst (λ m. p m ≡ true) e h }

    cases : p a ≡ true → (a ≡ k) ⊎ Contains (filter p (range_with_len (a + 1) n)) k
        → (Contains (filter p (range_with_len (a + 1) n)) k → Passes p (a + 1) n k) → Passes p a (suc n) k
    cases e (inl here) ih = first here e
    cases e (inr later) ih = wider (ih later)

    pick : (b : Bool) → p a ≡ b → Contains (cond b (a ∷ filter p (range_with_len (a + 1) n)) (filter p (range_with_len (a + 1) n))) k
        → (Contains (filter p (range_with_len (a + 1) n)) k → Passes p (a + 1) n k) → Passes p a (suc n) k
    pick true e there ih = cases e (listed-cases a k (filter p (range_with_len (a + 1) n)) there) ih
    pick false e there ih = wider (ih there)

filter-holds : (p : ℕ → Bool) (a n k : ℕ) → a ≤ k → k < a + n → p k ≡ true → Contains (filter p (range_with_len a n)) k
filter-holds p a zero k low high h = absurd (omega arith)
filter-holds p a (suc n) k low high h = pick (p a) refl (order-cases a k low) (λ l. filter-holds p (a + 1) n k l (omega arith) h)
  where
    order-cases : (x y : ℕ) → x ≤ y → (x ≡ y) ⊎ (x + 1 ≤ y)
    order-cases x y l =
        elim (nat_le (x + 1) y) as (λ b. nat_le (x + 1) y ≡ b → (x ≡ y) ⊎ (x + 1 ≤ y))
        [ true ↦ λ e. inr (grind arith) | false ↦ λ e. inl (grind arith) ] refl

    pick : (b : Bool) → p a ≡ b → (a ≡ k) ⊎ (a + 1 ≤ k) → (a + 1 ≤ k → Contains (filter p (range_with_len (a + 1) n)) k)
        → Contains (cond b (a ∷ filter p (range_with_len (a + 1) n)) (filter p (range_with_len (a + 1) n))) k
    pick true e (inl here) ih =
        subst (λ m. Contains (a ∷ filter p (range_with_len (a + 1) n)) m) here
        (listed-first a (filter p (range_with_len (a + 1) n)))
    pick true e (inr later) ih = listed-later a k (filter p (range_with_len (a + 1) n)) (ih later)
    pick false e (inl here) ih = let t : p a ≡ true = subst (λ m. p m ≡ true) (sym here) h in cc
    pick false e (inr later) ih = ih later

-- the possible identities are listed, and nothing else
pub possible-listed : (seen : Observed) (order k : ℕ)
    → Contains (possible seen order) k ↔ ((k < 30) × IsPossible seen order (identity k))
unfolding possible
possible-listed seen order k = (there, here)
  where
    p : ℕ → Bool
    p = λ m. is_possible seen order (identity m)

    there : Contains (filter p (range_with_len 0 30)) k → (k < 30) × IsPossible seen order (identity k)
    there c = let w : Passes p 0 30 k = filter-passes p 0 30 k c in (omega (arith, w.high), possible-is seen order (identity k) w.passes)

    here : (k < 30) × IsPossible seen order (identity k) → Contains (filter p (range_with_len 0 30)) k
    here (low, is) = filter-holds p 0 30 k (omega arith) (omega arith) (possible-tests seen order (identity k) is)
