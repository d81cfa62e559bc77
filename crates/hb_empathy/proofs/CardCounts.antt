-- Counts of cards: of two tests that agree, of the two halves of a list, and of the first cards of a deck.
use Rattle.std.proofs.Common.{◌≡◌, ℕ, ◌+◌, ◌<◌, ◌≤◌, Bool, true, false, cond, List, [], ◌∷◌, refl, ap, arith, sym, ◌∙◌, length, zero, suc, take}
use Rattle.std.specs.Prelude.{not, map, filter, count_by, slice_index_or}
use Rattle.std.specs.List.{range_with_len}
use Rattle.std.proofs.lemmas.List.{same_lists, length-take-le, get_or-take, get_or_default}
use Rattle.std.proofs.lemmas.List.FromFn.{get_or-map-range_with_len, length-map-range_with_len}
use Rattle.std.proofs.lemmas.List.Sums.{sum_by-cons}
use Rattle.std.proofs.lemmas.List.Filters.{sum_by-filter_both}
use Rattle.hb_rules.specs.declared.suits.Identity.{Identity}
use Rattle.hb_rules.specs.Cards.{count_of, same_identity}

-- two tests count alike if they agree on what is kept of a range
pub count-within : (p q r : ℕ → Bool) (a n : ℕ) → ((k : ℕ) → a ≤ k → k < a + n → r k ≡ true → p k ≡ q k)
    → count_by p (filter r (range_with_len a n)) ≡ count_by q (filter r (range_with_len a n))
count-within p q r a zero e = refl
count-within p q r a (suc n) e = pick (r a) refl (count-within p q r (a + 1) n (λ k low high. e k (omega arith) (omega arith)))
  where
    rest : List ℕ
    rest = filter r (range_with_len (a + 1) n)

    pick : (b : Bool) → r a ≡ b → count_by p rest ≡ count_by q rest
        → count_by p (cond b (a ∷ rest) rest) ≡ count_by q (cond b (a ∷ rest) rest)
    pick true here ih =
        sum_by-cons (λ k. cond (p k) 1 0) a rest
        ∙ (ap (λ b. cond b 1 0 + count_by p rest) (e a (omega arith) (omega arith) here)
        ∙ (ap (λ c. cond (q a) 1 0 + c) ih
        ∙ sym (sum_by-cons (λ k. cond (q k) 1 0) a rest)))
    pick false here ih = ih

-- the first cards of a deck, by their orders
pub cards-take : (xs : List Identity) (d : Identity) (n : ℕ) → n ≤ length xs
    → map (λ k. slice_index_or xs k d) (range_with_len 0 n) ≡ take n xs
cards-take xs d n low = same_lists _ _ (length-map-range_with_len (λ k. slice_index_or xs k d) 0 n ∙ sym (length-take-le n xs low))
    (λ k e here. let inside : k < n = omega (arith, length-map-range_with_len (λ k. slice_index_or xs k d) 0 n, here) in
    get_or-map-range_with_len (λ k. slice_index_or xs k d) 0 n k k e inside (omega arith) ∙
    (get_or_default xs k d e (omega arith) ∙ sym (get_or-take n xs k e inside)))

-- how often an identity stands among the cards of some orders
pub count-map : (f : ℕ → Identity) (id : Identity) (orders : List ℕ)
    → count_of id (map f orders) ≡ count_by (λ k. same_identity id (f k)) orders
count-map f id [] = refl
count-map f id (x ∷ xs) =
    sum_by-cons (λ y. cond (same_identity id y) 1 0) (f x) (map f xs)
    ∙ (ap (λ n. cond (same_identity id (f x)) 1 0 + n) (count-map f id xs)
    ∙ sym (sum_by-cons (λ k. cond (same_identity id (f k)) 1 0) x xs))

-- what passes a test and what does not make up the whole
pub count-both : (h p : ℕ → Bool) (xs : List ℕ) → count_by p (filter h xs) + count_by p (filter (λ k. not (h k)) xs) ≡ count_by p xs
count-both h p xs = sum_by-filter_both h (λ k. not (h k)) (λ _. refl) (λ k. cond (p k) 1 0) xs
