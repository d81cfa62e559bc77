-- At which place does a number stand among those of a range that pass a test?
use Rattle.std.proofs.Common.{◌≡◌, ◌≢◌, ℕ, ◌+◌, ◌<◌, ◌≤◌, Bool, true, false, cond, List, [], ◌∷◌, refl, ap, arith, sym, ◌∙◌, length, zero, suc}
use Rattle.std.specs.Prelude.{◌==◌, filter, count_by, slice_index, if◌then◌else◌}
use Rattle.std.specs.List.{range_with_len}
use Rattle.std.proofs.lemmas.List.Sums.{sum_by-cons}
use Rattle.hb_empathy.proofs.CardCounts.{count-within}

-- the first place of a number in a list, or the list's length
unfoldable pub place : List ℕ → ℕ → ℕ
place [] k = 0
place (x ∷ xs) k = if x == k then 0 else suc (place xs k)

-- the number stands at its place
pub record AtPlace (xs : List ℕ) (k : ℕ) : Type 0 where
  pub low : place xs k < length xs
  pub is : slice_index xs (place xs k) ≡ k

at_place-cons : (x k : ℕ) (xs : List ℕ) → ((x == k) ≡ false → AtPlace xs k) → AtPlace (x ∷ xs) k
unfolding place
at_place-cons x k xs there = pick (x == k) refl
  where
    pick : (b : Bool) → (x == k) ≡ b → AtPlace (x ∷ xs) k
    pick true e = record { low = rw e (omega arith); is = rw e (let s : x ≡ k = grind arith in s) }
    pick false e = let t : AtPlace xs k = there e in
        record { low = rw e (let l : place xs k < length xs = t.low in omega arith); is = rw e (t.is) }

-- a number that passes stands at its place
pub at_place : (r : ℕ → Bool) (a n k : ℕ) → r k ≡ true → a ≤ k → k < a + n → AtPlace (filter r (range_with_len a n)) k
at_place r a zero k here low high = absurd (omega arith)
at_place r a (suc n) k here low high = pick (r a) refl (at_place r (a + 1) n k here)
  where
    rest : List ℕ
    rest = filter r (range_with_len (a + 1) n)

    pick : (b : Bool) → r a ≡ b → (a + 1 ≤ k → k < a + 1 + n → AtPlace rest k) → AtPlace (cond b (a ∷ rest) rest) k
    pick true e ih = at_place-cons a k rest (λ other. let ne : a ≢ k = (λ (s : a ≡ k). grind arith) in ih (omega arith) (omega arith))
    pick false e ih = let ne : a ≢ k = (λ (s : a ≡ k). let t : r a ≡ true = rw s here in cc) in ih (omega arith) (omega arith)

-- the number passes and is in the range
pub record Passes (r : ℕ → Bool) (a n k : ℕ) : Type 0 where
  pub passes : r k ≡ true
  pub low : a ≤ k
  pub high : k < a + n

passes-wider : (r : ℕ → Bool) (a n k : ℕ) → Passes r (a + 1) n k → Passes r a (suc n) k
passes-wider r a n k p = record { passes = p.passes; low = omega (arith, p.low); high = omega (arith, p.high) }

-- what stands at a place passes
pub filter-at : (r : ℕ → Bool) (a n j : ℕ) → j < length (filter r (range_with_len a n))
    → Passes r a n (slice_index (filter r (range_with_len a n)) j)
filter-at r a zero j low = absurd (omega arith)
filter-at r a (suc n) j low = pick (r a) refl j low (λ i l. filter-at r (a + 1) n i l)
  where
    rest : List ℕ
    rest = filter r (range_with_len (a + 1) n)

    pick : (b : Bool) → r a ≡ b → (i : ℕ) → i < length (cond b (a ∷ rest) rest)
        → ((m : ℕ) → m < length rest → Passes r (a + 1) n (slice_index rest m))
        → Passes r a (suc n) (slice_index (cond b (a ∷ rest) rest) i)
    pick true e zero l ih = record { passes = e; low = omega arith; high = omega arith }
    pick true e (suc i) l ih = passes-wider r a n (slice_index rest i) (ih i (omega arith))
    pick false e i l ih = passes-wider r a n (slice_index rest i) (ih i l)

place-first : (p : ℕ → Bool) (xs ys : List ℕ) (a y : ℕ) → p (slice_index (y ∷ ys) (place (a ∷ xs) a)) ≡ p y
unfolding place
place-first p xs ys a y = let e : (a == a) ≡ true = grind arith in rw e refl

place-later : (p : ℕ → Bool) (xs ys : List ℕ) (a y k : ℕ) → a + 1 ≤ k
    → p (slice_index (y ∷ ys) (place (a ∷ xs) k)) ≡ p (slice_index ys (place xs k))
unfolding place
place-later p xs ys a y k far = let e : (a == k) ≡ false = grind arith in rw e refl

-- what is given to the numbers that pass, counted by their places
pub count-given : (r p : ℕ → Bool) (a n : ℕ) (given : List ℕ) → length given ≡ length (filter r (range_with_len a n))
    → count_by (λ k. p (slice_index given (place (filter r (range_with_len a n)) k))) (filter r (range_with_len a n)) ≡ count_by p given
count-given r p a zero [] long = refl
count-given r p a zero (y ∷ ys) long = absurd (omega arith)
count-given r p a (suc n) given long = pick (r a) refl given long (λ ys l. count-given r p (a + 1) n ys l)
  where
    rest : List ℕ
    rest = filter r (range_with_len (a + 1) n)

    pick : (b : Bool) → r a ≡ b → (ys : List ℕ) → length ys ≡ length (cond b (a ∷ rest) rest)
        → ((zs : List ℕ) → length zs ≡ length rest → count_by (λ k. p (slice_index zs (place rest k))) rest ≡ count_by p zs)
        → count_by (λ k. p (slice_index ys (place (cond b (a ∷ rest) rest) k))) (cond b (a ∷ rest) rest) ≡ count_by p ys
    pick true e [] l ih = absurd (omega arith)
    pick true e (y ∷ ys) l ih =
        let q : ℕ → Bool = λ k. p (slice_index (y ∷ ys) (place (a ∷ rest) k)) in
        let swap : count_by q rest ≡ count_by (λ k. p (slice_index ys (place rest k))) rest =
        count-within q (λ k. p (slice_index ys (place rest k))) r (a + 1) n (λ k low high here. place-later p rest ys a y k low) in
        sum_by-cons (λ k. cond (q k) 1 0) a rest
        ∙ (ap (λ b. cond b 1 0 + count_by q rest) (place-first p rest ys a y)
        ∙ (ap (λ c. cond (p y) 1 0 + c) (swap ∙ ih ys (omega arith))
        ∙ sym (sum_by-cons (λ x. cond (p x) 1 0) y ys)))
    pick false e ys l ih = ih ys l
