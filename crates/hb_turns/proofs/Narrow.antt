-- A clue narrows the marks of one order of a hand after another.
use Rattle.std.proofs.Common.{subst, zero, suc, ◌≡◌, ◌≢◌, ℕ, ◌+◌, ◌%◌, ◌<◌, ◌≤◌, ⊎_elim, Bool, true, false, List, [], ◌∷◌, ◌++◌, refl, arith, length, min, ap}
use Rattle.std.specs.Prelude.{◌==◌, ◌&&◌, ◌||◌, nat_lt, if◌then◌else◌, slice_index, slice_set, filter}
use Rattle.std.specs.List.{list_any, range_with_len}
use Rattle.std.proofs.lemmas.Bool.{cases_eq}
use Rattle.std.proofs.lemmas.List.{length-set, get_or-set_same, get_or-set_other}
use Rattle.std.proofs.lemmas.List.Folds.{list_any-append}
use Rattle.hb_rules.specs.declared.setups.Setup.{Setup}
use Rattle.hb_rules.specs.Marks.{same}
use Rattle.hb_rules.proofs.RangesLemmas.{filter-range_more}
use Rattle.hb_sets.specs.Sets.{bit}
use Rattle.hb_turns.specs.TableSteps.{IsNarrowed, is_among, is_alike}

-- a member of what is met is a member before, and alike with the card
pub alike-touched : (m mark all touched : ℕ) (own : Bool) → m ≡ min mark touched → mark < 2 → all < 2 → touched ≤ all → own ≡ true
    → (m == 1) ≡ ((mark == 1) && ((all == 1) && same own (touched == 1)))
alike-touched m mark all touched true e low low' within is = grind arith
alike-touched m mark all touched false e low low' within is = cc

-- the same where the card is not touched
pub alike-other : (m mark all touched other : ℕ) (own : Bool) → m ≡ min mark other → other ≡ (all + touched) % 2
    → mark < 2 → all < 2 → touched ≤ all → own ≡ false
    → (m == 1) ≡ ((mark == 1) && ((all == 1) && same own (touched == 1)))
alike-other m mark all touched other false e f low low' within is = grind arith
alike-other m mark all touched other true e f low low' within is = cc

-- before the first order nothing is narrowed
pub narrowed_none : (g : Setup) (all touched : ℕ) (marks : List ℕ) → IsNarrowed g [] all touched marks marks
narrowed_none g all touched marks = record { long = refl; bits = λ k n. grind arith }

-- an order behind others
among-more : (xs : List ℕ) (x k : ℕ) → is_among (xs ++ x ∷ []) k ≡ (is_among xs k || x == k)
among-more xs x k = rw (list_any-append (λ order. order == k) xs (x ∷ [])) (grind arith)

bit-more : (old mid new before here alike : Bool) → mid ≡ (old && (if before then alike else true)) → new ≡ (mid && alike) → here ≡ true
    → new ≡ (old && (if before || here then alike else true))
bit-more old mid new before here alike e f h = grind arith

bit-kept : (old mid before here alike : Bool) → mid ≡ (old && (if before then alike else true)) → here ≡ false
    → mid ≡ (old && (if before || here then alike else true))
bit-kept old mid before here alike e h = grind arith

-- the next order of the hand
pub narrowed_more : (g : Setup) (hand : List ℕ) (all touched : ℕ) (old mid : List ℕ) (x w : ℕ) → x < length mid
    → IsNarrowed g hand all touched old mid
    → ((n : ℕ) → (bit w n == 1) ≡ ((bit (slice_index mid x) n == 1) && is_alike g all touched x n))
    → IsNarrowed g (hand ++ x ∷ []) all touched old (slice_set mid x w)
narrowed_more g hand all touched old mid x w low m is = record {
  long = rw length-set m.long;
  bits = λ k n. rw (among-more hand x k) (⊎_elim
      (λ (e : k ≡ x). let h : (x == k) ≡ true = grind arith in
      bit-more (bit (slice_index old k) n == 1) (bit (slice_index mid k) n == 1) _ (is_among hand k) (x == k)
      (is_alike g all touched k n) (m.bits k n)
      (rw e (rw get_or-set_same (is n))) h)
      (λ (ne : k ≢ x). let h : (x == k) ≡ false = grind arith in
      rw get_or-set_other
      (bit-kept (bit (slice_index old k) n == 1) (bit (slice_index mid k) n == 1) (is_among hand k)
      (x == k) (is_alike g all touched k n) (m.bits k n) h))
      (cases_eq k x));
}

any-one : (b : Bool) (n k : ℕ) → list_any (λ order. order == k) (if b then n ∷ [] else []) ≡ (b && (n == k))
any-one true n k = grind arith
any-one false n k = refl

one-more : (k n : ℕ) (here there : Bool) → (k ≡ n → here ≡ there)
    → ((nat_lt k n && here) || (there && (n == k))) ≡ (nat_lt k (n + 1) && here)
one-more k n true true h = grind arith
one-more k n true false h = ⊎_elim (λ (e : k ≡ n). let no : true ≡ false = h e in cc) (λ (ne : k ≢ n). grind arith) (cases_eq k n)
one-more k n false true h = ⊎_elim (λ (e : k ≡ n). let no : false ≡ true = h e in cc) (λ (ne : k ≢ n). grind arith) (cases_eq k n)
one-more k n false false h = grind arith

among-filter_more : (p : ℕ → Bool) (n k : ℕ) → is_among (filter p (range_with_len 0 n)) k ≡ (nat_lt k n && p k)
    → is_among (filter p (range_with_len 0 (n + 1))) k ≡ (nat_lt k (n + 1) && p k)
among-filter_more p n k ih =
    rw (
      filter-range_more,
      list_any-append (λ order. order == k) (filter p (range_with_len 0 n)) (if p n then n ∷ [] else []),
      ih,
      any-one (p n) n k,
    )
    (one-more k n (p k) (p n) (λ e. ap p e))

-- the numbers that pass below a bound
pub among-filter : (p : ℕ → Bool) (n k : ℕ) → is_among (filter p (range_with_len 0 n)) k ≡ (nat_lt k n && p k)
among-filter p zero k = grind arith
among-filter p (suc n) k =
    let one : n + 1 ≡ suc n = omega arith in
    subst (λ m. is_among (filter p (range_with_len 0 m)) k ≡ (nat_lt k m && p k)) one (among-filter_more p n k (among-filter p n k))
