-- The loop that gathers the cards of an obstruction, goal by goal.
use Rattle.std.proofs.Common.{◌≡◌, ◌≢◌, ℕ, ◌+◌, ◌<◌, ◌^◌, ◌⊎◌, inl, inr, ⊎_elim, List, max, length, slice_index, sym, ◌∙◌, subst, arith}
use Rattle.std.proofs.lemmas.Bool.{cases_eq}
use Rattle.hb_sets.specs.Sets.{bit, Has}
use Rattle.hb_sets.proofs.Bits.{bit-lt, bit-zero}
use Rattle.hb_match.specs.Placing.{Gathers}

-- the next card alone
pub gathered_none : (masks chosen : List ℕ) (closed cards : ℕ) → Has cards (length chosen)
    → ((j : ℕ) → j ≢ length chosen → bit cards j ≡ bit 0 j) → cards < 2 ^ (length chosen + 1)
    → Gathers masks chosen closed 0 cards (slice_index masks (length chosen))
gathered_none masks chosen closed cards put rest narrow =
    let only : (k : ℕ) → Has cards k → k ≡ length chosen =
    λ k p. ⊎_elim (λ e. e) (λ ne. absurd (omega (arith, rest k ne, bit-zero k))) (cases_eq k (length chosen)) in
    record {
      next = put;
      taken = λ k h. absurd (omega arith);
      only = λ k p. inl (only k p);
      covers = λ k p id q. let P : ℕ → Type 0 = λ j. Has (slice_index masks j) id in subst P (only k p) q;
      covered = λ id q. (length chosen, put, q);
      narrow = narrow;
    }

-- a card that holds an identity of the set is left out
pub gathered_kept : (masks chosen : List ℕ) (closed n cards ids : ℕ) → Gathers masks chosen closed n cards ids
    → Has closed (slice_index chosen n) → Gathers masks chosen closed (n + 1) cards ids
gathered_kept masks chosen closed n cards ids g inside = record {
  next = g.next;
  taken = λ k h out. ⊎_elim (λ e. absurd (out (let P : ℕ → Type 0 = λ j. Has closed (slice_index chosen j) in subst P (sym e) inside)))
      (λ ne. g.taken k (omega arith) out) (cases_eq k n);
  only = λ k p. ⊎_elim (λ e. inl e) (λ q. inr (omega (arith, q.0), q.1)) (g.only k p);
  covers = g.covers;
  covered = g.covered;
  narrow = g.narrow;
}

-- a card that holds another identity is taken in, and its mask too
pub gathered_more : (masks chosen : List ℕ) (closed n cards ids cards' ids' : ℕ) → Gathers masks chosen closed n cards ids
    → n < length chosen → ¬ Has closed (slice_index chosen n)
    → Has cards' n → ((j : ℕ) → j ≢ n → bit cards' j ≡ bit cards j) → cards' < 2 ^ (length chosen + 1)
    → ((id : ℕ) → bit ids' id ≡ max (bit ids id) (bit (slice_index masks n) id))
    → Gathers masks chosen closed (n + 1) cards' ids'
gathered_more masks chosen closed n cards ids cards' ids' g below out put rest narrow union =
    let kept : (k : ℕ) → k ≢ n → Has cards' k → Has cards k = λ k ne p. sym (rest k ne) ∙ p in
    let keeps : (k : ℕ) → Has cards k → Has cards' k =
    λ k p. ⊎_elim (λ e. let P : ℕ → Type 0 = λ j. Has cards' j in subst P (sym e) put) (λ ne. rest k ne ∙ p) (cases_eq k n) in
    let left : (id : ℕ) → Has ids id → Has ids' id = λ id p. omega (arith, union id, bit-lt (slice_index masks n) id) in
    let right : (id : ℕ) → Has (slice_index masks n) id → Has ids' id = λ id p. omega (arith, union id, bit-lt ids id) in
    let either : (id : ℕ) → Has ids' id → Has ids id ⊎ Has (slice_index masks n) id =
    λ id p.
    ⊎_elim (λ e. inl e)
    (λ ne. inr (omega (arith, union id, bit-lt ids id, bit-lt (slice_index masks n) id)))
    (cases_eq (bit ids id) 1) in
    record {
      next = keeps (length chosen) g.next;
      taken = λ k h away. ⊎_elim (λ e. let P : ℕ → Type 0 = λ j. Has cards' j in subst P (sym e) put)
          (λ ne. keeps k (g.taken k (omega arith) away)) (cases_eq k n);
      only = λ k p. ⊎_elim
          (λ e. let P : ℕ → Type 0 = λ j. (j ≡ length chosen) ⊎ ((j < n + 1) × ¬ Has closed (slice_index chosen j)) in
          subst P (sym e) (inr (omega arith, out)))
          (λ ne. ⊎_elim (λ e. inl e) (λ q. inr (omega (arith, q.0), q.1)) (g.only k (kept k ne p))) (cases_eq k n);
      covers = λ k p id q. ⊎_elim (λ e. right id (let P : ℕ → Type 0 = λ j. Has (slice_index masks j) id in subst P e q))
          (λ ne. left id (g.covers k (kept k ne p) id q)) (cases_eq k n);
      covered = λ id p. ⊎_elim (λ q. let f = g.covered id q in (f.0, keeps f.0 f.1, f.2)) (λ q. (n, put, q)) (either id p);
      narrow = narrow;
    }
