-- The sets of possible identities: where there is no assignment they are empty, and no other set is exact.
use Rattle.std.proofs.Common.{◌≡◌, ◌≢◌, ℕ, ◌+◌, ◌<◌, [], ◌∷◌, ◌++◌, ⊎_elim, List, length, get_or, zero, suc, refl, arith}
use Rattle.std.proofs.lemmas.Bool.{cases_eq}
use Rattle.std.proofs.lemmas.Grind.{common_steps}
use Rattle.std.proofs.lemmas.List.Elements.{All-from_get_or}
use Rattle.std.specs.List.{All}
use Rattle.hb_sets.proofs.Bits.{bit-zero, same_sets, no_members}
use Rattle.hb_match.specs.Matching.{NoAssignment, IsPossibleSet}

-- with no assignment no identity is possible
pub none_possible : (masks left : List ℕ) (card : ℕ) → NoAssignment masks left → IsPossibleSet masks left card 0
none_possible masks left card none id = (λ p. absurd (omega (arith, bit-zero id)), λ q. absurd (none q.0 q.1))

-- so the set is empty then
pub possible_none : (masks left : List ℕ) (card set : ℕ) → IsPossibleSet masks left card set → NoAssignment masks left → set ≡ 0
possible_none masks left card set exact none = no_members set (λ id p. let f = (exact id).0 p in none f.0 f.1)

-- there is one set of possible identities
pub possible_same : (masks left : List ℕ) (card a b : ℕ) → IsPossibleSet masks left card a → IsPossibleSet masks left card b → a ≡ b
possible_same masks left card a b p q = same_sets a b (λ id. (λ h. (q id).1 ((p id).0 h), λ h. (p id).1 ((q id).0 h)))

-- one more set that is exact
pub exact_more : (masks left sets : List ℕ) (n x : ℕ) → length sets ≡ n
    → ((card : ℕ) → card < n → IsPossibleSet masks left card (get_or sets card 0)) → IsPossibleSet masks left n x
    → (card : ℕ) → card < n + 1 → IsPossibleSet masks left card (get_or (sets ++ x ∷ []) card 0)
exact_more masks left sets n x e so_far next card h = ⊎_elim
    (λ (q : card ≡ n).
    let here : get_or (sets ++ x ∷ []) card 0 ≡ x = grind (arith, common_steps) in
    rw (here, q) next)
    (λ (ne : card ≢ n).
    let there : get_or (sets ++ x ∷ []) card 0 ≡ get_or sets card 0 = grind (arith, common_steps) in
    rw there (so_far card (omega arith)))
    (cases_eq card n)

-- with no assignment all sets are empty
pub all_none : (masks left sets : List ℕ) → length sets ≡ length masks
    → ((card : ℕ) → card < length masks → IsPossibleSet masks left card (get_or sets card 0))
    → NoAssignment masks left → All (λ set. set ≡ 0) sets
all_none masks left sets len exact none = All-from_get_or (λ set. set ≡ 0) sets 0
    (λ card h. possible_none masks left card (get_or sets card 0) (exact card (omega arith)) none)

-- one empty set more
pub empty_more : (sets : List ℕ) → ((card : ℕ) → get_or sets card 0 ≡ 0) → (card : ℕ) → get_or (sets ++ 0 ∷ []) card 0 ≡ 0
empty_more [] empty zero = refl
empty_more [] empty (suc card) = refl
empty_more (set ∷ sets) empty zero = empty zero
empty_more (set ∷ sets) empty (suc card) = empty_more sets (λ k. empty (suc k)) card

-- with no assignment empty sets are exact
pub all_empty : (masks left sets : List ℕ) → ((card : ℕ) → get_or sets card 0 ≡ 0) → NoAssignment masks left
    → (card : ℕ) → card < length masks → IsPossibleSet masks left card (get_or sets card 0)
all_empty masks left sets empty none card h = rw (empty card) (none_possible masks left card none)
