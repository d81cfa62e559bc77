-- A list is a deck exactly where the variant has all its cards, and each identity with a number stands in it as often as there are copies.
use Rattle.std.proofs.Common.{◌≡◌, ℕ, ◌+◌, ◌<◌, ◌≤◌, Bool, true, false, cond, List, [], ◌∷◌, refl, arith, ap, sym, ◌∙◌, zero, suc, subst}
use Rattle.std.specs.Prelude.{All, slice_index_or}
use Rattle.std.proofs.lemmas.List.Sums.{get_or-le-sum_by, sum_by-cons}
use Rattle.hb_rules.specs.declared.suits.Identity.{Identity}
use Rattle.hb_rules.specs.declared.variants.Variant.{Variant}
use Rattle.hb_rules.specs.Cards.{IsDeck, copies, count_of, identity, number, same_identity}
use Rattle.hb_rules.proofs.Identities.{same_identity-refl, same_identity-true}
use Rattle.hb_rules.proofs.NumbersLemmas.{copies-in_range, identity-number}

-- the variant has each card of a deck
pub All-deck : (v : Variant) (deck : List Identity) → IsDeck v deck → All (λ id. 0 < copies v id) deck
All-deck v deck full k d low =
    let some : cond (same_identity (slice_index_or deck k d) (slice_index_or deck k d)) 1 0 ≤ count_of (slice_index_or deck k d) deck =
    get_or-le-sum_by (λ y. cond (same_identity (slice_index_or deck k d) y) 1 0) deck k d low in
    let one : 1 ≤ count_of (slice_index_or deck k d) deck = rw same_identity-refl at some in
    omega (arith, one, full (slice_index_or deck k d))

-- what the variant has not does not stand among its cards
count_of-absent : (v : Variant) (id : Identity) → copies v id ≡ 0 → (cards : List Identity)
    → All (λ x. 0 < copies v x) cards → count_of id cards ≡ 0
count_of-absent v id none [] all = refl
count_of-absent v id none (x ∷ xs) all =
    pick (same_identity id x) refl (count_of-absent v id none xs (λ k d low. all (suc k) d (omega arith)))
  where
    pick : (b : Bool) → same_identity id x ≡ b → count_of id xs ≡ 0 → count_of id (x ∷ xs) ≡ 0
    pick true e rest = let same : id ≡ x = same_identity-true id x e in
        let here : 0 < copies v x = all 0 x (omega arith) in
        absurd (omega (arith, here, none, ap (copies v) same))
    pick false e rest =
        let more : count_of id (x ∷ xs) ≡ cond (same_identity id x) 1 0 + count_of id xs =
        sum_by-cons (λ y. cond (same_identity id y) 1 0) x xs in
        let none' : cond {A = ℕ} (same_identity id x) 1 0 ≡ 0 = rw e refl in omega (arith, more, none', rest)

-- a list whose identities are as many as the copies is a deck
pub IsDeck-counted : (v : Variant) (deck : List Identity) → All (λ id. 0 < copies v id) deck
    → ((n : ℕ) → n < 30 → count_of (identity n) deck ≡ copies v (identity n)) → IsDeck v deck
IsDeck-counted v deck all counted id = pick (copies v id) refl
  where
    pick : (n : ℕ) → copies v id ≡ n → count_of id deck ≡ copies v id
    pick zero e = count_of-absent v id e deck all ∙ sym e
    pick (suc n) e =
        let here : 0 < copies v id = omega arith in
        let p : (id.suit < 6) × (1 ≤ id.rank) × (id.rank < 6) = copies-in_range v id here in
        let low : number id < 30 = omega arith in
        let named : identity (number id) ≡ id = identity-number id p.1 p.2 in
        subst (λ x. count_of x deck ≡ copies v x) named (counted (number id) low)
