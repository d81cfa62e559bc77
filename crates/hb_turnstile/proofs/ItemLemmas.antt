-- Items of lists: of one that is replaced, one at the end, one below the length.
use Rattle.std.proofs.Common.{◌≡◌, ◌≢◌, ◌⊎◌, ℕ, zero, suc, ◌<◌, Bool, true, false, List, [], ◌∷◌, ◌++◌, length, set, refl, ap, sym, subst, inl, inr, ⊎_elim, arith}
use mathlib.Core.Option.{some, some-injective, some-ne-none}
use lib.ListN.{get_elem?}
use Rattle.atomic_table.proofs.Lists.{at_set}

-- what holds of each item stays so where one item is replaced
pub seats_stay : {A : Type 0} (P : ℕ → A → Type 0) (vs : List A) (me : ℕ) (w : A) → P me w
    → ((j : ℕ) (v : A) → j ≢ me → get_elem? vs j ≡ some v → P j v)
    → (j : ℕ) (v : A) → get_elem? (set vs me w) j ≡ some v → P j v
seats_stay {A} P vs me w mine others j v e =
    ⊎_elim
    (λ (t : (j ≡ me) × (w ≡ v)). subst (λ (x : ℕ × A). P x.0 x.1) (λ i. (sym t.0 i, t.1 i)) mine)
    (λ (t : (j ≢ me) × (get_elem? vs j ≡ some v)). others j v t.0 t.1)
    (at_set vs me j w v e)

-- at the end of a longer list stands the new item, and before it those of the list
pub at_end : {A : Type 0} (l : List A) (a b : A) (j : ℕ) → get_elem? (l ++ a ∷ []) j ≡ some b
    → (get_elem? l j ≡ some b) ⊎ ((j ≡ length l) × (a ≡ b))
at_end [] a b zero e = inr (refl, some-injective a b e)
at_end [] a b (suc j) e = absurd (some-ne-none b (sym e))
at_end (x ∷ xs) a b zero e = inl e
at_end (x ∷ xs) a b (suc j) e = ⊎_elim inl (λ t. inr (ap suc t.0, t.1)) (at_end xs a b j e)

-- an item stands below the length
pub there_below : {A : Type 0} (l : List A) (j : ℕ) (a : A) → get_elem? l j ≡ some a → j < length l
there_below [] j a e = absurd (some-ne-none a (sym e))
there_below (x ∷ xs) zero a e = omega arith
there_below (x ∷ xs) (suc j) a e = let r = there_below xs j a e in omega arith

-- what is not true is false
pub true_or_false : (b : Bool) → (b ≡ true → ⊥) → b ≡ false
true_or_false true never = absurd (never refl)
true_or_false false never = refl

-- the one item of a list, once it is replaced
pub set_first : {A : Type 0} (hs : List A) (y : A) → length hs ≡ 1 → get_elem? (set hs 0 y) 0 ≡ some y
set_first [] y e = absurd (omega arith)
set_first (h ∷ hs) y e = refl
