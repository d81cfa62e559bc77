-- What is read of a list in which, or at whose end, one element is new?
use Rattle.std.proofs.Common.{◌≡◌, ◌≢◌, ℕ, ◌+◌, ◌<◌, Bool, true, false, List, [], ◌∷◌, ◌++◌, Some, length, get_or, sym, ◌∙◌, subst, refl, arith, set, inl, inr, length-set, length-append, nat_lt}
use Rattle.std.proofs.lemmas.Bool.Decides.{nat_tests}
use Rattle.std.proofs.lemmas.List.{get_or-set_other, get_or-set_same, get_or_append_left}
use Rattle.std.proofs.lemmas.Option.{get_or_from_slice_get, slice_get_read, slice_get_within}
use Rattle.std.proofs.Math.Seq.{get_or-append_seam}
use Rattle.std.specs.Prelude.{◌⊎◌, slice_get}

-- at the place that was written
pub set-here : {A : Type 0} (xs : List A) (k : ℕ) (old new x : A) → slice_get xs k ≡ Some old → slice_get (set xs k new) k ≡ Some x
    → x ≡ new
set-here xs k old new x was is =
    sym (get_or_from_slice_get (set xs k new) k x new is) ∙ get_or-set_same xs k new new (slice_get_within xs k old was)

-- and at another place
pub set-there : {A : Type 0} (xs : List A) (k j : ℕ) (new x : A) → j ≢ k → slice_get (set xs k new) j ≡ Some x
    → slice_get xs j ≡ Some x
set-there xs k j new x apart is =
    let within : j < length xs = omega (arith, slice_get_within (set xs k new) j x is, length-set xs k new) in
    slice_get_read xs (length xs) j x refl within
    (sym (sym (get_or-set_other xs k j new x apart) ∙ get_or_from_slice_get (set xs k new) j x x is))

-- an element is an old one, or the new one at the end
pub slice_get-append_one : {A : Type 0} (xs : List A) (last x : A) (k : ℕ) → slice_get (xs ++ last ∷ []) k ≡ Some x
    → (slice_get xs k ≡ Some x) ⊎ ((k ≡ length xs) × (last ≡ x))
slice_get-append_one xs last x k is = by (nat_lt k (length xs)) refl
  where
    by : (b : Bool) → nat_lt k (length xs) ≡ b → (slice_get xs k ≡ Some x) ⊎ ((k ≡ length xs) × (last ≡ x))
    by true low =
        let within : k < length xs = grind (arith, nat_tests) in
        let read : get_or xs k x ≡ x =
        sym (get_or_append_left xs (last ∷ []) x k within) ∙ get_or_from_slice_get (xs ++ last ∷ []) k x x is in
        inl (slice_get_read xs (length xs) k x refl within (sym read))
    by false high =
        let bound : k < length (xs ++ last ∷ []) = slice_get_within (xs ++ last ∷ []) k x is in
        let size : length (xs ++ last ∷ []) ≡ length xs + 1 = length-append xs (last ∷ []) in
        let at : k ≡ length xs = grind (arith, nat_tests) in
        let there : slice_get (xs ++ last ∷ []) (length xs) ≡ Some x = subst (λ n. slice_get (xs ++ last ∷ []) n ≡ Some x) at is in
        inr (at, sym (get_or-append_seam xs last [] x) ∙ get_or_from_slice_get (xs ++ last ∷ []) (length xs) x x there)
