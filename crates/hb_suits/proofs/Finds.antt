-- Searches in lists, and texts with an ending.
use Rattle.std.proofs.Common.{◌≡◌, ◌≢◌, ℕ, Bool, true, false, cond, List, [], ◌∷◌, ◌++◌, Option, Some, None, refl, ap, sym, ◌∙◌}
use Rattle.std.specs.Prelude.{find, map}
use Rattle.std.specs.Option.{option_map}
use Rattle.std.specs.Str.{bytes_eq}
use Rattle.std.proofs.lemmas.Bool.Decides.{same_from_decides}
use Rattle.std.proofs.lemmas.List.{append_cancel_right}
use Rattle.std.proofs.lemmas.Slice.Eq.{bytes_eq-Decides}

-- nothing is found where nothing passes
pub find-none : {X : Type 0} (p : X → Bool) (xs : List X) → ((x : X) → p x ≡ false) → find p xs ≡ None
find-none p [] fails = refl
find-none p (x ∷ xs) fails = rw (fails x) (find-none p xs fails)

-- tests that agree find the same
pub find-same : {X : Type 0} (p q : X → Bool) (xs : List X) → ((x : X) → p x ≡ q x) → find p xs ≡ find q xs
find-same p q [] same = refl
find-same p q (x ∷ xs) same = rw (same x, find-same p q xs same) refl

-- what is found passes
pub find-passes : {X : Type 0} (p : X → Bool) (xs : List X) (x : X) → find p xs ≡ Some x → p x ≡ true
find-passes p [] x is = cc
find-passes {X} p (y ∷ ys) x is = pick (p y) refl (find-passes p ys x)
  where
    pick : (b : Bool) → p y ≡ b → (find p ys ≡ Some x → p x ≡ true) → p x ≡ true
    pick true e later = let here : cond (p y) (Some y) (find p ys) ≡ Some y = rw e refl in let same : y ≡ x = cc in rw (← same) e
    pick false e later = let here : cond (p y) (Some y) (find p ys) ≡ find p ys = rw e refl in later (sym here ∙ is)

choice-map : {X Y : Type 0} (f : X → Y) (b : Bool) (x : X) (o : Option X)
    → cond b (Some (f x)) (option_map f o) ≡ option_map f (cond b (Some x) o)
choice-map f true x o = refl
choice-map f false x o = refl

-- what is found among the images
pub find-map : {X Y : Type 0} (p : Y → Bool) (f : X → Y) (xs : List X) → find p (map f xs) ≡ option_map f (find (λ x. p (f x)) xs)
find-map p f [] = refl
find-map p f (x ∷ xs) = rw (find-map p f xs) (choice-map f (p (f x)) x (find (λ y. p (f y)) xs))

-- two texts with one ending are the same where they are the same without it
pub bytes_eq-append : (xs ys ending : List ℕ) → bytes_eq (xs ++ ending) (ys ++ ending) ≡ bytes_eq xs ys
bytes_eq-append xs ys ending = same_from_decides _ _ (bytes_eq-Decides (xs ++ ending) (ys ++ ending)) (
  λ h. ap (λ zs. zs ++ ending) ((bytes_eq-Decides xs ys).0 h),
  λ e. (bytes_eq-Decides xs ys).1 (append_cancel_right xs ys ending e),
)

-- what does not end so is no text with this ending
pub bytes_eq-other : (name ending xs : List ℕ) → ((front : List ℕ) → name ≢ front ++ ending) → bytes_eq (xs ++ ending) name ≡ false
bytes_eq-other name ending xs other = pick (bytes_eq (xs ++ ending) name) refl
  where
    pick : (b : Bool) → bytes_eq (xs ++ ending) name ≡ b → b ≡ false
    pick true e = absurd (other xs (sym ((bytes_eq-Decides (xs ++ ending) name).0 e)))
    pick false e = refl
