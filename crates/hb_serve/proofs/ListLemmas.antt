-- What holds of each element of a list with one element more?
use Rattle.std.proofs.Common.{List, [], ◌∷◌, ◌++◌}
use Rattle.std.specs.List.{AllByRecursion}

-- it holds of the last element and of those before it
pub all-last : {A : Type 0} (P : A → Type 0) (xs : List A) (x : A) → AllByRecursion P (xs ++ x ∷ [])
    → AllByRecursion P xs × P x
all-last P [] x all = (tt, all.0)
all-last P (y ∷ xs) x all = let rest = all-last P xs x all.1 in ((all.0, rest.0), rest.1)

-- it holds of them all if it holds of the last one, too
pub all-append_one : {A : Type 0} (P : A → Type 0) (xs : List A) (x : A) → AllByRecursion P xs → P x
    → AllByRecursion P (xs ++ x ∷ [])
all-append_one P [] x all last = (last, tt)
all-append_one P (y ∷ xs) x all last = (all.0, all-append_one P xs x all.1 last)

-- what follows from it holds of each, too
pub all-weaker : {A : Type 0} (P Q : A → Type 0) (xs : List A) → ((x : A) → P x → Q x) → AllByRecursion P xs → AllByRecursion Q xs
all-weaker P Q [] then all = tt
all-weaker P Q (x ∷ xs) then all = (then x all.0, all-weaker P Q xs then all.1)
