-- The text of a list, one item on.
use Rattle.std.proofs.Common.{◌≡◌, ℕ, Bool, true, false, List, [], ◌∷◌, ◌++◌, refl, ap, append_assoc, append-nil}
use Rattle.serde_json.specs.Data.{Data}
use Rattle.serde_json.specs.View.{items_of}
use Rattle.serde_json.specs.Written.{comma_if, compact_text, items_text}

-- something stands in the list
abbrev pub has_item : {A : Type 0} → List A → Bool
has_item [] = false
has_item (x ∷ xs) = true

-- the items behind another one, each with its comma
abbrev pub behind : List Data → List ℕ
behind [] = []
behind (d ∷ ds) = 44 ∷ (compact_text d ++ behind ds)

-- the items of a list, without the brackets
unfoldable pub between : List Data → List ℕ
between [] = []
between (d ∷ ds) = compact_text d ++ behind ds

behind_more : (ds : List Data) (d : Data) → behind (ds ++ d ∷ []) ≡ behind ds ++ 44 ∷ compact_text d
behind_more [] d = ap (λ text. 44 ∷ text) (append-nil (compact_text d))
behind_more (e ∷ ds) d = rw (behind_more ds d, append_assoc) refl

-- nothing stands between the brackets of an empty list
pub between_nil : between [] ≡ []
unfolding between
between_nil = refl

-- one item more, behind a comma if it is not the first
pub between_more : (ds : List Data) (d : Data) → between (ds ++ d ∷ []) ≡ between ds ++ (comma_if (has_item ds) ++ compact_text d)
unfolding between
between_more [] d = append-nil (compact_text d)
between_more (e ∷ ds) d = rw (behind_more ds d, append_assoc) refl

behind_all : (ds : List Data) → items_text true (items_of ds) ≡ behind ds ++ 93 ∷ []
behind_all [] = refl
behind_all (d ∷ ds) = rw (behind_all ds, append_assoc) refl

-- the items of a list, with the closing bracket
pub between_all : (ds : List Data) → items_text false (items_of ds) ≡ between ds ++ 93 ∷ []
unfolding between
between_all [] = refl
between_all (d ∷ ds) = rw (behind_all ds, append_assoc) refl

-- something stands in a list with one item more
pub has_item_more : {A : Type 0} (xs : List A) (x : A) → has_item (xs ++ x ∷ []) ≡ true
has_item_more [] x = refl
has_item_more (y ∷ xs) x = refl
