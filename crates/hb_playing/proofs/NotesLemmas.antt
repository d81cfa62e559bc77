-- What do a notebook's texts come to, and which lists are they?
use Rattle.std.proofs.Common.{◌≡◌, ℕ, ◌+◌, ◌<◌, ◌≤◌, Bool, true, false, cond, List, [], ◌∷◌, ◌++◌, ◌∙◌, refl, ap, sym, arith, get_or, length, map, take, Some, None, Option}
use Rattle.std.specs.Prelude.{◌&&◌, ◌==◌, bytes_eq, if◌then◌else◌, nat_le, unwrap_or, Result, Ok, Err, IsOk, OnOk}
use Rattle.std.specs.HashMap as hash
use Rattle.std.specs.List.{list_all, range_with_len}
use Rattle.std.proofs.lemmas.Bool.{and_from}
use Rattle.std.proofs.lemmas.List.{length-map, map_more}
use Rattle.std.proofs.lemmas.List.FromFn.{length-map-range_with_len, map-range_with_len_more}
use Rattle.std.proofs.lemmas.Slice.Eq.{bytes_eq-Decides}
use Rattle.hb_rules.specs.declared.limits.TheConstants.{MOST_CARDS, MOST_PLAYERS}
use Rattle.hb_replay.specs.declared.refusals.TheConstants.{MOST_NOTES, MOST_NOTE_LISTS}
use Rattle.hb_replay.specs.Contents.{notes_fit}
use Rattle.hb_club.specs.ClerkCalls.{SetNote, note_lists, text_at}
use Rattle.hb_playing.specs.Notes.{key_eq}

true-false : true ≡ false → ⊥
true-false e = cc

-- the bytes of two texts are compared either way round
bytes_eq-flip : (a b : List ℕ) → bytes_eq a b ≡ bytes_eq b a
bytes_eq-flip a b = pick (bytes_eq a b) (bytes_eq b a) refl refl
  where
    pick : (p q : Bool) → bytes_eq a b ≡ p → bytes_eq b a ≡ q → p ≡ q
    pick true true ab ba = refl
    pick false false ab ba = refl
    pick true false ab ba = absurd (true-false (sym ((bytes_eq-Decides b a).1 (sym ((bytes_eq-Decides a b).0 ab))) ∙ ba))
    pick false true ab ba = absurd (true-false (sym ((bytes_eq-Decides a b).1 (sym ((bytes_eq-Decides b a).0 ba))) ∙ ab))

-- the text at a key, once one was set
pub text_at-set : (name other : List ℕ) (order place : ℕ) (text : List ℕ) (found : Option (List ℕ)) (notes : List SetNote)
    → unwrap_or found [] ≡ text_at other place notes
    → unwrap_or (cond (key_eq (name, order) (other, place)) (Some text) found) []
    ≡ text_at other place (record { name = name; order = order; text = text } ∷ notes)
text_at-set name other order place text found notes same =
    rw (bytes_eq-flip other name) (pick (bytes_eq name other && order == place))
  where
    pick : (b : Bool) → unwrap_or (cond b (Some text) found) [] ≡ (if b then text else text_at other place notes)
    pick true = refl
    pick false = same

-- a map with a value at some key is not empty
pub get-some : {K X S : Type 0} (eq : K → K → Bool) (m : hash.HashMap K X S) (k : K) (v : X)
    → hash.get eq m k ≡ Some v → hash.hash_map_len m ≡ 0 → ⊥
get-some {K} {X} eq m k v is none = pick m.entries refl
  where
    pick : (es : List (K × X)) → m.entries ≡ es → ⊥
    pick [] e = let found : None ≡ Some v = rw e at is in cc
    pick (x ∷ es) e = let some : length (x ∷ es) ≡ 0 = rw e at none in omega (arith, some)

-- the lists, if a note was set
pub note_lists-some : (names : List (List ℕ)) (size : ℕ) (notes : List SetNote) → (notes ≡ [] → ⊥)
    → map (λ (name : List ℕ). map (λ order. text_at name order notes) (range_with_len 0 size)) names ≡ note_lists names size notes
note_lists-some names size [] some = absurd (some refl)
note_lists-some names size (n ∷ notes) some = refl

at-most : (n m k : ℕ) → n ≡ m → m ≤ k → nat_le n k ≡ true
at-most n m k same few = grind arith

-- lists that are each no longer than a replay may have them
short-lists : (f : List ℕ → List (List ℕ)) (names : List (List ℕ)) → ((name : List ℕ) → nat_le (length (f name)) MOST_NOTES ≡ true)
    → list_all (λ list. nat_le (length list) MOST_NOTES) (map f names) ≡ true
short-lists f [] short = refl
short-lists f (name ∷ names) short =
    and_from (nat_le (length (f name)) MOST_NOTES) (list_all (λ list. nat_le (length list) MOST_NOTES) (map f names)) (short name)
    (short-lists f names short)

-- a replay can hold the notes of a game's players at its cards
pub note_lists-fit : (names : List (List ℕ)) (size : ℕ) (notes : List SetNote) → length names ≤ MOST_PLAYERS → size ≤ MOST_CARDS
    → notes_fit (note_lists names size notes) ≡ true
note_lists-fit names size [] six few = refl
note_lists-fit names size (n ∷ notes) six few =
    let f : List ℕ → List (List ℕ) = λ name. map (λ order. text_at name order (n ∷ notes)) (range_with_len 0 size) in
    and_from (nat_le (length (map f names)) MOST_NOTE_LISTS) (list_all (λ list. nat_le (length list) MOST_NOTES) (map f names))
    (at-most (length (map f names)) (length names) MOST_NOTE_LISTS (length-map names f) (omega (arith, six)))
    (short-lists f names (λ name. at-most (length (f name)) size MOST_NOTES
    (length-map-range_with_len (λ order. text_at name order (n ∷ notes)) 0 size) (omega (arith, few))))

-- one more item of a list that is made of numbers
pub map-range_more : (f : ℕ → List ℕ) (before after : List (List ℕ)) (n : ℕ) (x : List ℕ) → before ≡ map f (range_with_len 0 n) → x ≡ f n
    → after ≡ before ++ x ∷ [] → after ≡ map f (range_with_len 0 (n + 1))
map-range_more f before after n x was is more = more ∙ rw (was, is) (sym (map-range_with_len_more f 0 n n (omega arith)))

-- a result that is a value has what is said of one
pub on_ok : {T E P : Type 0} (r : Result T E) → IsOk r → OnOk r P → P
on_ok (Ok x) ok is = is
on_ok (Err e) ok is = cc

-- a list with an item is not empty
pub cons-some : {A : Type 0} (xs ys : List A) (x : A) → xs ≡ x ∷ ys → xs ≡ [] → ⊥
cons-some xs ys x is none = cc

-- one more item of a list that is made of the first names
pub map-take_more : (f : List ℕ → List (List ℕ)) (names : List (List ℕ)) (before after : List (List (List ℕ))) (i : ℕ) (name : List ℕ)
    (x : List (List ℕ)) → before ≡ map f (take i names) → x ≡ f name → name ≡ get_or names i name → i < length names
    → after ≡ before ++ x ∷ [] → after ≡ map f (take (i + 1) names)
map-take_more f names before after i name x was is here low more =
    more ∙ rw (was, is) (ap (λ (d : List ℕ). map f (take i names) ++ f d ∷ []) here ∙ sym (map_more f names i name low))
