-- The list of names, family by family.
use Rattle.std.proofs.Common.{◌≡◌, ℕ, Bool, true, false, List, [], ◌∷◌, ◌++◌, Option, refl, ap}
use Rattle.std.specs.Prelude.{find, codes, option_and_then, is_some}
use Rattle.std.specs.List.{list_all, list_any}
use Rattle.std.specs.Option.{option_map, option_or}
use Rattle.std.specs.Str.{bytes_eq}
use Rattle.std.proofs.lemmas.List.Folds.{find-append}
use Rattle.hb_rules.specs.declared.suits.Suit.{Suit}
use Rattle.hb_rules.specs.declared.variants.Variant.{Variant}
use Rattle.hb_suits.specs.Variants.{variant_with}
use Rattle.hb_suits.specs.VariantNames.{Entry, suit_name, plain_table, with_last, with_special, last_suits, special_suits, table, listed, is_listed}
use Rattle.hb_suits.proofs.Finds.{find-map}
use Rattle.std.proofs.lemmas.Bool.{and_parts}

-- the first of the suits whose name, with an ending, is the name
abbrev pub ended : List Suit → List ℕ → List ℕ → Option Suit
ended suits name ending = find (λ s. bytes_eq (suit_name s ++ ending) name) suits

-- the variant of what is found
abbrev pub entered : Option Entry → Option Variant
entered found = option_and_then (λ entry. variant_with entry.suits entry.special) found

-- the variant by what is found in each family
pub listed-found : (name : List ℕ) (a : Option Entry) (b c d e : Option Suit) → find (λ entry. bytes_eq entry.name name) plain_table ≡ a
    → ended last_suits name (codes " (5 Suits)") ≡ b → ended last_suits name (codes " (6 Suits)") ≡ c
    → ended special_suits name (codes "-Ones (5 Suits)") ≡ d → ended special_suits name (codes "-Fives (5 Suits)") ≡ e
    → listed name
    ≡ entered
    (option_or
    (option_or (option_or (option_or a (option_map (with_last 4 (codes " (5 Suits)")) b))
    (option_map (with_last 5 (codes " (6 Suits)")) c))
    (option_map (with_special 1 (codes "-Ones (5 Suits)")) d)) (option_map (with_special 5 (codes "-Fives (5 Suits)")) e))
unfolding listed table
listed-found name a b c d e ea eb ec ed ee = ap entered (
    rw (find-append, find-append, find-append, find-append, find-map, find-map, find-map, find-map, ea, eb, ec, ed, ee) refl)

-- each listed name is the name of a variant
all-variants : list_all (λ entry. is_some (variant_with entry.suits entry.special)) table ≡ true
unfolding table variant_with
all-variants = refl

found-some : (p : Entry → Bool) (entries : List Entry)
    → list_all (λ entry. is_some (variant_with entry.suits entry.special)) entries ≡ true
    → is_some (entered (find p entries)) ≡ list_any p entries
found-some p [] all = refl
found-some p (entry ∷ entries) all =
    let each : (is_some (variant_with entry.suits entry.special) ≡ true)
    × (list_all (λ e. is_some (variant_with e.suits e.special)) entries ≡ true) =
    and_parts (is_some (variant_with entry.suits entry.special)) (list_all (λ e. is_some (variant_with e.suits e.special)) entries) all in
    pick (p entry) refl each.0 (found-some p entries each.1)
  where
    pick : (b : Bool) → p entry ≡ b → is_some (variant_with entry.suits entry.special) ≡ true
        → is_some (entered (find p entries)) ≡ list_any p entries
        → is_some (entered (find p (entry ∷ entries))) ≡ list_any p (entry ∷ entries)
    pick true e here rest = rw e here
    pick false e here rest = rw e rest

-- a name has a listed variant exactly where it is in the list
pub listed-some : (name : List ℕ) → is_some (listed name) ≡ is_listed name
unfolding listed
listed-some name = found-some (λ entry. bytes_eq entry.name name) table all-variants
