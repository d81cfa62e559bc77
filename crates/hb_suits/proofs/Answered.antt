-- What `variant` answers, by what is found.
use Rattle.std.proofs.Common.{◌≡◌, ◌≢◌, ◌↔◌, ℕ, Bool, true, false, List, [], ◌∷◌, Option, Some, None, Err, refl, arith, ap, sym, ◌∙◌, IfOk, OnErr}
use Rattle.std.specs.Prelude.{◌==◌, is_some, map}
use Rattle.std.specs.List.{join_with_byte}
use Rattle.hb_rules.specs.declared.suits.Suit.{Suit}
use Rattle.std.specs.Option.{ok_or}
use Rattle.hb_rules.specs.declared.variants.Variant.{Variant}
use Rattle.hb_suits.specs.declared.names.VariantError.{VariantError}
use Rattle.hb_suits.specs.declared.names.VariantError.TheVariants.{Unknown, BadSpelling}
use Rattle.hb_suits.specs.Variants.{variant_with}
use Rattle.hb_suits.specs.VariantNames.{equals, plus, suit_name, is_spelling, is_listed, spelling, Spells, spelled, listed, variant_of}
use Rattle.hb_suits.proofs.Listed.{listed-some}
use Rattle.hb_suits.proofs.Joined.{spelled-join, spelled-some}

is_spelling-other : (name : List ℕ) → ((text : List ℕ) → name ≢ equals ∷ text) → is_spelling name ≡ false
is_spelling-other [] other = refl
is_spelling-other (c ∷ text) other = pick (c == equals) refl
  where
    pick : (b : Bool) → (c == equals) ≡ b → b ≡ false
    pick true e = let same : c ≡ equals = grind arith in absurd (other text (ap (λ d. d ∷ text) same))
    pick false e = refl

-- the form of the name
pub variant_of-spelled : (name text : List ℕ) → name ≡ equals ∷ text → (is_spelling name ≡ true) × (variant_of name ≡ spelled text)
unfolding variant_of
variant_of-spelled name text e = (rw e refl, rw e refl)

-- a name that does not begin with `=` is that of a listed variant
pub variant_of-listed : (name : List ℕ) → ((text : List ℕ) → name ≢ equals ∷ text)
    → (is_spelling name ≡ false) × (variant_of name ≡ listed name)
unfolding variant_of
variant_of-listed name other = (is_spelling-other name other, rw (is_spelling-other name other) refl)

-- the answer
pub named-by : (name : List ℕ) (o : Option Variant) (e : VariantError) → variant_of name ≡ o
    → IfOk (ok_or o e) (λ v. variant_of name ≡ Some v)
named-by name None e is = tt
named-by name (Some v) e is = is

-- a refusal of a name that has no variant
pub refused-by : (name : List ℕ) (o : Option Variant) (e : VariantError) → variant_of name ≡ o → OnErr (ok_or o e) (variant_of name ≡ None)
refused-by name None e is = is
refused-by name (Some v) e is = tt

-- this error, for a name of this form
pub error-by : (name : List ℕ) (o : Option Variant) (e : VariantError) (form : Bool) → variant_of name ≡ o
    → is_spelling name ≡ form → (ok_or o e ≡ Err e) ↔ ((is_spelling name ≡ form) × (variant_of name ≡ None))
error-by name None e form is shape = (λ h. (shape, is), λ h. refl)
error-by name (Some v) e form is shape = (λ h. cc, λ h. cc)

some-none : (o : Option Variant) → is_some o ≡ false → o ≡ None
some-none None e = refl
some-none (Some v) e = cc

-- `Unknown`, for a name that is no spelling
pub unknown-by : (name : List ℕ) (o : Option Variant) → listed name ≡ o → is_spelling name ≡ false
    → (ok_or o Unknown ≡ Err Unknown) ↔ ((is_spelling name ≡ false) × (is_listed name ≡ false))
unknown-by name None is shape = (λ h. (shape, sym (listed-some name) ∙ ap is_some is), λ h. refl)
unknown-by name (Some v) is shape = (λ h. cc, λ h. let none : listed name ≡ None = some-none (listed name) (listed-some name ∙ h.1) in cc)

-- what is spelled
pub spells-by : (name text : List ℕ) (o : Option Variant) → name ≡ equals ∷ text → spelled text ≡ o
    → (suits : List Suit) → name ≡ spelling suits
    → ok_or o BadSpelling ≡ ok_or (variant_with suits None) BadSpelling
spells-by name text o whole is suits e =
    let same : text ≡ join_with_byte plus (map suit_name suits) = cc in
    ap (λ found. ok_or found BadSpelling) (sym is ∙ (ap spelled same ∙ spelled-join suits))

-- what a name behind `=` spells
pub spelled-by : (name text : List ℕ) (o : Option Variant) → name ≡ equals ∷ text → spelled text ≡ o
    → IfOk (ok_or o BadSpelling) (λ v. is_spelling name ≡ true → Spells name v)
spelled-by name text None whole is = tt
spelled-by name text (Some v) whole is =
    λ shape.
    (let some : (suits : List Suit) × (text ≡ join_with_byte plus (map suit_name suits))
    × (variant_with suits None ≡ Some v) =
    spelled-some text v is in
    (some.0, whole ∙ ap (λ rest. equals ∷ rest) some.1, some.2))

-- and a name that is no spelling
pub unspelled-by : (name : List ℕ) (o : Option Variant) → is_spelling name ≡ false
    → IfOk (ok_or o Unknown) (λ v. is_spelling name ≡ true → Spells name v)
unspelled-by name None shape = tt
unspelled-by name (Some v) shape = λ h. cc

-- a name that is no spelling is not misspelled
pub other-error : (name : List ℕ) (o : Option Variant) → is_spelling name ≡ false
    → (ok_or o Unknown ≡ Err BadSpelling) ↔ ((is_spelling name ≡ true) × (variant_of name ≡ None))
other-error name None shape = (λ h. cc, λ h. cc)
other-error name (Some v) shape = (λ h. cc, λ h. cc)
