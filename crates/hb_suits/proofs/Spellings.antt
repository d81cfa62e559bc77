-- Spelled names: what follows from a part of the pieces, and from all of them.
use Rattle.std.proofs.Common.{◌≡◌, ℕ, ◌<◌, Bool, true, false, List, [], ◌∷◌, Option, Some, None, refl, arith, ◌+◌, length, get_or, ◌++◌, take, set, Bor}
use Rattle.std.specs.Prelude.{map, filter_map, is_some}
use Rattle.std.specs.List.{cons_option}
use Rattle.std.proofs.lemmas.List.{take_more_set}
use Rattle.std.proofs.lemmas.List.Folds.{list_all_at}
use Rattle.hb_rules.specs.declared.suits.Suit.{Suit}
use Rattle.hb_rules.specs.Suits.{is_variant}
use Rattle.hb_suits.specs.Variants.{placed, variant_with}
use Rattle.hb_suits.specs.VariantNames.{suit_named, pieces, are_suits, spelled}
use Rattle.hb_suits.proofs.PlacesLemmas.{variant_with-none, is_variant-few}
use Rattle.std.proofs.lemmas.Bool.{and_parts}

-- the texts behind references
abbrev pub texts : List (Bor (List ℕ)) → List (List ℕ)
texts xs = map (λ x. x.now) xs

-- one piece that names no suit
pub spelled-unnamed : (text : List ℕ) (i : ℕ) (piece : List ℕ) → i < length (pieces text)
    → piece ≡ get_or (pieces text) i piece → suit_named piece ≡ None → spelled text ≡ None
unfolding spelled
spelled-unnamed text i piece low is unnamed =
    let fails : is_some (suit_named (get_or (pieces text) i piece)) ≡ false = rw (← is, unnamed) refl in
    rw (list_all_at (λ part. is_some (suit_named part)) (pieces text) i piece low fails) refl

length-cons : (b : Option Suit) (xs : List Suit) → is_some b ≡ true → length (cons_option b xs) ≡ length (xs) + 1
length-cons None xs e = cc
length-cons (Some s) xs e = omega arith

length-named : (parts : List (List ℕ)) → are_suits parts ≡ true → length (filter_map suit_named parts) ≡ length parts
length-named [] all = refl
length-named (part ∷ parts) all =
    let each : (is_some (suit_named part) ≡ true) × (are_suits parts ≡ true) =
    and_parts (is_some (suit_named part)) (are_suits parts) all in
    omega (arith, length-cons (suit_named part) (filter_map suit_named parts) each.0, length-named parts each.1)

too-many : (suits : List Suit) → 6 < length suits → variant_with suits None ≡ None
too-many suits many = variant_with-none suits None (pick (is_variant (placed suits) None) refl)
  where
    pick : (b : Bool) → is_variant (placed suits) None ≡ b → b ≡ false
    pick true is = absurd (omega (arith, is_variant-few suits None is))
    pick false is = refl

-- more than six pieces
pub spelled-long : (text : List ℕ) → 6 < length (pieces text) → spelled text ≡ None
unfolding spelled
spelled-long text many = pick (are_suits (pieces text)) refl
  where
    pick : (b : Bool) → are_suits (pieces text) ≡ b → spelled text ≡ None
    pick true all = rw all (too-many (filter_map suit_named (pieces text)) (omega (arith, length-named (pieces text) all)))
    pick false all = rw all refl

-- all pieces name suits
pub spelled-named : (text : List ℕ) → are_suits (pieces text) ≡ true
    → spelled text ≡ variant_with (filter_map suit_named (pieces text)) None
unfolding spelled
spelled-named text all = rw all refl

-- one piece more, which names a suit
pub are_suits-push : (xs : List (Bor (List ℕ))) (x : Bor (List ℕ)) (s : Suit) → are_suits (texts xs) ≡ true
    → suit_named x.now ≡ Some s → are_suits (texts (xs ++ x ∷ [])) ≡ true
are_suits-push [] x s named is = rw is refl
are_suits-push (y ∷ ys) x s named is =
    let each : (is_some (suit_named y.now) ≡ true) × (are_suits (texts ys) ≡ true) =
    and_parts (is_some (suit_named y.now)) (are_suits (texts ys)) named in
    rw (each.0, are_suits-push ys x s each.1 is) refl

cons_option-append : (o : Option Suit) (suits : List Suit) (s : Suit) → cons_option o (suits ++ s ∷ []) ≡ cons_option o suits ++ s ∷ []
cons_option-append None suits s = refl
cons_option-append (Some t) suits s = refl

filter_map-push : (xs : List (Bor (List ℕ))) (x : Bor (List ℕ)) (s : Suit) → suit_named x.now ≡ Some s
    → filter_map suit_named (texts (xs ++ x ∷ [])) ≡ filter_map suit_named (texts xs) ++ s ∷ []
filter_map-push [] x s is = rw is refl
filter_map-push (y ∷ ys) x s is =
    rw (filter_map-push ys x s is) (cons_option-append (suit_named y.now) (filter_map suit_named (texts ys)) s)

-- one more named suit
pub named-push : (suits : List Suit) (count : ℕ) (s : Suit) (xs : List (Bor (List ℕ))) (x : Bor (List ℕ))
    → count < length suits → take count suits ≡ filter_map suit_named (texts xs) → suit_named x.now ≡ Some s
    → take (count + 1) (set suits count s) ≡ filter_map suit_named (texts (xs ++ x ∷ []))
named-push suits count s xs x low kept is = rw (take_more_set suits count s low, kept, filter_map-push xs x s is) refl
