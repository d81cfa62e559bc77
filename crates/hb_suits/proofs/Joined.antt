-- Spelled names are the names of suits joined by `+`, in both directions.
use Rattle.std.proofs.Common.{◌≡◌, ℕ, Bool, true, false, List, [], ◌∷◌, Option, Some, None, refl, get_or, ap, ◌∙◌, sym}
use Rattle.std.specs.Prelude.{◌==◌, not, map, filter_map, is_some, All}
use Rattle.std.specs.List.{list_all, join_with_byte}
use Rattle.std.specs.Str.{bytes_eq}
use Rattle.std.proofs.lemmas.List.Sums.{AllPass-from_list_all}
use Rattle.std.proofs.lemmas.List.Splits.{slice_split_none, slice_split_at, join_with_byte-slice_split}
use Rattle.std.proofs.lemmas.Slice.Eq.{bytes_eq-Decides}
use Rattle.hb_rules.specs.declared.suits.Suit.{Suit}
use Rattle.hb_rules.specs.declared.suits.Suit.TheVariants as suit
use Rattle.hb_rules.specs.declared.variants.Variant.{Variant}
use Rattle.hb_suits.specs.Variants.{variant_with}
use Rattle.hb_suits.specs.VariantNames.{plus, suit_name, suit_named, all_suits, pieces, are_suits, spelled}
use Rattle.hb_suits.proofs.Finds.{find-passes}
use Rattle.hb_suits.proofs.PlacesLemmas.{variant_with-none}
use Rattle.hb_suits.proofs.Spellings.{spelled-named}
use Rattle.std.proofs.lemmas.Bool.{and_parts}

lacks-plus : (s : Suit) → list_all (λ c. not (c == plus)) (suit_name s) ≡ true
lacks-plus suit.Red = refl
lacks-plus suit.Yellow = refl
lacks-plus suit.Green = refl
lacks-plus suit.Blue = refl
lacks-plus suit.Purple = refl
lacks-plus suit.Teal = refl
lacks-plus suit.Rainbow = refl
lacks-plus suit.Pink = refl
lacks-plus suit.White = refl
lacks-plus suit.Brown = refl
lacks-plus suit.Black = refl
lacks-plus suit.Omni = refl
lacks-plus suit.Null = refl
lacks-plus suit.MuddyRainbow = refl
lacks-plus suit.LightPink = refl
lacks-plus suit.Prism = refl

not-true : (b : Bool) → not b ≡ true → b ≡ false
not-true true e = cc
not-true false e = refl

-- no suit's name has a `+`
no-plus : (s : Suit) → All (λ c. (c == plus) ≡ false) (suit_name s)
no-plus s k d low =
    not-true (get_or (suit_name s) k d == plus)
    (AllPass-from_list_all (λ c. not (c == plus)) (suit_name s) (lacks-plus s) k d low)

-- a suit is told by its name
suit_named-suit_name : (s : Suit) → suit_named (suit_name s) ≡ Some s
suit_named-suit_name suit.Red = refl
suit_named-suit_name suit.Yellow = refl
suit_named-suit_name suit.Green = refl
suit_named-suit_name suit.Blue = refl
suit_named-suit_name suit.Purple = refl
suit_named-suit_name suit.Teal = refl
suit_named-suit_name suit.Rainbow = refl
suit_named-suit_name suit.Pink = refl
suit_named-suit_name suit.White = refl
suit_named-suit_name suit.Brown = refl
suit_named-suit_name suit.Black = refl
suit_named-suit_name suit.Omni = refl
suit_named-suit_name suit.Null = refl
suit_named-suit_name suit.MuddyRainbow = refl
suit_named-suit_name suit.LightPink = refl
suit_named-suit_name suit.Prism = refl

suit_name-suit_named : (text : List ℕ) (s : Suit) → suit_named text ≡ Some s → suit_name s ≡ text
suit_name-suit_named text s is = (bytes_eq-Decides (suit_name s) text).0 (find-passes (λ t. bytes_eq (suit_name t) text) all_suits s is)

-- the names of suits, joined, are cut into these names
pieces-join : (s : Suit) (suits : List Suit) → pieces (join_with_byte plus (map suit_name (s ∷ suits))) ≡ map suit_name (s ∷ suits)
pieces-join s [] = slice_split_none (λ c. c == plus) (suit_name s) (no-plus s)
pieces-join s (t ∷ suits) =
    slice_split_at (λ c. c == plus) (suit_name s) plus (join_with_byte plus (map suit_name (t ∷ suits)))
    (no-plus s) refl
    ∙ ap (λ parts. suit_name s ∷ parts) (pieces-join t suits)

are_suits-names : (suits : List Suit) → are_suits (map suit_name suits) ≡ true
are_suits-names [] = refl
are_suits-names (s ∷ suits) = rw (suit_named-suit_name s, are_suits-names suits) refl

filter_map-names : (suits : List Suit) → filter_map suit_named (map suit_name suits) ≡ suits
filter_map-names [] = refl
filter_map-names (s ∷ suits) = rw (suit_named-suit_name s, filter_map-names suits) refl

-- the names of suits, joined, spell these suits
pub spelled-join : (suits : List Suit) → spelled (join_with_byte plus (map suit_name suits)) ≡ variant_with suits None
unfolding spelled
spelled-join [] = sym (variant_with-none [] None refl)
spelled-join (s ∷ suits) =
    let all : are_suits (pieces (join_with_byte plus (map suit_name (s ∷ suits)))) ≡ true =
    rw (pieces-join s suits) (are_suits-names (s ∷ suits)) in
    spelled-named (join_with_byte plus (map suit_name (s ∷ suits))) all
    ∙ ap (λ xs. variant_with xs None)
    (ap (filter_map suit_named) (pieces-join s suits) ∙ filter_map-names (s ∷ suits))

-- texts that are names of suits are their suits' names
names-filter_map : (parts : List (List ℕ)) → are_suits parts ≡ true → parts ≡ map suit_name (filter_map suit_named parts)
names-filter_map [] all = refl
names-filter_map (part ∷ parts) all =
    let each : (is_some (suit_named part) ≡ true) × (are_suits parts ≡ true) =
    and_parts (is_some (suit_named part)) (are_suits parts) all in
    pick (suit_named part) refl each.0 (names-filter_map parts each.1)
  where
    pick : (o : Option Suit) → suit_named part ≡ o → is_some (suit_named part) ≡ true
        → parts ≡ map suit_name (filter_map suit_named parts)
        → part ∷ parts ≡ map suit_name (filter_map suit_named (part ∷ parts))
    pick None is some rest = let none : is_some (suit_named part) ≡ false = rw is refl in cc
    pick (Some s) is some rest =
        rw is
        (ap (λ texts. part ∷ texts) rest
        ∙ ap (λ text. text ∷ map suit_name (filter_map suit_named parts))
        (sym (suit_name-suit_named part s is)))

-- what spells a variant is the names of its suits, joined
pub spelled-some : (text : List ℕ) (v : Variant) → spelled text ≡ Some v
    → (suits : List Suit) × (text ≡ join_with_byte plus (map suit_name suits))
    × (variant_with suits None ≡ Some v)
unfolding spelled
spelled-some text v is = pick (are_suits (pieces text)) refl
  where
    pick : (b : Bool) → are_suits (pieces text) ≡ b
        → (suits : List Suit) × (text ≡ join_with_byte plus (map suit_name suits))
        × (variant_with suits None ≡ Some v)
    pick true all = (
      filter_map suit_named (pieces text),
      sym (join_with_byte-slice_split plus text) ∙ ap (join_with_byte plus) (names-filter_map (pieces text) all),
      sym (spelled-named text all) ∙ is,
    )
    pick false all = let none : spelled text ≡ None = rw all refl in cc
