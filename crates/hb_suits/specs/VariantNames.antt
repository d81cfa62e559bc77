-- Which variant has which name? There are 36 that are listed, and those that are spelled by their
-- suits. The listed names are Hanabi Live's; which are listed, and what each stands for, is this
-- project's own.
use Rattle.std.specs.Prelude.{◌≡◌, ℕ, Bool, false, List, [], ◌∷◌, ◌++◌, ◌==◌, Option, Some, None, codes, map, take, drop, find, filter_map, is_some, option_and_then, if◌then◌else◌}
use Rattle.std.specs.List.{list_all, list_any, slice_split, join_with_byte}
use Rattle.std.specs.Str.{bytes_eq}
use Rattle.hb_rules.specs.declared.suits.Suit.{Suit}
use Rattle.hb_rules.specs.declared.suits.Suit.TheVariants as suit
use Rattle.hb_rules.specs.declared.suits.Special.{Special}
use Rattle.hb_rules.specs.declared.variants.Variant.{Variant}
use Rattle.hb_rules.specs.Suits.{kind_of}
use Rattle.hb_suits.specs.Variants.{variant_with}

-- the name of a suit
abbrev pub suit_name : Suit → List ℕ
suit_name suit.Red = codes "Red"
suit_name suit.Yellow = codes "Yellow"
suit_name suit.Green = codes "Green"
suit_name suit.Blue = codes "Blue"
suit_name suit.Purple = codes "Purple"
suit_name suit.Teal = codes "Teal"
suit_name suit.Rainbow = codes "Rainbow"
suit_name suit.Pink = codes "Pink"
suit_name suit.White = codes "White"
suit_name suit.Brown = codes "Brown"
suit_name suit.Black = codes "Black"
suit_name suit.Omni = codes "Omni"
suit_name suit.Null = codes "Null"
suit_name suit.MuddyRainbow = codes "Muddy Rainbow"
suit_name suit.LightPink = codes "Light Pink"
suit_name suit.Prism = codes "Prism"

-- the plain suits, in the order in which listed variants take them
abbrev pub plain_suits : List Suit
plain_suits = suit.Red ∷ suit.Yellow ∷ suit.Green ∷ suit.Blue ∷ suit.Purple ∷ suit.Teal ∷ []

-- the suits that stand behind four or five plain ones in a listed variant
abbrev pub last_suits : List Suit
last_suits =
    suit.Rainbow ∷ suit.Pink ∷ suit.White ∷ suit.Brown ∷ suit.Black
    ∷ suit.Omni ∷ suit.Null ∷ suit.MuddyRainbow ∷ suit.LightPink ∷ suit.Prism ∷ []

-- the suits whose kind a special rank takes in a listed variant
abbrev pub special_suits : List Suit
special_suits = suit.Rainbow ∷ suit.White ∷ suit.Pink ∷ suit.Brown ∷ suit.Omni ∷ suit.Null ∷ []

-- all suits
abbrev pub all_suits : List Suit
all_suits = plain_suits ++ last_suits

-- a name with its suits in order and its special rank
pub record Entry : Type 0 where
  pub name : List ℕ
  pub suits : List Suit
  pub special : Option Special

-- plain suits alone
abbrev pub plain : List ℕ → ℕ → Entry
plain name count = record { name = name; suits = take count plain_suits; special = None }

-- plain suits and another one behind them
abbrev pub with_last : ℕ → List ℕ → Suit → Entry
with_last count ending s = record {
  name = suit_name s ++ ending;
  suits = take count plain_suits ++ s ∷ [];
  special = None;
}

-- five plain suits and a special rank of a suit's kind
abbrev pub with_special : ℕ → List ℕ → Suit → Entry
with_special rank ending s = record {
  name = suit_name s ++ ending;
  suits = take 5 plain_suits;
  special = Some (record { rank = rank; kind = kind_of s });
}

-- the listed names of plain suits alone
abbrev pub plain_table : List Entry
plain_table =
    plain (codes "3 Suits") 3 ∷ plain (codes "4 Suits") 4 ∷ plain (codes "No Variant") 5
    ∷ plain (codes "6 Suits") 6 ∷ []

-- the listed names
unfoldable pub table : List Entry
table = plain_table
    ++ map (with_last 4 (codes " (5 Suits)")) last_suits
    ++ map (with_last 5 (codes " (6 Suits)")) last_suits
    ++ map (with_special 1 (codes "-Ones (5 Suits)")) special_suits
    ++ map (with_special 5 (codes "-Fives (5 Suits)")) special_suits

-- the name is in the list
abbrev pub is_listed : List ℕ → Bool
is_listed name = list_any (λ entry. bytes_eq entry.name name) table

-- the variant of a listed name
unfoldable pub listed : List ℕ → Option Variant
listed name = option_and_then (λ entry. variant_with entry.suits entry.special)
    (find (λ entry. bytes_eq entry.name name) table)

-- the codes of `=` and `+`
abbrev pub equals : ℕ
equals = 61

abbrev pub plus : ℕ
plus = 43

-- the name that is spelled by these suits
abbrev pub spelling : List Suit → List ℕ
spelling suits = equals ∷ join_with_byte plus (map suit_name suits)

-- the name is spelled by suits that make this variant
abbrev pub Spells : List ℕ → Variant → Type 0
Spells name v = (suits : List Suit) × (name ≡ spelling suits) × (variant_with suits None ≡ Some v)

-- the suit with a name
abbrev pub suit_named : List ℕ → Option Suit
suit_named name = find (λ s. bytes_eq (suit_name s) name) all_suits

-- the parts of a text round each `+`
abbrev pub pieces : List ℕ → List (List ℕ)
pieces text = slice_split (λ c. c == plus) text

-- each of the parts is the name of a suit
abbrev pub are_suits : List (List ℕ) → Bool
are_suits parts = list_all (λ part. is_some (suit_named part)) parts

-- the variant of the suits that a text names, joined by `+`
unfoldable pub spelled : List ℕ → Option Variant
spelled text =
    if are_suits (pieces text)
    then variant_with (filter_map suit_named (pieces text)) None else None

-- the name begins with `=`
abbrev pub is_spelling : List ℕ → Bool
is_spelling [] = false
is_spelling (c ∷ text) = c == equals

-- the variant with a name: that which is spelled behind a first `=`, else that which is listed
unfoldable pub variant_of : List ℕ → Option Variant
variant_of name = if is_spelling name then spelled (drop 1 name) else listed name
