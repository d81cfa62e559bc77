-- Which variant does a list of suits make?
use Rattle.std.specs.Prelude.{◌≡◌, ◌-◌, Bool, true, false, List, ◌++◌, Option, Some, None, map, replicate, length, refl}
use Rattle.hb_rules.specs.declared.limits.TheConstants.{MOST_SUITS}
use Rattle.hb_rules.specs.declared.suits.Suit.{Suit}
use Rattle.hb_rules.specs.declared.suits.Special.{Special}
use Rattle.hb_rules.specs.declared.variants.Variant.{Variant}
use Rattle.hb_rules.specs.Suits.{is_variant}

-- the suits in the first of a variant's places; the places behind them are empty
abbrev pub placed : List Suit → List (Option Suit)
placed suits = map (λ suit. Some suit) suits ++ replicate (MOST_SUITS - length suits) None

-- the variant with these places, by the answer of the test
abbrev pub tested : (places : List (Option Suit)) (special : Option Special) (answer : Bool)
    → is_variant places special ≡ answer → Option Variant
tested places special true is = Some (record { suits = places; special = special; valid = is })
tested places special false is = None

-- the variant of these suits in order with this special rank, if they are a variant
unfoldable pub variant_with : List Suit → Option Special → Option Variant
variant_with suits special = tested (placed suits) special (is_variant (placed suits) special) refl
