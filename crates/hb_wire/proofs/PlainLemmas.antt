-- Identities are spelled with bytes that JSON writes as they are.
use Rattle.std.proofs.Common.{◌≡◌, ◌∙◌, ℕ, ◌+◌, ◌<◌, ◌≤◌, Bool, true, false, List, [], ◌∷◌, ◌++◌, refl, ap₂, arith}
use Rattle.std.specs.Prelude.{codes, if◌then◌else◌}
use Rattle.json.specs.Print.{escape, escape_byte}
use Rattle.json.proofs.Printed.Strings.{escape_byte_plain}
use Rattle.std.proofs.lemmas.Grind.{flat_map-append}
use Rattle.hb_rules.specs.declared.suits.Identity.{Identity}
use Rattle.hb_rules.specs.Cards.{in_range}
use Rattle.hb_wire.specs.Lines.{identities_text, identity_text}

in_range-bounds : (id : Identity) → in_range id ≡ true → (id.suit < 6) × (1 ≤ id.rank) × (id.rank < 6)
in_range-bounds id is = (grind arith, grind arith, grind arith)

plain-pair : (id : Identity) → (id.suit < 6) × (1 ≤ id.rank) × (id.rank < 6)
    → escape ((97 + id.suit) ∷ (48 + id.rank) ∷ []) ≡ (97 + id.suit) ∷ (48 + id.rank) ∷ []
plain-pair id bounds =
    let suit : id.suit < 6 = bounds.0 in
    let rank : id.rank < 6 = bounds.2 in
    rw (
      escape_byte_plain (97 + id.suit) (λ e. omega arith) (λ e. omega arith) (omega arith),
      escape_byte_plain (48 + id.rank) (λ e. omega arith) (λ e. omega arith) (omega arith),
    ) refl

plain-unknown : escape (codes "?") ≡ codes "?"
unfolding escape_byte
plain-unknown = refl

-- an identity is written as it is
pub plain_identity : (id : Identity) → escape (identity_text id) ≡ identity_text id
plain_identity id = by_range (in_range id) refl
  where
    by_range : (b : Bool) → in_range id ≡ b
        → escape (if b then (97 + id.suit) ∷ (48 + id.rank) ∷ [] else codes "?")
        ≡ (if b then (97 + id.suit) ∷ (48 + id.rank) ∷ [] else codes "?")
    by_range true is = plain-pair id (in_range-bounds id is)
    by_range false is = plain-unknown

-- identities one after the other are written as they are
pub plain_identities : (ids : List Identity) → escape (identities_text ids) ≡ identities_text ids
plain_identities [] = refl
plain_identities (id ∷ ids) =
    flat_map-append escape_byte (identity_text id) (identities_text ids)
    ∙ ap₂ (λ (a b : List ℕ). a ++ b) (plain_identity id) (plain_identities ids)
