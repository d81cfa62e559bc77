-- A deck in another order is a deck.
use Rattle.std.proofs.Common.{List, cond}
use Rattle.std.specs.Prelude.{IsPermutation}
use Rattle.std.proofs.lemmas.List.Sorted.{sum_by-IsPermutation}
use Rattle.hb_rules.specs.declared.suits.Identity.{Identity}
use Rattle.hb_rules.specs.declared.variants.Variant.{Variant}
use Rattle.hb_rules.specs.Cards.{IsDeck, cards, copies, same_identity}

-- a permutation of the cards is a deck
pub IsDeck-shuffled : (v : Variant) (deck : List Identity) → IsPermutation (cards v) deck → IsDeck v deck
unfolding copies
IsDeck-shuffled v deck same = λ id. sum_by-IsPermutation (λ y. cond (same_identity id y) 1 0) (cards v) deck same
