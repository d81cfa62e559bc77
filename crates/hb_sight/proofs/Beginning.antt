-- Can a game have ended before its first act? No.
use Rattle.std.proofs.Common.{◌≡◌, ℕ, ◌<◌, ◌≤◌, Bool, true, false, cond, List, [], ◌∷◌, refl, ap, arith, ◌∙◌, Some, None, Option, zero, suc}
use Rattle.std.specs.Prelude.{is_some, is_none, filter_map, IsTrue}
use Rattle.std.specs.List.{range_with_len, list_all}
use Rattle.std.proofs.lemmas.List.Sums.{sum_by-cons}
use Rattle.hb_rules.specs.declared.suits.Suit.{Suit}
use Rattle.hb_rules.specs.declared.suits.Special.{Special}
use Rattle.hb_rules.specs.declared.setups.Setup.{Setup}
use Rattle.hb_rules.specs.Suits.{IsVariant, is_variant}
use Rattle.hb_rules.specs.Cards.{copies, suit_count, suit_at, rank_copies}
use Rattle.hb_rules.specs.Result.{ended, is_stuck}
use Rattle.hb_rules.proofs.Copies.{copies_is}

none-left : (rest : List (Option Suit)) → list_all is_none rest ≡ true → filter_map (λ (p : Option Suit). p) rest ≡ []
none-left [] h = refl
none-left (None ∷ rest) h = none-left rest h
none-left (Some s ∷ rest) h = cc

-- the first place of a variant holds a suit
first-suit : (places : List (Option Suit)) (special : Option Special) → IsVariant places special
    → (s : Suit) × (rest : List (Option Suit)) × (places ≡ Some s ∷ rest)
first-suit [] special h = cc
first-suit (Some s ∷ rest) special h = (s, rest, refl)
first-suit (None ∷ rest) special h = pick (list_all is_none rest) refl h
  where
    pick : (b : Bool) → list_all is_none rest ≡ b → IsTrue (is_variant (None ∷ rest) special)
        → (s : Suit) × (rest' : List (Option Suit)) × (None ∷ rest ≡ Some s ∷ rest')
    pick true e t = let n : filter_map (λ (p : Option Suit). p) rest ≡ [] = none-left rest e in let q = rw (e, n) at t in cc
    pick false e t = let q = rw e at t in cc

some-copies : (s : Suit) → 0 < rank_copies (Some s) 1
some-copies s = grind arith

start-stuck : (g : Setup) → (s : Suit) (rest : List (Option Suit)) → g.variant.suits ≡ Some s ∷ rest → is_stuck g [] 0 ≡ false
start-stuck g s rest e =
    let c : copies g.variant (record { suit = 0; rank = 1 }) ≡ rank_copies (suit_at g.variant 0) 1 = copies_is g.variant
    (record { suit = 0; rank = 1 }) in
    let d : suit_at g.variant 0 ≡ Some s = rw e refl in
    let k : copies g.variant (record { suit = 0; rank = 1 }) ≡ rank_copies (Some s) 1 = c ∙ ap (λ o. rank_copies o 1) d in
    let m : 0 < rank_copies (Some s) 1 = some-copies s in
    grind (arith, k, m)

all-false : (p : ℕ → Bool) (n : ℕ) → 0 < n → p 0 ≡ false → list_all p (range_with_len 0 n) ≡ false
all-false p zero low h = absurd (omega arith)
all-false p (suc n) low h = rw h refl

-- before the first act no game has ended
pub start-runs : (g : Setup) → 2 ≤ g.players → is_some (ended g []) ≡ false
unfolding ended
start-runs g two =
    let f : (s : Suit) × (rest : List (Option Suit)) × (g.variant.suits ≡ Some s ∷ rest) =
    first-suit g.variant.suits g.variant.special g.variant.valid in
    let n : 0 < suit_count g.variant = rw (f.2) (omega (arith, sum_by-cons (λ o. cond (is_some o) 1 0) (Some (f.0)) (f.1))) in
    let a : list_all (is_stuck g []) (range_with_len 0 (suit_count g.variant)) ≡ false = all-false (is_stuck g []) (suit_count g.variant) n
    (start-stuck g (f.0) (f.1) (f.2)) in
    grind (arith, a)
