-- What callers see of a game, and its fields: a fact about the one is a fact about the other.
use Rattle.std.proofs.Common.{◌↔◌, refl, false, ◌≡◌, ℕ, ◌<◌, List, length, None, Bool, true, subst, sym, arith, reverse, ◌+◌, ◌-◌, [], ◌∷◌, zero, suc, drop, ap, ◌∙◌}
use Rattle.std.specs.Prelude.{is_some, filter, slice_index, slice_index_or, All, ◌==◌}
use Rattle.std.proofs.Math.Seq.{drop-cons}
use Rattle.std.specs.List.{range_with_len}
use Rattle.std.proofs.lemmas.List.Elements.{All-filter, All-get_or, All-from_get_or}
use Rattle.std.proofs.lemmas.List.FromFn.{get_or-range_with_len, length-range_with_len}
use Rattle.hb_rules.specs.declared.acts.Clue.{Clue}
use Rattle.hb_rules.specs.Setup.{card}
use Rattle.hb_rules.specs.Touch.{touches}
use Rattle.hb_rules.specs.Hands.{holder, hand, is_at}
use Rattle.hb_rules.proofs.HandSize.{room-in-hand}
use Rattle.std.proofs.lemmas.List.{length-reverse, get_or-reverse, get_or_default}
use Rattle.hb_rules.specs.declared.acts.Act.{Act}
use Rattle.hb_rules.specs.declared.acts.Action.{Action}
use Rattle.hb_rules.specs.declared.setups.Setup.{Setup}
use Rattle.hb_rules.specs.Setup.{Position}
use Rattle.hb_rules.specs.Legality.{rule, Legal}
use Rattle.hb_turns.specs.GameInvariant.{IsFair}
use Rattle.hb_rules.specs.Cards.{number}
use Rattle.hb_sets.specs.Sets.{bit, Has}
use Rattle.hb_sets.proofs.Bits.{bit-lt}
use Rattle.hb_turns.specs.ClueMasks.{IsMask}
use Rattle.hb_turns.proofs.Fair.{held-below, mask-card}

-- a setup and the acts after it, as callers see them
abbrev pub position : Setup → List Act → Position
position g past = record { setup = g; past = past }

-- an act that breaks no rule of what callers see breaks none of the fields
pub may-inside : (g : Setup) (past : List Act) (p : Position) (who : ℕ) (a b : Action) → position g past ≡ p
    → rule p.setup p.past (record { who = who; action = a }) ≡ None → a ≡ b
    → rule g past (record { who = who; action = b }) ≡ None
may-inside g past p who a b e h is =
    let Q : Position → Type 0 = λ q. rule q.setup q.past (record { who = who; action = a }) ≡ None in
    let here : rule g past (record { who = who; action = a }) ≡ None = subst Q (sym e) h in
    rw is at here

-- there is room in a hand for an order that callers see in it
pub room-at : (g : Setup) (past : List Act) (p : Position) → position g past ≡ p → IsFair g → Legal g past
    → (seat k : ℕ) → k < length g.deck.items → is_at (holder p.setup p.past k) seat ≡ true
    → length (filter (λ order. is_at (holder p.setup p.past order) seat) (range_with_len 0 k)) < 6
room-at g past p e fair legal seat k low =
    let Q : Position → Type 0 = λ q. is_at (holder q.setup q.past k) seat ≡ true
    → length (filter (λ order. is_at (holder q.setup q.past order) seat) (range_with_len 0 k)) < 6 in
    subst Q e (room-in-hand g past fair.dealt legal seat k low)

-- a legal history without its newest acts is one
legal-drop : (g : Setup) (past : List Act) (m : ℕ) → Legal g past → Legal g (drop m past)
legal-drop g past zero legal = legal
legal-drop g [] (suc m) legal = legal
legal-drop g (act ∷ past) (suc m) legal = legal-drop g past m legal.1

-- the act at a place of a legal history may come after those before it
next-at : (g : Setup) (past : List Act) (m : ℕ) (d : Act) → m < length past → Legal g past
    → (rule g (drop (suc m) past) (slice_index_or past m d) ≡ None)
    × (drop m past ≡ slice_index_or past m d ∷ drop (suc m) past)
next-at g past m d low legal =
    let e : drop m past ≡ slice_index_or past m d ∷ drop (suc m) past = drop-cons past m d low in
    let l : Legal g (drop m past) = legal-drop g past m legal in
    let l' : Legal g (slice_index_or past m d ∷ drop (suc m) past) = rw e at l in (l'.0, e)

-- the same by the acts as the fields have them, the oldest first
next-inside : (g : Setup) (items : List Act) (i : ℕ) (act : Act) → i < length items
    → act ≡ slice_index_or items i act → Legal g (reverse items)
    → (rule g (drop (length (reverse items) - i) (reverse items)) act ≡ None)
    × (act ∷ drop (length (reverse items) - i) (reverse items)
    ≡ drop (length (reverse items) - (i + 1)) (reverse items))
next-inside g items i act low here legal =
    let long : length (reverse items) ≡ length items = length-reverse items in
    let m : ℕ = length items - (i + 1) in
    let m-low : length items - (i + 1) < length (reverse items) = omega arith in
    let back : length items - 1 - (length items - (i + 1)) ≡ i = omega arith in
    let rest : length (reverse items) - i ≡ suc (length items - (i + 1)) = omega arith in
    let rest_after : length (reverse items) - (i + 1) ≡ length items - (i + 1) = omega arith in
    let at : slice_index_or (reverse items) (length items - (i + 1)) act
    ≡ slice_index_or items (length items - 1 - (length items - (i + 1))) act =
    get_or-reverse items (length items - (i + 1)) act (omega arith) in
    let at' : slice_index_or (reverse items) (length items - (i + 1)) act ≡ act =
    at ∙ (ap (λ k. slice_index_or items k act) back ∙ sym here) in
    let n : (rule g (drop (suc (length items - (i + 1))) (reverse items))
    (slice_index_or (reverse items) (length items - (i + 1)) act)
    ≡ None)
    × (drop (length items - (i + 1)) (reverse items)
    ≡ slice_index_or (reverse items) (length items - (i + 1)) act
    ∷ drop (suc (length items - (i + 1))) (reverse items)) =
    next-at g (reverse items) (length items - (i + 1)) act m-low legal in
    rw (rest, rest_after) (rw at' at n.0, sym (rw at' at n.1))

-- the act at a place, as callers see it
pub act-inside : (g : Setup) (items : List Act) (p : Position) (i : ℕ) (d : Act)
    → position g (reverse items) ≡ p → i < length p.past → Legal g (reverse items)
    → (rule p.setup (drop (length p.past - i) p.past) (slice_index_or items i d) ≡ None)
    × (drop (length p.past - (i + 1)) p.past ≡ slice_index_or items i d ∷ drop (length p.past - i) p.past)
act-inside g items p i d e low legal =
    let long : length (reverse items) ≡ length p.past = ap (λ (q : Position). length q.past) e in
    let low' : i < length items = omega (arith, length-reverse items) in
    let n : (rule g (drop (length (reverse items) - i) (reverse items)) (slice_index_or items i d) ≡ None)
    × (slice_index_or items i d ∷ drop (length (reverse items) - i) (reverse items)
    ≡ drop (length (reverse items) - (i + 1)) (reverse items)) =
    next-inside g items i (slice_index_or items i d) low' (get_or_default items i d (slice_index_or items i d) low') legal in
    let P : Position
    → Type 0 =
    λ z. (rule z.setup (drop (length z.past - i) z.past) (slice_index_or items i d) ≡ None)
    × (drop (length z.past - (i + 1)) z.past ≡ slice_index_or items i d ∷ drop (length z.past - i) z.past) in
    subst P e (n.0, sym n.1)

-- an order that callers see in a hand is one of the deck's
pub held-low : (g : Setup) (past : List Act) (p : Position) (order : ℕ) → position g past ≡ p → IsFair g
    → is_some (holder p.setup p.past order) ≡ true → order < length g.deck.items
held-low g past p order e fair held =
    let P : Position → Type 0 = λ q. is_some (holder q.setup q.past order) ≡ true in
    held-below g past order fair (subst P (sym e) held)

-- the orders in a hand are below the number of cards
range-low : (n : ℕ) → All (λ k. k < n) (range_with_len 0 n)
range-low n =
    All-from_get_or (λ k. k < n) (range_with_len 0 n) 0
    (λ i low. let below : i < n = omega (arith, low, length-range_with_len 0 n) in
    rw (get_or-range_with_len 0 n i 0 below) (omega (arith, below)))

-- what callers see of a hand, and of the set that a clue touches, is so of the fields
pub hand-inside : (g : Setup) (past : List Act) (p : Position) (seat : ℕ) (held : List ℕ) → position g past ≡ p
    → held ≡ hand p.setup p.past seat → held ≡ hand g past seat
hand-inside g past p seat held e is = let P : Position → Type 0 = λ q. held ≡ hand q.setup q.past seat in subst P (sym e) is

-- the set that a clue touches, by the fields
pub mask-inside : (g : Setup) (past : List Act) (p : Position) (clue : Clue) (set : ℕ) → position g past ≡ p
    → IsMask p.setup.variant clue set → IsMask g.variant clue set
mask-inside g past p clue set e is = let P : Position → Type 0 = λ q. IsMask q.setup.variant clue set in subst P (sym e) is

-- the orders of a hand are those of cards of the deck
pub in-hand : (g : Setup) (past : List Act) (p : Position) (seat : ℕ) (held : List ℕ) (i : ℕ)
    → position g past ≡ p → held ≡ hand p.setup p.past seat → i < length held
    → slice_index held i < length g.deck.items
in-hand g past p seat held i e is low =
    let here : held ≡ hand g past seat = hand-inside g past p seat held e is in
    let all : All (λ k. k < length g.deck.items) held =
    rw here
    (All-filter (λ order. is_at (holder g past order) seat) (λ k. k < length g.deck.items)
    (range_with_len 0 (length g.deck.items)) (range-low (length g.deck.items))) in
    All-get_or (λ k. k < length g.deck.items) held i 0 low all

-- a test that says of a bit whether it is set
pub iff-test : (b : Bool) (x : ℕ) → ((b ≡ true) ↔ (x ≡ 1)) → x < 2 → (x == 1) ≡ b
iff-test true x h low = grind (arith, h.0 refl)
iff-test false x h low = grind (arith, h.1)

-- whether a clue touches a card, as callers see it
pub touches-inside : (g : Setup) (past : List Act) (p : Position) (clue : Clue) (mask k : ℕ) (b : Bool)
    → position g past ≡ p → IsFair g → IsMask p.setup.variant clue mask
    → k < length g.deck.items → ((b ≡ true) ↔ Has mask (number (card g k))) → touches p.setup.variant clue (card p.setup k) ≡ b
touches-inside g past p clue mask k b e fair is low test =
    let M : Position → Type 0 = λ q. IsMask q.setup.variant clue mask in
    let P : Position → Type 0 = λ q. touches q.setup.variant clue (card q.setup k) ≡ b in
    subst P e
    (sym (mask-card g clue mask k fair (subst M (sym e) is) low)
    ∙ iff-test b (bit mask (number (card g k))) test (bit-lt mask (number (card g k))))
