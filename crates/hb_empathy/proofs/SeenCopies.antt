-- How many copies does a blind set see, and how many cards are hidden from it? It sees those that are gone, and those in hands
-- outside it.
use Rattle.std.proofs.Common.{◌≡◌, ℕ, ◌+◌, ◌-◌, ◌<◌, ◌≤◌, Bool, true, false, cond, List, [], ◌∷◌, ◌++◌, refl, arith, ◌∙◌, length, zero, suc, None, Option}
use Rattle.std.specs.Prelude.{◌==◌, ◌&&◌, ◌||◌, not, nat_lt, nat_le, is_some, filter, count_by, if◌then◌else◌}
use Rattle.std.specs.List.{range_with_len}
use Rattle.std.proofs.lemmas.List.Sums.{sum_by-append}
use Rattle.std.proofs.lemmas.List.{length-append}
use Rattle.hb_rules.specs.declared.acts.Act.{Act}
use Rattle.hb_rules.specs.declared.acts.Action.{Action}
use Rattle.hb_rules.specs.declared.acts.Action.TheVariants as action
use Rattle.hb_rules.specs.declared.setups.Setup.{Setup}
use Rattle.hb_rules.specs.declared.suits.Identity.{Identity}
use Rattle.hb_rules.specs.Cards.{IsDeck, copies, same_identity}
use Rattle.hb_rules.specs.Setup.{card, deal_size}
use Rattle.hb_rules.specs.Hands.{removed, drawn_count, receiver, holder, is_at, is_gone}
use Rattle.hb_rules.specs.Legality.{Legal, rule}
use Rattle.hb_rules.specs.Marks.{is_hidden, hides_from, hidden, seen, gone_copies}
use Rattle.hb_rules.proofs.HandsLemmas.{holder-past}
use Rattle.hb_rules.proofs.RangesLemmas.{filter-range_more}
use Rattle.hb_rules.proofs.Rules.{may_play, may_discard}
use Rattle.hb_rules.proofs.Undrawn.{held-drawn, receiver-drawn}
use Rattle.hb_empathy.specs.Unseen.{is_shown, shown_copies}
use Rattle.hb_empathy.proofs.Choices.{own-choice}
use Rattle.hb_rules.proofs.HandSize.{count_by-cons}

abbrev one : Bool → ℕ
one b = cond b 1 0

-- if each number that passes a test passes one of two others, never both, they count together what it counts
count-split : (p r s t : ℕ → Bool) (a n : ℕ) → ((k : ℕ) → a ≤ k → k < a + n → one (r k) ≡ one (s k) + one (t k))
    → count_by p (filter r (range_with_len a n)) ≡ count_by p (filter s (range_with_len a n)) + count_by p (filter t (range_with_len a n))
count-split p r s t a zero e = refl
count-split p r s t a (suc n) e =
    pick (r a) (s a) (t a) refl refl refl (e a (omega arith) (omega arith))
    (count-split p r s t (a + 1) n (λ k low high. e k (omega arith) (omega arith)))
  where
    rest : (ℕ → Bool) → List ℕ
    rest q = filter q (range_with_len (a + 1) n)

    pick : (x y z : Bool) → r a ≡ x → s a ≡ y → t a ≡ z → one x ≡ one y + one z
        → count_by p (rest r) ≡ count_by p (rest s) + count_by p (rest t)
        → count_by p (cond x (a ∷ rest r) (rest r)) ≡ count_by p (cond y (a ∷ rest s) (rest s)) + count_by p (cond z (a ∷ rest t) (rest t))
    pick true true true f g h e ih = absurd (omega arith)
    pick true true false f g h e ih = omega (arith, ih, count_by-cons p a (rest r), count_by-cons p a (rest s))
    pick true false true f g h e ih = omega (arith, ih, count_by-cons p a (rest r), count_by-cons p a (rest t))
    pick true false false f g h e ih = absurd (omega arith)
    pick false true true f g h e ih = absurd (omega arith)
    pick false true false f g h e ih = absurd (omega arith)
    pick false false true f g h e ih = absurd (omega arith)
    pick false false false f g h e ih = ih

-- one number counts once
count-one : (p : ℕ → Bool) (order a n : ℕ)
    → count_by p (filter (λ k. order == k) (range_with_len a n)) ≡ (if nat_le a order && nat_lt order (a + n) then one (p order) else 0)
count-one p order a zero = grind arith
count-one p order a (suc n) = pick (order == a) refl (count-one p order (a + 1) n)
  where
    rest : List ℕ
    rest = filter (λ k. order == k) (range_with_len (a + 1) n)

    pick : (b : Bool) → (order == a) ≡ b → count_by p rest ≡ (if nat_le (a + 1) order && nat_lt order (a + 1 + n) then one (p order) else 0)
        → count_by p (cond b (a ∷ rest) rest) ≡ (if nat_le a order && nat_lt order (a + suc n) then one (p order) else 0)
    pick true e ih = let s : order ≡ a = grind arith in grind (arith, count_by-cons p a rest)
    pick false e ih = grind arith

none-gone : (p : ℕ → Bool) (a n : ℕ) → count_by p (filter (λ (k : ℕ). false) (range_with_len a n)) ≡ 0
none-gone p a zero = refl
none-gone p a (suc n) = none-gone p (a + 1) n

held-gone : (g : Setup) (past : List Act) (who order : ℕ) → is_at (holder g past order) who ≡ true → is_gone past order ≡ false
held-gone g past who order held = grind arith

held-below : (g : Setup) (past : List Act) (who order : ℕ) → deal_size g ≤ length g.deck.items → is_at (holder g past order) who ≡ true
    → order < drawn_count g past
held-below g past who order dealt held =
    let there : length g.deck.items ≤ order → holder g past order ≡ None = holder-past g past order dealt in
    let low : order < deal_size g + length (removed past) = held-drawn g past who order held in
    grind (arith, there)

one-more : (order k : ℕ) (b : Bool) → ((order == k) ≡ true → b ≡ false) → one (order == k || b) ≡ one (order == k) + one b
one-more order k b h = grind arith

-- each order that was played or discarded was so once
count-gone : (g : Setup) (past : List Act) → deal_size g ≤ length g.deck.items → Legal g past → (p : ℕ → Bool) (n : ℕ)
    → drawn_count g past ≤ n
    → count_by p (filter (is_gone past) (range_with_len 0 n)) ≡ count_by p (removed past)
count-gone g [] dealt legal p n far = none-gone p 0 n
count-gone g (act ∷ past) dealt legal p n far = step act.action legal.0 far (count-gone g past dealt legal.1 p n)
  where
    before : Type 0
    before = drawn_count g past ≤ n → count_by p (filter (is_gone past) (range_with_len 0 n)) ≡ count_by p (removed past)

    moved : (order : ℕ) → is_at (holder g past order) act.who ≡ true → drawn_count g past ≤ n → before
        → count_by p (filter (λ k. order == k || is_gone past k) (range_with_len 0 n)) ≡ count_by p (order ∷ removed past)
    moved order held wide ih =
        let fresh : is_gone past order ≡ false = held-gone g past act.who order held in
        let below : order < drawn_count g past = held-below g past act.who order dealt held in
        let parts : count_by p (filter (λ k. order == k || is_gone past k) (range_with_len 0 n))
        ≡ count_by p (filter (λ k. order == k) (range_with_len 0 n)) + count_by p (filter (is_gone past) (range_with_len 0 n)) =
        count-split p (λ k. order == k || is_gone past k) (λ k. order == k) (is_gone past) 0 n
        (λ k low high. one-more order k (is_gone past k) (λ same. let e : order ≡ k = grind arith in rw (← e) fresh)) in
        let here : count_by p (filter (λ k. order == k) (range_with_len 0 n)) ≡ one (p order) = count-one p order 0 n ∙ (grind arith) in
        omega (arith, parts, here, ih wide, count_by-cons p order (removed past))

    step : (a : Action) → rule g past (record { who = act.who; action = a }) ≡ None
        → drawn_count g (record { who = act.who; action = a } ∷ past) ≤ n → before
        → count_by p (filter (is_gone (record { who = act.who; action = a } ∷ past)) (range_with_len 0 n)) ≡ count_by p
        (removed (record { who = act.who; action = a } ∷ past))
    step (action.Play order) may wide ih = moved order (may_play g past act.who order may).held (omega arith) ih
    step (action.Discard order) may wide ih = moved order (may_discard g past act.who order may).held (omega arith) ih
    step (action.Clue to clue) may wide ih = ih wide
    step (action.End how) may wide ih = ih wide

seen-one : (blind : ℕ) (gone : Bool) (r : Option ℕ) → is_some r ≡ true
    → let h : Option ℕ = if gone then None else r in one (not (hides_from blind h)) ≡ one gone + one (is_some h && not (hides_from blind h))
seen-one blind true r some = refl
seen-one blind false r some = grind arith

-- the orders in hands outside the blind set
abbrev pub shown : ℕ → Setup → List Act → List ℕ
shown blind g past = filter (is_shown blind g past) (range_with_len 0 (drawn_count g past))

-- the orders that are seen are gone or in a hand outside the blind set
pub count-seen : (blind : ℕ) (g : Setup) (past : List Act) → deal_size g ≤ length g.deck.items → Legal g past → (p : ℕ → Bool)
    → count_by p (seen blind g past) ≡ count_by p (removed past) + count_by p (shown blind g past)
count-seen blind g past dealt legal p =
    let n : ℕ = drawn_count g past in
    let parts : count_by p (seen blind g past) ≡ count_by p (filter (is_gone past) (range_with_len 0 n)) + count_by p (shown blind g past) =
    count-split p (λ k. not (is_hidden blind g past k)) (is_gone past) (is_shown blind g past) 0 n
    (λ k low high. seen-one blind (is_gone past k) (receiver g past k) (receiver-drawn g past k (omega arith) (omega arith))) in
    omega (arith, parts, count-gone g past dealt legal p n (omega arith))

-- so of no identity more copies are seen than there are
pub seen-few : (blind : ℕ) (g : Setup) (past : List Act) → IsDeck g.variant g.deck.items → deal_size g ≤ length g.deck.items → Legal g past
    → (id : Identity) → gone_copies g past id + shown_copies blind g past id ≤ copies g.variant id
seen-few blind g past full dealt legal id =
    omega (arith, count-seen blind g past dealt legal (λ order. same_identity id (card g order)), (own-choice blind g past full).few id)

-- what is kept below a number is no more than what is kept below a larger one
pub count-below : (p r : ℕ → Bool) (k d : ℕ) → count_by p (filter r (range_with_len 0 k)) ≤ count_by p (filter r (range_with_len 0 (k + d)))
count-below p r k zero = let e : k + 0 ≡ k = omega arith in rw e (omega arith)
count-below p r k (suc d) =
    let e : k + suc d ≡ k + d + 1 = omega arith in
    let ih : count_by p (filter r (range_with_len 0 k)) ≤ count_by p (filter r (range_with_len 0 (k + d))) = count-below p r k d in
    rw (e, filter-range_more r (k + d)) (omega
    (arith, ih, sum_by-append (λ y. one (p y)) (filter r (range_with_len 0 (k + d))) (if r (k + d) then (k + d) ∷ [] else [])))

-- tests that no number passes both keep no more numbers than there are
kept-apart : (s t : ℕ → Bool) (a n : ℕ) → ((k : ℕ) → s k ≡ true → t k ≡ false)
    → length (filter s (range_with_len a n)) + length (filter t (range_with_len a n)) ≤ n
kept-apart s t a zero apart = omega arith
kept-apart s t a (suc n) apart = pick (s a) (t a) refl refl (kept-apart s t (a + 1) n apart)
  where
    rest : (ℕ → Bool) → List ℕ
    rest q = filter q (range_with_len (a + 1) n)

    pick : (x y : Bool) → s a ≡ x → t a ≡ y → length (rest s) + length (rest t) ≤ n
        → length (cond x (a ∷ rest s) (rest s)) + length (cond y (a ∷ rest t) (rest t)) ≤ suc n
    pick true true f h ih = let e : t a ≡ false = apart a f in cc
    pick true false f h ih = omega arith
    pick false true f h ih = omega arith
    pick false false f h ih = omega arith

count-all : (xs : List ℕ) → count_by (λ (k : ℕ). true) xs ≡ length xs
count-all [] = refl
count-all (x ∷ xs) = count_by-cons (λ k. true) x xs ∙ (let ih : count_by (λ (k : ℕ). true) xs ≡ length xs = count-all xs in omega arith)

hidden-gone : (blind : ℕ) (g : Setup) (past : List Act) (k : ℕ) → is_hidden blind g past k ≡ true → is_gone past k ≡ false
hidden-gone blind g past k hid = pick (is_gone past k) refl hid
  where
    pick : (b : Bool) → is_gone past k ≡ b → hides_from blind (if b then None else receiver g past k) ≡ true → is_gone past k ≡ false
    pick true e h = cc
    pick false e h = e

-- no more cards are hidden than were dealt
pub hidden-few : (blind : ℕ) (g : Setup) (past : List Act) → deal_size g ≤ length g.deck.items → Legal g past
    → length (hidden blind g past) ≤ deal_size g
hidden-few blind g past dealt legal =
    let n : ℕ = drawn_count g past in
    let gone : count_by (λ (k : ℕ). true) (filter (is_gone past) (range_with_len 0 n)) ≡ count_by (λ (k : ℕ). true) (removed past) =
    count-gone g past dealt legal (λ k. true) n (omega arith) in
    omega (
      arith,
      gone,
      count-all (filter (is_gone past) (range_with_len 0 n)),
      count-all (removed past),
      kept-apart (is_hidden blind g past) (is_gone past) 0 n (λ k h. hidden-gone blind g past k h),
    )

-- so there is room for one more of them
pub hidden-room : (blind : ℕ) (g : Setup) (past : List Act) → deal_size g ≤ length g.deck.items → Legal g past → (k : ℕ)
    → k < drawn_count g past → is_hidden blind g past k ≡ true
    → length (filter (is_hidden blind g past) (range_with_len 0 k)) < deal_size g
hidden-room blind g past dealt legal k low hid =
    let r : ℕ → Bool = is_hidden blind g past in
    let all : (n : ℕ) → count_by (λ (x : ℕ). true) (filter r (range_with_len 0 n)) ≡ length (filter r (range_with_len 0 n)) = λ n. count-all
    (filter r (range_with_len 0 n)) in
    let e : k + 1 + (drawn_count g past - (k + 1)) ≡ drawn_count g past = omega arith in
    let more : count_by (λ (x : ℕ). true) (filter r (range_with_len 0 (k + 1))) ≤ count_by (λ (x : ℕ). true)
    (filter r (range_with_len 0 (drawn_count g past))) =
    rw e at (count-below (λ x. true) r (k + 1) (drawn_count g past - (k + 1))) in
    let last : filter r (range_with_len 0 (k + 1)) ≡ filter r (range_with_len 0 k) ++ k ∷ [] = filter-range_more r k ∙ rw hid refl in
    let long : length (filter r (range_with_len 0 (k + 1))) ≡ length (filter r (range_with_len 0 k)) + 1 = rw last
    (simp length-append (omega arith)) in
    omega (arith, hidden-few blind g past dealt legal, more, long, all (k + 1), all (drawn_count g past))
