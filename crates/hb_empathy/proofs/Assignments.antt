-- Which assignments meet what a matching is asked for? The choices for the hidden cards.
use Rattle.std.proofs.Common.{◌≡◌, ℕ, ◌+◌, ◌%◌, ◌<◌, ◌≤◌, ◌↔◌, ◌⊎◌, inl, inr, Bool, true, false, cond, List, [], ◌∷◌, refl, ap, arith, sym, ◌∙◌, length, subst}
use Rattle.std.specs.Prelude.{◌==◌, ◌&&◌, nat_lt, nat_le, map, count_by, slice_index}
use Rattle.std.proofs.lemmas.Bool.{cases_lt}
use Rattle.std.proofs.lemmas.List.{get_or_past, get_or-map, length-map}
use Rattle.std.proofs.lemmas.List.Sums.{sum_by-cons, get_or-le-sum_by}
use Rattle.hb_rules.specs.declared.acts.Act.{Act}
use Rattle.hb_rules.specs.declared.setups.Setup.{Setup}
use Rattle.hb_rules.specs.declared.suits.Identity.{Identity}
use Rattle.hb_rules.specs.Cards.{copies, identity, number, same_identity, has_number}
use Rattle.hb_rules.specs.Setup.{card, deal_size}
use Rattle.hb_rules.specs.Hands.{drawn_count}
use Rattle.hb_rules.specs.Deals.{IsPossible}
use Rattle.hb_rules.specs.Marks.{IsChoice, is_hidden, hidden, seen, meets, is_marked}
use Rattle.hb_rules.proofs.Identities.{same_identity-refl}
use Rattle.hb_rules.proofs.NumbersLemmas.{copies-none, copies-in_range, identity-number, number-identity, same-number}
use Rattle.hb_sets.specs.Sets.{bit, Has}
use Rattle.hb_match.specs.Matching.{IsAssignment, Possible, uses}
use Rattle.hb_empathy.specs.Unseen.{AreMarks, AreUnseen}
use Rattle.hb_empathy.proofs.CardCounts.{count-within}
use Rattle.hb_empathy.proofs.MeetsLemmas.{hidden-drawn}
use Rattle.hb_empathy.proofs.Choices.{Runs, seen_after, possible-choice, choice-possible, own-choice}
use Rattle.hb_empathy.proofs.OrderPlaces.{place, AtPlace, at_place, Passes, filter-at, count-given}
use Rattle.hb_empathy.proofs.SeenCopies.{count-seen}

-- a hidden order has a place among the hidden orders
pub hidden-place : (blind : ℕ) (g : Setup) (past : List Act) (order : ℕ) → deal_size g ≤ length g.deck.items
    → is_hidden blind g past order ≡ true → AtPlace (hidden blind g past) order
hidden-place blind g past order dealt hid =
    at_place (is_hidden blind g past) 0 (drawn_count g past) order hid (omega arith)
    (let l : order < drawn_count g past = hidden-drawn blind g past order dealt hid in omega arith)

count-same : (p q : ℕ → Bool) → ((x : ℕ) → p x ≡ q x) → (xs : List ℕ) → count_by p xs ≡ count_by q xs
count-same p q e [] = refl
count-same p q e (x ∷ xs) =
    sum_by-cons (λ k. cond (p k) 1 0) x xs
    ∙ (ap (λ b. cond b 1 0 + count_by p xs) (e x)
    ∙ (ap (λ c. cond (q x) 1 0 + c) (count-same p q e xs)
    ∙ sym (sum_by-cons (λ k. cond (q k) 1 0) x xs)))

count-none : (xs : List ℕ) → count_by (λ (x : ℕ). false) xs ≡ 0
count-none [] = refl
count-none (x ∷ xs) = sum_by-cons (λ (k : ℕ). cond false 1 0) x xs ∙
    (let ih : count_by (λ (k : ℕ). false) xs ≡ 0 = count-none xs in omega arith)

eqb-turned : (n m : ℕ) → (n == m) ≡ (m == n)
eqb-turned n m = grind arith

same-turned : (a b : Identity) → same_identity a b ≡ same_identity b a
same-turned a b = grind arith

-- an identity is used as often as its number
same-uses : (id : Identity) → 1 ≤ id.rank → id.rank < 6 → (chosen : List ℕ)
    → count_by (λ n. same_identity id (identity n)) chosen ≡ uses chosen (number id)
unfolding uses
same-uses id ranked rank chosen =
    count-same (λ n. same_identity id (identity n)) (λ n. n == number id)
    (λ n. same-turned id (identity n) ∙ (same-number id n ranked rank ∙ eqb-turned (number id) n)) chosen

-- no number is that of an identity with no rank of 1 to 5
rankless-number : (id : Identity) (n : ℕ) → (nat_le 1 id.rank && nat_lt id.rank 6) ≡ false → same_identity id (identity n) ≡ false
rankless-number id n none = let r : n % 5 + 1 < 6 = omega arith in grind arith

-- what an assignment gives each order
abbrev choice_of : List ℕ → List ℕ → ℕ → Identity
choice_of orders chosen order = identity (slice_index chosen (place orders order))

-- the copies of an identity that are seen
abbrev seen_copies : ℕ → Setup → List Act → Identity → ℕ
seen_copies blind g past id = count_by (λ order. same_identity id (card g order)) (seen blind g past)

-- what a matching is asked for
pub record IsAsked (blind : ℕ) (g : Setup) (past : List Act) (marks left : List ℕ) : Type 0 where
  pub runs : Runs g past
  pub marked : AreMarks g past (hidden blind g past) marks
  pub unseen : AreUnseen blind g past left

-- the copies that are left and those that are seen are all
left-seen : (blind : ℕ) (g : Setup) (past : List Act) (marks left : List ℕ) → IsAsked blind g past marks left → (n : ℕ) → n < 30
    → slice_index left n + seen_copies blind g past (identity n) ≡ copies g.variant (identity n)
left-seen blind g past marks left a n low =
    omega (
      arith,
      a.unseen.counts n low,
      count-seen blind g past a.runs.dealt a.runs.legal
          (λ order. same_identity (identity n) (card g order)),
    )

marked-meets : (a b c : Bool) → a ≡ (b && c) → a ≡ true → c ≡ true
marked-meets a b c e t = grind arith

eqb-one : (n : ℕ) → n ≡ 1 → (n == 1) ≡ true
eqb-one n e = grind arith

-- an assignment is a choice
given-choice : (blind : ℕ) (g : Setup) (past : List Act) (marks left chosen : List ℕ) → IsAsked blind g past marks left
    → IsAssignment marks left chosen
    → IsChoice blind g past (choice_of (hidden blind g past) chosen)
given-choice blind g past marks left chosen a given = record {
  met = met;
  few = λ id. few id (nat_le 1 id.rank && nat_lt id.rank 6) refl;
}
  where
    hs : List ℕ
    hs = hidden blind g past

    met : (order : ℕ) → is_hidden blind g past order ≡ true → meets g past order (choice_of (hidden blind g past) chosen order) ≡ true
    met order hid =
        let p : AtPlace (hidden blind g past) order = hidden-place blind g past order a.runs.dealt hid in
        let j : ℕ = place (hidden blind g past) order in
        let n : ℕ = slice_index chosen j in
        let h : Has (slice_index marks j) n = given.in_mask j
        (let s : j < length (hidden blind g past) = p.low in omega (arith, a.marked.many)) in
        let b : (bit (slice_index marks j) n == 1) ≡ is_marked g past (slice_index (hidden blind g past) j) n = a.marked.bits j n p.low in
        let c : (bit (slice_index marks j) n == 1) ≡ is_marked g past order n = rw p.is at b in
        marked-meets (bit (slice_index marks j) n == 1) (has_number g.variant n) (meets g past order (identity n)) c (eqb-one _ h)

    own : IsChoice blind g past (λ order. card g order)
    own = own-choice blind g past a.runs.full

    used : (id : Identity)
        → count_by (λ k. same_identity id (choice_of (hidden blind g past) chosen k)) (hidden blind g past) ≡ count_by
        (λ n. same_identity id (identity n)) chosen
    used id = count-given (is_hidden blind g past) (λ n. same_identity id (identity n)) 0 (drawn_count g past) chosen
        (given.one_each ∙ a.marked.many)

    in_left : (id : Identity) → 1 ≤ id.rank → id.rank < 6 → (number id < 30) ⊎ (30 ≤ number id)
        → uses chosen (number id) + seen_copies blind g past id ≤ copies g.variant id
    in_left id ranked rank (inl low) =
        let e : identity (number id) ≡ id = identity-number id ranked rank in
        let c : slice_index left (number id) + seen_copies blind g past (identity (number id)) ≡ copies g.variant (identity (number id)) =
        left-seen blind g past marks left a (number id) low in
        let d : slice_index left (number id) + seen_copies blind g past id ≡ copies g.variant id = subst
        (λ x. slice_index left (number id) + seen_copies blind g past x ≡ copies g.variant x) e c in
        omega (arith, d, given.enough (number id))
    in_left id ranked rank (inr far) =
        omega (arith, given.enough (number id), get_or_past left (number id) 0 (omega (arith, a.unseen.many)), own.few id)

    few : (id : Identity) (b : Bool) → (nat_le 1 id.rank && nat_lt id.rank 6) ≡ b
        → count_by (λ k. same_identity id (choice_of (hidden blind g past) chosen k))
        (hidden blind g past) + seen_copies blind g past id ≤ copies g.variant id
    few id true e =
        let ranked : 1 ≤ id.rank = grind arith in
        let rank : id.rank < 6 = grind arith in
        omega (arith, used id, same-uses id ranked rank chosen, in_left id ranked rank (cases_lt (number id) 30))
    few id false e =
        omega (
          arith,
          used id,
          count-same (λ n. same_identity id (identity n)) (λ n. false) (λ n. rankless-number id n e) chosen,
          count-none chosen,
          own.few id,
        )

-- a chosen identity is in the variant
choice-copies : (blind : ℕ) (g : Setup) (past : List Act) (choice : ℕ → Identity) (order : ℕ) → deal_size g ≤ length g.deck.items
    → IsChoice blind g past choice
    → is_hidden blind g past order ≡ true → 0 < copies g.variant (choice order)
choice-copies blind g past choice order dealt c hid =
    let p : AtPlace (hidden blind g past) order = hidden-place blind g past order dealt hid in
    let f : ℕ → ℕ = λ k. cond (same_identity (choice order) (choice k)) 1 0 in
    let all : ℕ = count_by (λ k. same_identity (choice order) (choice k)) (hidden blind g past) in
    let most : f (slice_index (hidden blind g past) (place (hidden blind g past) order)) ≤ all = get_or-le-sum_by f (hidden blind g past)
    (place (hidden blind g past) order) 0 p.low in
    let most' : f order ≤ all = subst (λ x. f x ≤ all) p.is most in
    let one : f order ≡ 1 = rw same_identity-refl refl in
    omega (arith, most', one, c.few (choice order))

-- an identity that a choice has is marked
marked-of : (g : Setup) (past : List Act) (order : ℕ) (id : Identity) → 0 < copies g.variant id → meets g past order id ≡ true
    → is_marked g past order (number id) ≡ true
marked-of g past order id some met =
    let r : (id.suit < 6) × (1 ≤ id.rank) × (id.rank < 6) = copies-in_range g.variant id some in
    subst (λ x. (nat_lt 0 (copies g.variant x) && meets g past order x) ≡ true) (sym (identity-number id r.1 r.2)) (grind arith)

bit-one : (n : ℕ) (b : Bool) → (n == 1) ≡ b → b ≡ true → n ≡ 1
bit-one n b e t = grind arith

uses-map : (f : ℕ → ℕ) (n : ℕ) (xs : List ℕ) → uses (map f xs) n ≡ count_by (λ k. f k == n) xs
unfolding uses
uses-map f n [] = refl
uses-map f n (x ∷ xs) =
    sum_by-cons (λ y. cond (y == n) 1 0) (f x) (map f xs)
    ∙ (ap (λ c. cond (f x == n) 1 0 + c) (uses-map f n xs)
    ∙ sym (sum_by-cons (λ k. cond (f k == n) 1 0) x xs))

-- a choice is an assignment
choice-given : (blind : ℕ) (g : Setup) (past : List Act) (marks left : List ℕ) (choice : ℕ → Identity) (order : ℕ)
    → IsAsked blind g past marks left → IsChoice blind g past choice
    → is_hidden blind g past order ≡ true → Possible marks left (place (hidden blind g past) order) (number (choice order))
choice-given blind g past marks left choice order a c hid = (
  map f hs,
  record {
    one_each = length-map hs f ∙ sym a.marked.many;
    in_mask = λ j low. in_mask j (omega (arith, a.marked.many));
    enough = λ n. enough n (cases_lt n 30);
  },
  get_or-map f hs (place hs order) 0 0 p.low ∙ ap f p.is,
)
  where
    f : ℕ → ℕ
    f k = number (choice k)

    hs : List ℕ
    hs = hidden blind g past

    p : AtPlace (hidden blind g past) order
    p = hidden-place blind g past order a.runs.dealt hid

    in_range : (k : ℕ) → is_hidden blind g past k ≡ true → ((choice k).suit < 6) × (1 ≤ (choice k).rank) × ((choice k).rank < 6)
    in_range k h = copies-in_range g.variant (choice k) (choice-copies blind g past choice k a.runs.dealt c h)

    in_mask : (j : ℕ) → j < length (hidden blind g past)
        → Has (slice_index marks j) (slice_index (map (λ k. number (choice k)) (hidden blind g past)) j)
    in_mask j low =
        let k : ℕ = slice_index (hidden blind g past) j in
        let h : Passes (is_hidden blind g past) 0 (drawn_count g past) k = filter-at (is_hidden blind g past) 0
        (drawn_count g past) j low in
        let e : slice_index (map (λ k. number (choice k)) (hidden blind g past)) j ≡ number (choice k) = get_or-map (λ k. number (choice k))
        (hidden blind g past) j 0 0 low in
        let b : (bit (slice_index marks j) (number (choice k)) == 1) ≡ is_marked g past k (number (choice k)) = a.marked.bits j
        (number (choice k)) low in
        let t : is_marked g past k (number (choice k)) ≡ true = marked-of g past k (choice k)
        (choice-copies blind g past choice k a.runs.dealt c h.passes) (c.met k h.passes) in
        subst (λ x. Has (slice_index marks j) x) (sym e)
        (bit-one (bit (slice_index marks j) (number (choice k))) (is_marked g past k (number (choice k))) b t)

    used : (n : ℕ)
        → uses (map (λ k. number (choice k)) (hidden blind g past)) n ≡ count_by (λ k. same_identity (identity n) (choice k))
        (hidden blind g past)
    used n = uses-map (λ k. number (choice k)) n (hidden blind g past)
        ∙ count-within (λ k. number (choice k) == n) (λ k. same_identity (identity n) (choice k)) (is_hidden blind g past) 0
        (drawn_count g past)
        (λ k low high h. let i : ((choice k).suit < 6) × (1 ≤ (choice k).rank) × ((choice k).rank < 6) = in_range k h in sym
        (same-number (choice k) n i.1 i.2))

    enough : (n : ℕ) → (n < 30) ⊎ (30 ≤ n) → uses (map (λ k. number (choice k)) (hidden blind g past)) n ≤ slice_index left n
    enough n (inl low) = omega (arith, used n, c.few (identity n), left-seen blind g past marks left a n low)
    enough n (inr far) = omega (arith, used n, c.few (identity n), copies-none g.variant n far)

-- so what the assignments give a hidden card is what the deals give it
pub assigned-possible : (blind : ℕ) (g : Setup) (past : List Act) (marks left : List ℕ) (order : ℕ) → IsAsked blind g past marks left
    → is_hidden blind g past order ≡ true
    → (n : ℕ) → Possible marks left (place (hidden blind g past) order) n ↔ IsPossible (seen_after blind g past) order (identity n)
assigned-possible blind g past marks left order a hid n = (
  λ (chosen, given, at).
      subst (λ x. IsPossible (seen_after blind g past) order (identity x)) at
      (choice-possible blind g past order (choice_of (hidden blind g past) chosen) a.runs hid
      (given-choice blind g past marks left chosen a given)),
  λ possible.
      let c : (choice : ℕ → Identity) × IsChoice blind g past choice × (choice order ≡ identity n) = possible-choice blind g past order
      (identity n) a.runs possible in
      subst (λ x. Possible marks left (place (hidden blind g past) order) x) (ap number (c.2) ∙ number-identity n)
      (choice-given blind g past marks left (c.0) order a (c.1) hid),
)
