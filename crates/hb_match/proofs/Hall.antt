-- Hall's condition, with copies: where cards have too few copies among them there is no assignment, and where no room
-- can be made for the next card there are such cards.
use Rattle.std.proofs.Common.{◌≡◌, ◌≢◌, ℕ, ◌+◌, ◌*◌, ◌<◌, ◌≤◌, ⊎_elim, List, length, slice_index, get_or, refl, subst, arith}
use Rattle.std.proofs.lemmas.Bool.{cases_eq, cases_lt}
use Rattle.std.proofs.Math.Nat.{mul-le-mul_left}
use Rattle.std.specs.Int.RustNames.{count_ones}
use Rattle.hb_sets.specs.Sets.{bit, Has}
use Rattle.hb_sets.proofs.Bits.{bit-lt, bit_le, member-lt, lt-from_members}
use Rattle.hb_match.specs.Matching.{uses, copies_over, IsEnough, IsAssignment, NoAssignment, IsObstruction}
use Rattle.hb_match.specs.Placing.{ShutsOut, Gathers}
use Rattle.hb_match.proofs.CopiesLeft.{chosen-lt}
use Rattle.hb_match.proofs.Sums.{sum_below, sum_below-more, sum_below-le, ones-sum}
use Rattle.hb_match.proofs.Weights.{weight, weight-uses, sum_below-le-weight, weight-le-sum_below}

-- how many of the chosen identities are in the set
chosen_in : List ℕ → ℕ → List ℕ → ℕ
chosen_in left ids chosen = weight (length left) (λ id. bit ids id) chosen

copies-sum : (left : List ℕ) (ids : ℕ) → copies_over left ids ≡ sum_below (length left) (λ id. bit ids id * slice_index left id)
unfolding sum_below
copies-sum left ids = refl

-- a set's weight of a number, where the number matters only if the set has it
times_bit : (set k x y : ℕ) → (Has set k → x ≤ y) → bit set k * x ≤ bit set k * y
times_bit set k x y h = ⊎_elim
    (λ (e : bit set k ≡ 1). rw e (omega (arith, h e)))
    (λ (ne : bit set k ≢ 1). let e : bit set k ≡ 0 = omega (arith, bit-lt set k) in rw e (omega arith))
    (cases_eq (bit set k) 1)

-- ---- with an obstruction there is no assignment

chosen_in-le-copies : (left chosen : List ℕ) (ids : ℕ) → IsEnough left chosen → chosen_in left ids chosen ≤ copies_over left ids
unfolding chosen_in
chosen_in-le-copies left chosen ids enough =
    let by_id = sum_below-le (length left) (λ id. bit ids id * uses chosen id) (λ id. bit ids id * slice_index left id)
    (λ id l. mul-le-mul_left (bit ids id) (enough id)) in
    omega (arith, by_id, weight-uses (length left) (λ id. bit ids id) chosen, copies-sum left ids)

-- each card of an obstruction is given an identity of its set
cards-le-chosen_in : (masks left chosen : List ℕ) (cards ids : ℕ) → IsObstruction masks left cards ids → IsAssignment masks left chosen
    → count_ones cards ≤ chosen_in left ids chosen
unfolding chosen_in
cards-le-chosen_in masks left chosen cards ids b a =
    let given : (k : ℕ) → k < length chosen → bit cards k ≤ bit ids (get_or chosen k 0) =
    λ k h. bit_le cards k ids (get_or chosen k 0) (λ p. (b.union (get_or chosen k 0)).1 (k, p, a.in_mask k (omega (arith, a.one_each)))) in
    let by_card =
    sum_below-le-weight (length left) (λ id. bit ids id) (λ k. bit cards k) chosen
    (λ k h. chosen-lt left chosen k a.enough h) given in
    let small = lt-from_members cards (length chosen) (λ k p. omega (arith, b.in_range k p, a.one_each)) in
    omega (arith, by_card, ones-sum (length chosen) cards small)

-- too few copies for the cards of an obstruction: there is no assignment
pub obstruction-excludes : (masks left : List ℕ) (cards ids : ℕ) → IsObstruction masks left cards ids → NoAssignment masks left
obstruction-excludes masks left cards ids b chosen a =
    omega (arith, b.too_few, cards-le-chosen_in masks left chosen cards ids b a, chosen_in-le-copies left chosen ids a.enough)

-- ---- what `obstruction` answers is an obstruction

-- no gathered identity is in the closed set
ids-not_closed : (masks chosen : List ℕ) (free closed cards ids : ℕ) → ShutsOut masks chosen free closed
    → Gathers masks chosen closed (length chosen) cards ids → (id : ℕ) → Has ids id → ¬ Has closed id
ids-not_closed masks chosen free closed cards ids s g id p q =
    let f = g.covered id p in ⊎_elim
    (λ e. s.next_out id (let P : ℕ → Type 0 = λ k. Has (slice_index masks k) id in subst P e f.2) q)
    (λ r. s.no_move f.0 r.0 r.1 id f.2 q)
    (g.only f.0 f.1)

-- so each of them is used up
copies-le-chosen_in : (left chosen : List ℕ) (free closed ids : ℕ) → ((id : ℕ) → uses chosen id < slice_index left id → Has free id)
    → ((id : ℕ) → Has free id → Has closed id) → ((id : ℕ) → Has ids id → ¬ Has closed id)
    → copies_over left ids ≤ chosen_in left ids chosen
unfolding chosen_in
copies-le-chosen_in left chosen free closed ids spare wider out =
    let used_up : (id : ℕ) → Has ids id → slice_index left id ≤ uses chosen id =
    λ id p. ⊎_elim
    (λ some. absurd (out id p (wider id (spare id some))))
    (λ none. none)
    (cases_lt (uses chosen id) (slice_index left id)) in
    let by_id = sum_below-le (length left) (λ id. bit ids id * slice_index left id) (λ id. bit ids id * uses chosen id)
    (λ id l. times_bit ids id (slice_index left id) (uses chosen id) (used_up id)) in
    omega (arith, by_id, weight-uses (length left) (λ id. bit ids id) chosen, copies-sum left ids)

-- and each card that holds one is gathered, with the next card besides
chosen_in-lt-cards : (masks left chosen : List ℕ) (closed cards ids : ℕ) → Gathers masks chosen closed (length chosen) cards ids
    → ((id : ℕ) → Has ids id → ¬ Has closed id) → chosen_in left ids chosen < count_ones cards
unfolding chosen_in
chosen_in-lt-cards masks left chosen closed cards ids g out =
    let holders : (k : ℕ) → k < length chosen → bit ids (get_or chosen k 0) ≤ bit cards k =
    λ k h. bit_le ids (get_or chosen k 0) cards k (λ p. g.taken k h (out (get_or chosen k 0) p)) in
    let by_card = weight-le-sum_below (length left) (λ id. bit ids id) (λ k. bit cards k) chosen holders in
    omega (arith, by_card, sum_below-more (length chosen) (λ k. bit cards k), ones-sum (length chosen + 1) cards g.narrow, g.next)

-- what a search gathered that found no way is an obstruction
pub gathers-blocked : (masks left chosen : List ℕ) (free closed cards ids : ℕ) → length chosen < length masks
    → ((id : ℕ) → uses chosen id < slice_index left id → Has free id)
    → ShutsOut masks chosen free closed → Gathers masks chosen closed (length chosen) cards ids → IsObstruction masks left cards ids
gathers-blocked masks left chosen free closed cards ids more spare s g =
    let out = ids-not_closed masks chosen free closed cards ids s g in
    record {
      in_range = λ k p. omega (arith, member-lt cards (length chosen + 1) k g.narrow p);
      union = λ id. (λ p. g.covered id p, λ (k, p, q). g.covers k p id q);
      too_few = omega (
        arith,
        copies-le-chosen_in left chosen free closed ids spare s.wider out,
        chosen_in-lt-cards masks left chosen closed cards ids g out,
      );
    }
