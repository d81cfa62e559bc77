-- Once no card can move into the set any more, the card has in some assignment exactly the members of it in its mask.
use Rattle.std.proofs.Common.{◌≡◌, ◌≢◌, ℕ, ◌+◌, ◌-◌, ◌<◌, ◌≤◌, min, ⊎_elim, List, length, slice_index, sym, ap, subst, arith}
use Rattle.std.proofs.lemmas.Bool.{cases_eq, cases_lt}
use Rattle.std.proofs.Math.Nat.{mul-le-mul_left}
use Rattle.hb_sets.specs.Sets.{bit, Has}
use Rattle.hb_sets.proofs.Bits.{bit-lt, bit_le}
use Rattle.hb_match.specs.Matching.{uses, IsEnough, IsAssignment, Possible, IsPossibleSet}
use Rattle.hb_match.specs.Exchange.{Gives}
use Rattle.hb_match.specs.Placing.{one, Holds, IsClosed}
use Rattle.hb_match.proofs.Uses.{one-same, one-other}
use Rattle.hb_match.proofs.CopiesLeft.{chosen-lt}
use Rattle.hb_match.proofs.Sums.{sum_below, sum_below-add}
use Rattle.hb_match.proofs.Weights.{weight, weight-le, sum_below-le-weight, weight-le-sum_below, sum_below-one_at}

-- an assignment gives each card an identity of its mask; the identities are below 64 where copies of no more are counted
pub given_holds : (masks left chosen : List ℕ) → IsAssignment masks left chosen → length left ≤ 64 → Holds masks chosen
given_holds masks left chosen a few k h =
    (a.in_mask k (omega (arith, a.one_each)), omega (arith, chosen-lt left chosen k a.enough h))

-- ---- a member of the set in the mask is possible

reached_possible : (masks left chosen : List ℕ) (card free id : ℕ) → Gives masks left chosen free card
    → Has (slice_index masks card) id → Has free id → Possible masks left card id
reached_possible masks left chosen card free id r of_mask p =
    let f = r.can id p in (
      f.0,
      record {
        one_each = f.1.one_each;
        in_mask = λ k h. ⊎_elim
            (λ (e : k ≡ card). rw (e, f.1.takes) of_mask)
            (λ (ne : k ≢ card). f.1.in_mask k h ne)
            (cases_eq k card);
        enough = f.1.enough;
      },
      f.1.takes,
    )

-- ---- what is possible is a member: an assignment that gave the card an identity outside would use the identities
-- outside once more than the known one, and that one has used them up

-- how many of the chosen identities are outside the set
chosen_out : List ℕ → ℕ → List ℕ → ℕ
chosen_out left free chosen = weight (length left) (λ id. 1 - bit free id) chosen

-- outside a set that has each identity with a copy left over, no assignment uses more
chosen_out-le : (masks left chosen other : List ℕ) (free : ℕ) → ((id : ℕ) → uses chosen id < slice_index left id → Has free id)
    → IsEnough left other → chosen_out left free other ≤ chosen_out left free chosen
unfolding chosen_out
chosen_out-le masks left chosen other free spare enough = weight-le (length left) (λ id. 1 - bit free id) other chosen
    (λ id. ⊎_elim
    (λ (e : bit free id ≡ 1). rw e (omega arith))
    (λ (ne : bit free id ≢ 1). mul-le-mul_left (1 - bit free id) (⊎_elim
    (λ some. absurd (ne (spare id some)))
    (λ none. omega (arith, enough id))
    (cases_lt (uses chosen id) (slice_index left id))))
    (cases_eq (bit free id) 1))

-- a card that holds an identity outside a closed set has one outside in each assignment, so one more has the card that
-- held one inside
out_each : (masks left chosen other : List ℕ) (card free : ℕ) → IsClosed masks chosen free (length chosen)
    → Has free (slice_index chosen card) → length chosen ≡ length masks → IsAssignment masks left other
    → ¬ Has free (slice_index other card) → (k : ℕ) → k < length masks
    → 1 - bit free (slice_index chosen k) + one card k ≤ 1 - bit free (slice_index other k)
out_each masks left chosen other card free closed own same a out k h = ⊎_elim
    (λ (e : k ≡ card). rw e (omega (arith, own, one-same card, out, bit-lt free (slice_index other card))))
    (λ (ne : k ≢ card).
    let into : Has free (slice_index other k) → Has free (slice_index chosen k) =
    λ p.
    ⊎_elim (λ q. q) (λ away. absurd (closed k (omega arith) away (slice_index other k) (a.in_mask k h) p))
    (cases_eq (bit free (slice_index chosen k)) 1) in
    omega (arith, one-other card k (λ q. ne (sym q)), bit_le free (slice_index other k) free (slice_index chosen k) into))
    (cases_eq k card)

chosen_out-lt : (masks left chosen other : List ℕ) (card free : ℕ) → card < length masks → IsClosed masks chosen free (length chosen)
    → Has free (slice_index chosen card) → length chosen ≡ length masks → IsAssignment masks left other
    → ¬ Has free (slice_index other card) → chosen_out left free chosen < chosen_out left free other
unfolding chosen_out
chosen_out-lt masks left chosen other card free h closed own same a out =
    let each : (k : ℕ) → k < length other → 1 - bit free (slice_index chosen k) + one card k ≤ 1 - bit free (slice_index other k) =
    λ k l. out_each masks left chosen other card free closed own same a out k (omega (arith, a.one_each)) in
    let more = sum_below-le-weight (length left) (λ id. 1 - bit free id) (λ k. 1 - bit free (slice_index chosen k) + one card k) other
    (λ k l. chosen-lt left other k a.enough l) each in
    let parts = sum_below-add (length other) (λ k. 1 - bit free (slice_index chosen k)) (λ k. one card k) in
    let by_card =
    weight-le-sum_below (length left) (λ id. 1 - bit free id) (λ k. 1 - bit free (slice_index chosen k))
    chosen (λ k l. omega arith) in
    let lengths : length chosen ≡ length other = omega (arith, a.one_each) in
    omega (
      arith,
      more,
      parts,
      by_card,
      sum_below-one_at (length other) card (omega (arith, a.one_each)),
      ap (λ n. sum_below n (λ k. 1 - bit free (slice_index chosen k))) lengths,
    )

possible_reached : (masks left chosen : List ℕ) (card free id : ℕ) → IsAssignment masks left chosen → card < length masks
    → Gives masks left chosen free card → Has free (slice_index chosen card) → IsClosed masks chosen free (length chosen)
    → Possible masks left card id → Has free id
possible_reached masks left chosen card free id given h r own closed (other, a, here) = ⊎_elim (λ p. p)
    (λ (out : ¬ Has free id).
    let out' : ¬ Has free (slice_index other card) = let P : ℕ → Type 0 = λ v. ¬ Has free v in subst P (sym here) out in
    absurd (omega (
      arith,
      chosen_out-lt masks left chosen other card free h closed own given.one_each a out',
      chosen_out-le masks left chosen other free r.spare a.enough,
    )))
    (cases_eq (bit free id) 1)

possible-of_mask : (masks left : List ℕ) (card id : ℕ) → card < length masks → Possible masks left card id → Has (slice_index masks card) id
possible-of_mask masks left card id h (chosen, a, here) =
    let P : ℕ → Type 0 = λ x. Has (slice_index masks card) x in subst P here (a.in_mask card h)

-- what a closed search met is what the card can have
pub met_possible : (masks left chosen : List ℕ) (card free met : ℕ) → IsAssignment masks left chosen → card < length masks
    → Gives masks left chosen free card → Has free (slice_index chosen card) → IsClosed masks chosen free (length chosen)
    → ((id : ℕ) → bit met id ≡ min (bit (slice_index masks card) id) (bit free id))
    → IsPossibleSet masks left card met
met_possible masks left chosen card free met a h r own closed meets id =
    let mask_bit = bit-lt (slice_index masks card) id in
    let free_bit = bit-lt free id in (
      λ p. reached_possible masks left chosen card free id r (omega (arith, meets id)) (omega (arith, meets id)),
      λ p. omega (
        arith,
        meets id,
        possible_reached masks left chosen card free id a h r own closed p,
        possible-of_mask masks left card id h p,
      ),
    )
