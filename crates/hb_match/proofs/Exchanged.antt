-- The identities that a card can be given if the others move on.
use Rattle.std.proofs.Common.{◌≡◌, ◌≢◌, ℕ, ◌<◌, ◌↔◌, ⊎_elim, List, length, slice_index, slice_set, get_or-set_other, get_or-set_same, refl, sym, ◌∙◌, ap, subst, arith}
use Rattle.std.proofs.lemmas.Bool.{cases_eq}
use Rattle.std.proofs.Math.ListN.{length-set}
use Rattle.hb_sets.specs.Sets.{bit, Has}
use Rattle.hb_match.specs.Matching.{uses, IsAssignment}
use Rattle.hb_match.specs.Exchange.{Exchanged, Gives}
use Rattle.hb_match.specs.Placing.{one, CanMove}
use Rattle.hb_match.proofs.Uses.{uses-set, one-same, one-other}

-- ---- the set at the start: the card's own identity, and those with a copy left over

own_exchanged : (masks left chosen : List ℕ) (free card : ℕ) → IsAssignment masks left chosen
    → Exchanged masks left chosen chosen free card (slice_index chosen card)
own_exchanged masks left chosen free card a = record {
  one_each = a.one_each;
  takes = refl;
  in_mask = λ k h ne. a.in_mask k h;
  enough = a.enough;
  stays = λ k h ne out. refl;
}

spare_exchanged : (masks left chosen : List ℕ) (free card id : ℕ) → IsAssignment masks left chosen → card < length masks
    → uses chosen id < slice_index left id → Exchanged masks left chosen (slice_set chosen card id) free card id
spare_exchanged masks left chosen free card id a h spare =
    let below : card < length chosen = omega (arith, a.one_each) in
    record {
      one_each = length-set chosen card id ∙ a.one_each;
      takes = rw get_or-set_same;
      in_mask = λ k l (ne : k ≢ card). rw get_or-set_other (a.in_mask k l);
      enough = λ v. ⊎_elim
          (λ (e : v ≡ id). rw e (omega (arith, uses-set chosen card id id below, one-same id)))
          (λ (ne : v ≢ id). omega (arith, uses-set chosen card id v below, one-other id v (λ e. ne (sym e)), a.enough v))
          (cases_eq v id);
      stays = λ k l (ne : k ≢ card) out. rw get_or-set_other;
    }

-- before any exchange each card can be given what has a copy left over
pub gives_start : (masks left chosen : List ℕ) (spare card : ℕ) → IsAssignment masks left chosen → card < length masks
    → ((id : ℕ) → Has spare id ↔ (uses chosen id < slice_index left id)) → Gives masks left chosen spare card
gives_start masks left chosen spare card a h is_spare = record {
  spare = λ id. (is_spare id).1;
  can = λ id p. (slice_set chosen card id, spare_exchanged masks left chosen spare card id a h ((is_spare id).0 p));
}

-- ---- a step: what `moved` holds joins the set, where it could take `to`, a member

-- the card takes what `moved` holds, and `moved` takes `to`
swapped : List ℕ → ℕ → ℕ → ℕ → ℕ → List ℕ
swapped other card moved held to = slice_set (slice_set other card held) moved to

length-swapped : (other : List ℕ) (card moved held to : ℕ) → length (swapped other card moved held to) ≡ length other
unfolding swapped
length-swapped other card moved held to = length-set (slice_set other card held) moved to ∙ length-set other card held

swapped-card : (other : List ℕ) (card moved held to : ℕ) → card ≢ moved → card < length other
    → slice_index (swapped other card moved held to) card ≡ held
unfolding swapped
swapped-card other card moved held to apart h = rw get_or-set_other (rw get_or-set_same)

swapped-moved : (other : List ℕ) (card moved held to : ℕ) → moved < length other
    → slice_index (swapped other card moved held to) moved ≡ to
unfolding swapped
swapped-moved other card moved held to h =
    let below : moved < length (slice_set other card held) = omega (arith, length-set other card held) in rw get_or-set_same

swapped-other : (other : List ℕ) (card moved held to k : ℕ) → k ≢ card → k ≢ moved
    → slice_index (swapped other card moved held to) k ≡ slice_index other k
unfolding swapped
swapped-other other card moved held to k n m = rw get_or-set_other (rw get_or-set_other)

-- where `moved` held `held` and the card had `to`, the two have changed places
uses-swapped : (other : List ℕ) (card moved held to id : ℕ) → moved ≢ card → card < length other → moved < length other
    → slice_index other moved ≡ held → slice_index other card ≡ to
    → uses (swapped other card moved held to) id ≡ uses other id
unfolding swapped
uses-swapped other card moved held to id apart h l holds takes =
    let below : moved < length (slice_set other card held) = omega (arith, length-set other card held) in
    let still : slice_index (slice_set other card held) moved ≡ held = rw get_or-set_other holds in
    omega (
      arith,
      uses-set other card held id h,
      uses-set (slice_set other card held) moved to id below,
      ap (λ x. one x id) still,
      ap (λ x. one x id) takes,
    )

moved_exchanged : (masks left chosen other : List ℕ) (free wider card moved to : ℕ) → card < length masks → length chosen ≡ length masks
    → moved ≢ card → CanMove masks chosen free moved to
    → Has wider (slice_index chosen moved) → ((j : ℕ) → Has free j → Has wider j)
    → Exchanged masks left chosen other free card to
    → Exchanged masks left chosen (swapped other card moved (slice_index chosen moved) to) wider card (slice_index chosen moved)
moved_exchanged masks left chosen other free wider card moved to in_range same_length apart can put keeps e =
    let held : ℕ = slice_index chosen moved in
    let h : card < length other = omega (arith, e.one_each) in
    let l : moved < length other = omega (arith, can.in_range, e.one_each) in
    let still : slice_index other moved ≡ held = e.stays moved (omega (arith, can.in_range)) apart can.outside in
    record {
      one_each = length-swapped other card moved held to ∙ e.one_each;
      takes = swapped-card other card moved held to (λ q. apart (sym q)) h;
      in_mask = λ k k_in (ne : k ≢ card). ⊎_elim
          (λ (q : k ≡ moved). rw (q, swapped-moved other card moved held to l) can.in_mask)
          (λ (q : k ≢ moved). rw (swapped-other other card moved held to k ne q) (e.in_mask k k_in ne))
          (cases_eq k moved);
      enough = λ v. omega (arith, e.enough v, uses-swapped other card moved held to v apart h l still e.takes);
      stays = λ k k_in (ne : k ≢ card) out.
          let q : k ≢ moved = λ q. out (let P : ℕ → Type 0 = λ j. Has wider (slice_index chosen j) in subst P (sym q) put) in
          swapped-other other card moved held to k ne q ∙ e.stays k k_in ne (λ p. out (keeps (slice_index chosen k) p));
    }

kept_exchanged : (masks left chosen other : List ℕ) (free wider card id : ℕ) → ((j : ℕ) → Has free j → Has wider j)
    → Exchanged masks left chosen other free card id → Exchanged masks left chosen other wider card id
kept_exchanged masks left chosen other free wider card id keeps e = record {
  one_each = e.one_each;
  takes = e.takes;
  in_mask = e.in_mask;
  enough = e.enough;
  stays = λ k l ne out. e.stays k l ne (λ p. out (keeps (slice_index chosen k) p));
}

-- the members of a set that a member is put into are its own, and that one
pub put_keeps : (free wider held : ℕ) → Has wider held → ((j : ℕ) → j ≢ held → bit wider j ≡ bit free j)
    → (j : ℕ) → Has free j → Has wider j
put_keeps free wider held put rest j p = ⊎_elim (λ (e : j ≡ held). rw e put) (λ (ne : j ≢ held). rest j ne ∙ p) (cases_eq j held)

-- a card can be given its own identity too
pub gives_own : (masks left chosen : List ℕ) (free wider card : ℕ) → IsAssignment masks left chosen
    → Has wider (slice_index chosen card) → ((j : ℕ) → j ≢ slice_index chosen card → bit wider j ≡ bit free j)
    → Gives masks left chosen free card → Gives masks left chosen wider card
gives_own masks left chosen free wider card a put rest g =
    let held : ℕ = slice_index chosen card in
    let keeps = put_keeps free wider held put rest in
    record {
      spare = λ id p. keeps id (g.spare id p);
      can = λ id p. ⊎_elim
          (λ (e : id ≡ held). (chosen, rw e (own_exchanged masks left chosen wider card a)))
          (λ (ne : id ≢ held). let f = g.can id (sym (rest id ne) ∙ p) in
          (f.0, kept_exchanged masks left chosen f.0 free wider card id keeps f.1))
          (cases_eq id held);
    }

moved_gives : (masks left chosen : List ℕ) (free wider card moved to : ℕ) → IsAssignment masks left chosen → card < length masks
    → CanMove masks chosen free moved to
    → Has wider (slice_index chosen moved) → ((j : ℕ) → Has free j → Has wider j) → Gives masks left chosen free card
    → (other : List ℕ) × Exchanged masks left chosen other wider card (slice_index chosen moved)
moved_gives masks left chosen free wider card moved to a h can put keeps g = ⊎_elim
    (λ (e : moved ≡ card). (chosen, rw e (own_exchanged masks left chosen wider card a)))
    (λ (apart : moved ≢ card). let f = g.can to can.inside in (
      swapped f.0 card moved (slice_index chosen moved) to,
      moved_exchanged masks left chosen f.0 free wider card moved to h a.one_each apart can put keeps f.1,
    ))
    (cases_eq moved card)

-- what a card holds can be given if that card can move into the set
pub gives_more : (masks left chosen : List ℕ) (free wider card moved to : ℕ) → IsAssignment masks left chosen → card < length masks
    → CanMove masks chosen free moved to
    → Has wider (slice_index chosen moved) → ((j : ℕ) → j ≢ slice_index chosen moved → bit wider j ≡ bit free j)
    → Gives masks left chosen free card → Gives masks left chosen wider card
gives_more masks left chosen free wider card moved to a h can put rest g =
    let held : ℕ = slice_index chosen moved in
    let keeps = put_keeps free wider held put rest in
    record {
      spare = λ id p. keeps id (g.spare id p);
      can = λ id p. ⊎_elim
          (λ (e : id ≡ held). rw e (moved_gives masks left chosen free wider card moved to a h can put keeps g))
          (λ (ne : id ≢ held). let f = g.can id (sym (rest id ne) ∙ p) in
          (f.0, kept_exchanged masks left chosen f.0 free wider card id keeps f.1))
          (cases_eq id held);
    }
