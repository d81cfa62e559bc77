-- The loops that grow the set of identities that cards can be given.
use Rattle.std.proofs.Common.{true, false, Option, Some, None, ◌≡◌, ◌≢◌, ℕ, ◌+◌, ◌^◌, ◌<◌, ◌≤◌, ⊎_elim, List, length, slice_index, sym, ap, subst, arith}
use Rattle.std.proofs.lemmas.Bool.{cases_eq}
use Rattle.std.specs.Option.{MatchOption, is_some}
use Rattle.hb_sets.specs.Sets.{bit, Has, IsDisjoint, IsLeastCommon}
use Rattle.hb_sets.proofs.Bits.{bit-zero, put_known, member-lt}
use Rattle.hb_match.specs.Matching.{IsAssignment}
use Rattle.hb_match.specs.Exchange.{Gives}
use Rattle.hb_match.specs.Placing.{CanMove, IsClosed}
use Rattle.hb_match.proofs.Exchanged.{gives_more, put_keeps}

-- each card that can be given the members of `goal` can be given those of `free`, which has grown from `before`. If it has
-- not, no card below n could move into it
pub record Grows (masks chosen : List ℕ) (goal before free n : ℕ) : Type 0 where
  pub gives : (left : List ℕ) (card : ℕ) → IsAssignment masks left chosen → card < length masks
      → Gives masks left chosen goal card → Gives masks left chosen free card
  pub keeps : (id : ℕ) → Has goal id → Has free id
  pub wider : before ≤ free
  pub fits : free < 2 ^ 64
  pub closed : before ≡ free → IsClosed masks chosen free n

-- a search that begins has closed nothing, unless there is nothing to move into
pub grows_start : (masks chosen : List ℕ) (goal n : ℕ) → goal < 2 ^ 64 → Grows masks chosen goal 0 goal n
grows_start masks chosen goal n fits = record {
  gives = λ left card a h g. g;
  keeps = λ id p. p;
  wider = omega arith;
  fits = fits;
  closed = λ e k h out id of_mask p. omega (arith, p, bit-zero id, ap (λ s. bit s id) e);
}

-- another pass
pub grows_again : (masks chosen : List ℕ) (goal before free n : ℕ) → Grows masks chosen goal before free n
    → Grows masks chosen goal free free 0
grows_again masks chosen goal before free n g = record {
  gives = g.gives;
  keeps = g.keeps;
  wider = omega arith;
  fits = g.fits;
  closed = λ e k h. absurd (omega arith);
}

none_common : (found : Option ℕ) (P : Type 0) (Q : ℕ → Type 0) → MatchOption found P Q → is_some found ≡ false → P
none_common None P Q p e = p
none_common (Some k) P Q q e = absurd (cc)

some_common : (found : Option ℕ) (P : Type 0) (Q : ℕ → Type 0) → MatchOption found P Q → is_some found ≡ true → (k : ℕ) × Q k
some_common None P Q p e = absurd (cc)
some_common (Some k) P Q q e = (k, q)

-- a card whose mask has no member of the set
pub grows_past : (masks chosen : List ℕ) (goal before free n : ℕ) (found : Option ℕ) → Grows masks chosen goal before free n
    → MatchOption found (IsDisjoint (slice_index masks n) free) (IsLeastCommon (slice_index masks n) free) → is_some found ≡ false
    → Grows masks chosen goal before free (n + 1)
grows_past masks chosen goal before free n found g is none = record {
  gives = g.gives;
  keeps = g.keeps;
  wider = g.wider;
  fits = g.fits;
  closed = λ e k h out id p. ⊎_elim
      (λ (q : k ≡ n). none_common found _ _ is none id (let P : ℕ → Type 0 = λ j. Has (slice_index masks j) id in subst P q p))
      (λ (ne : k ≢ n). g.closed e k (omega arith) out id p)
      (cases_eq k n);
}

grows_same : (masks chosen : List ℕ) (goal before free n : ℕ) → Grows masks chosen goal before free n
    → Has free (slice_index chosen n) → Grows masks chosen goal before free (n + 1)
grows_same masks chosen goal before free n g there = record {
  gives = g.gives;
  keeps = g.keeps;
  wider = g.wider;
  fits = g.fits;
  closed = λ e k h out. ⊎_elim
      (λ (q : k ≡ n). absurd (out (rw q there)))
      (λ (ne : k ≢ n). g.closed e k (omega arith) out)
      (cases_eq k n);
}

grows_new : (masks chosen : List ℕ) (goal before free wider n to : ℕ) → Grows masks chosen goal before free n
    → CanMove masks chosen free n to
    → Has wider (slice_index chosen n) → ((j : ℕ) → j ≢ slice_index chosen n → bit wider j ≡ bit free j)
    → free < wider → wider < 2 ^ 64 → Grows masks chosen goal before wider (n + 1)
grows_new masks chosen goal before free wider n to g can put rest larger fits = record {
  gives = λ left card a h start. gives_more masks left chosen free wider card n to a h can put rest (g.gives left card a h start);
  keeps = λ id p. put_keeps free wider (slice_index chosen n) put rest id (g.keeps id p);
  wider = omega (arith, g.wider);
  fits = fits;
  closed = λ e. absurd (omega (arith, g.wider));
}

-- a card that could take a member of the set: what it holds joins the set, if it is not there already
pub grows_more : (masks chosen : List ℕ) (goal before free wider n : ℕ) (found : Option ℕ)
    → Grows masks chosen goal before free n → n < length chosen
    → MatchOption found (IsDisjoint (slice_index masks n) free) (IsLeastCommon (slice_index masks n) free) → is_some found ≡ true
    → Has wider (slice_index chosen n) → ((j : ℕ) → j ≢ slice_index chosen n → bit wider j ≡ bit free j)
    → (¬ Has free (slice_index chosen n) → free < wider) → wider < 2 ^ 64 → Grows masks chosen goal before wider (n + 1)
grows_more masks chosen goal before free wider n found g below is some put rest larger fits = ⊎_elim
    (λ (there : Has free (slice_index chosen n)).
    let same : free ≡ wider = sym (put_known free wider (slice_index chosen n) there put rest) in
    let P : ℕ → Type 0 = λ s. Grows masks chosen goal before s (n + 1) in
    subst P same (grows_same masks chosen goal before free n g there))
    (λ (new : ¬ Has free (slice_index chosen n)). let met = some_common found _ _ is some in
    grows_new masks chosen goal before free wider n met.0 g
    (record {
      in_range = below;
      outside = new;
      in_mask = met.1.in_first;
      inside = met.1.in_second;
      small = member-lt free 64 met.0 g.fits met.1.in_second;
    }) put rest (larger new) fits)
    (cases_eq (bit free (slice_index chosen n)) 1)
