-- The tests of a deck, of a legal history and of a deal say what their records say.
use Rattle.std.proofs.Common.{◌≡◌, ℕ, ◌+◌, ◌≤◌, ◌⊎◌, inl, inr, Bool, true, false, cond, List, [], ◌∷◌, ◌++◌, ◌∙◌, refl, arith, subst, sym, zero, suc, zero-add, None, Some, Option}
use Rattle.std.specs.Prelude.{◌==◌, ◌&&◌, is_none, if◌then◌else◌}
use Rattle.std.specs.List.{list_all}
use Rattle.std.proofs.lemmas.Bool.{and_parts, and_from}
use Rattle.std.proofs.lemmas.List.Sums.{sum_by-cons}
use Rattle.hb_rules.specs.declared.acts.Act.{Act}
use Rattle.hb_rules.specs.declared.acts.Rule.{Rule}
use Rattle.hb_rules.specs.declared.setups.Setup.{Setup}
use Rattle.hb_rules.specs.declared.suits.Identity.{Identity}
use Rattle.hb_rules.specs.declared.variants.Variant.{Variant}
use Rattle.hb_rules.specs.Cards.{IsDeck, cards, copies, count_of, is_deck, same_identity}
use Rattle.hb_rules.specs.Deals.{IsDeal, is_deal}
use Rattle.hb_rules.specs.Events.{acts_of, observation}
use Rattle.hb_rules.specs.Observed.{Observed, setup_with}
use Rattle.hb_rules.specs.Legality.{Legal, is_legal, rule}
use Rattle.hb_rules.specs.Same.{same_events}
use Rattle.hb_rules.proofs.Identities.{same_identity-true}
use Rattle.std.proofs.lemmas.List.Folds.{list_all-append}
use Rattle.hb_rules.proofs.SameLemmas.{tells-events}
use Rattle.std.proofs.lemmas.Bool.{eqb-true}

-- one card more in front
pub count-cons : (id x : Identity) (xs : List Identity) → count_of id (x ∷ xs) ≡ (if same_identity id x then 1 else 0) + count_of id xs
count-cons id x xs = sum_by-cons (λ y. cond (same_identity id y) 1 0) x xs

-- a card that is not the first stands behind it
pub counted-later : (id x : Identity) (xs : List Identity) → same_identity id x ≡ false → 1 ≤ count_of id (x ∷ xs) → 1 ≤ count_of id xs
counted-later id x xs other some =
    let c : count_of id (x ∷ xs) ≡ count_of id xs = count-cons id x xs ∙ rw other (zero-add (count_of id xs)) in
    omega (arith, c)

-- what all cards of a list pass, an identity among them passes
list_all-counted : (p : Identity → Bool) (id : Identity) (xs : List Identity) → list_all p xs ≡ true → 1 ≤ count_of id xs → p id ≡ true
list_all-counted p id [] all some = absurd (omega arith)
list_all-counted p id (x ∷ xs) all some = pick (same_identity id x) refl (list_all-counted p id xs)
  where
    parts : (p x ≡ true) × (list_all p xs ≡ true)
    parts = and_parts (p x) (list_all p xs) all

    pick : (b : Bool) → same_identity id x ≡ b → (list_all p xs ≡ true → 1 ≤ count_of id xs → p id ≡ true) → p id ≡ true
    pick true e ih = subst (λ y. p y ≡ true) (sym (same_identity-true id x e)) parts.0
    pick false e ih = ih parts.1 (counted-later id x xs e some)

all-pass : (p : Identity → Bool) → ((id : Identity) → p id ≡ true) → (xs : List Identity) → list_all p xs ≡ true
all-pass p h [] = refl
all-pass p h (x ∷ xs) = and_from (p x) (list_all p xs) (h x) (all-pass p h xs)

none-or-some : (n : ℕ) → (n ≡ 0) ⊎ (1 ≤ n)
none-or-some zero = inl refl
none-or-some (suc n) = inr (omega arith)

-- the test of a deck
pub deck-is : (v : Variant) (deck : List Identity) → is_deck v deck ≡ true → IsDeck v deck
unfolding copies
deck-is v deck h id = pick (none-or-some (count_of id (cards v))) (none-or-some (count_of id deck))
  where
    p : Identity → Bool
    p = λ id. count_of id deck == copies v id

    parts : (list_all p (cards v) ≡ true) × (list_all p deck ≡ true)
    parts = and_parts (list_all p (cards v)) (list_all p deck) (rw list_all-append at h)

    pick : (count_of id (cards v) ≡ 0) ⊎ (1 ≤ count_of id (cards v))
        → (count_of id deck ≡ 0) ⊎ (1 ≤ count_of id deck) → count_of id deck ≡ copies v id
    pick (inr some) other = eqb-true (count_of id deck) (copies v id) (list_all-counted p id (cards v) parts.0 some)
    pick (inl none) (inr some) = eqb-true (count_of id deck) (copies v id) (list_all-counted p id deck parts.1 some)
    pick (inl none) (inl none') = cc

-- and a deck passes it
pub deck-tests : (v : Variant) (deck : List Identity) → IsDeck v deck → is_deck v deck ≡ true
deck-tests v deck full = all-pass (λ id. count_of id deck == copies v id) (λ id. rw full (own (copies v id))) (cards v ++ deck)
  where
    own : (n : ℕ) → (n == n) ≡ true
    own n = grind arith

-- the test of a legal history
none-is : (o : Option Rule) → is_none o ≡ true → o ≡ None
none-is None h = refl
none-is (Some r) h = cc

legal-is : (g : Setup) (past : List Act) → is_legal g past ≡ true → Legal g past
legal-is g [] h = tt
legal-is g (act ∷ past) h =
    let p : (is_none (rule g past act) ≡ true) × (is_legal g past ≡ true) =
    and_parts (is_none (rule g past act)) (is_legal g past) h in
    (none-is (rule g past act) p.0, legal-is g past p.1)

legal-tests : (g : Setup) (past : List Act) → Legal g past → is_legal g past ≡ true
legal-tests g [] h = refl
legal-tests g (act ∷ past) h = and_from (is_none (rule g past act)) (is_legal g past) (rw h.0 refl) (legal-tests g past h.1)

-- the test of a deal
pub deal-is : (seen : Observed) (deck : List Identity) → is_deal seen deck ≡ true → IsDeal seen deck
unfolding is_deal
deal-is seen deck h =
    let g : Setup = setup_with seen deck in
    let a : ((is_deck seen.variant deck && is_legal g (acts_of seen.events)) ≡ true)
    × (same_events (observation seen.blind g (acts_of seen.events)) seen.events ≡ true) =
    and_parts (is_deck seen.variant deck && is_legal g (acts_of seen.events))
    (same_events (observation seen.blind g (acts_of seen.events)) seen.events) h in
    let b : (is_deck seen.variant deck ≡ true) × (is_legal g (acts_of seen.events) ≡ true) =
    and_parts (is_deck seen.variant deck) (is_legal g (acts_of seen.events)) a.0 in
    record {
      full = deck-is seen.variant deck b.0;
      legal = legal-is g (acts_of seen.events) b.1;
      same = (tells-events (observation seen.blind g (acts_of seen.events)) seen.events).0 a.1;
    }

-- and a deal passes the test
pub deal-tests : (seen : Observed) (deck : List Identity) → IsDeal seen deck → is_deal seen deck ≡ true
unfolding is_deal
deal-tests seen deck d =
    let g : Setup = setup_with seen deck in
    and_from (is_deck seen.variant deck && is_legal g (acts_of seen.events))
    (same_events (observation seen.blind g (acts_of seen.events)) seen.events)
    (and_from (is_deck seen.variant deck) (is_legal g (acts_of seen.events))
    (deck-tests seen.variant deck d.full) (legal-tests g (acts_of seen.events) d.legal))
    ((tells-events (observation seen.blind g (acts_of seen.events)) seen.events).1 d.same)
