-- What do decks of one length that agree on the cards played and discarded share? Who holds what does not depend on the cards,
-- and every count of a history is the same under both.
use Rattle.std.proofs.Common.{◌≡◌, ℕ, ◌+◌, Bool, true, false, cond, List, [], ◌∷◌, refl, ap, arith, sym, ◌∙◌, length}
use Rattle.std.specs.Prelude.{if◌then◌else◌, filter, count_by}
use Rattle.std.specs.List.{list_all, range_with_len}
use Rattle.std.proofs.lemmas.List.Sums.{sum_by-cons}
use Rattle.hb_rules.specs.declared.acts.Act.{Act}
use Rattle.hb_rules.specs.declared.acts.Action.{Action}
use Rattle.hb_rules.specs.declared.acts.Action.TheVariants as action
use Rattle.hb_rules.specs.declared.setups.Setup.{Setup}
use Rattle.hb_rules.specs.declared.suits.Identity.{Identity}
use Rattle.hb_rules.specs.Cards.{same_identity}
use Rattle.hb_rules.specs.Setup.{card}
use Rattle.hb_rules.specs.Hands.{joins, receiver, hand, holder, is_at, is_gone}
use Rattle.hb_rules.specs.Result.{ended, is_stuck, height, lost, lost_copies, strikes, tokens, emptied, fits}

-- the same game with another deck
abbrev pub with_cards : Setup → List Identity → Setup
with_cards g deck = record g { deck = record { items = deck } }

-- who receives what does not depend on the cards
pub receiver-same : (g : Setup) (deck : List Identity) → length deck ≡ length g.deck.items → (past : List Act) (order : ℕ)
    → receiver (with_cards g deck) past order ≡ receiver g past order
receiver-same g deck long [] order = refl
receiver-same g deck long (act ∷ past) order = rw (receiver-same g deck long past order, long) refl

-- nor does who holds what
pub holder-same : (g : Setup) (deck : List Identity) → length deck ≡ length g.deck.items → (past : List Act) (order : ℕ)
    → holder (with_cards g deck) past order ≡ holder g past order
holder-same g deck long past order = rw (receiver-same g deck long past order) refl

-- nor what comes into a hand
pub joins-same : (g : Setup) (deck : List Identity) → length deck ≡ length g.deck.items → (past : List Act) (act : Act)
    → joins (with_cards g deck) past act ≡ joins g past act
joins-same g deck long past act = rw long refl

-- tests that agree keep the same numbers
pub filter-same : (p q : ℕ → Bool) → ((k : ℕ) → p k ≡ q k) → (xs : List ℕ) → filter p xs ≡ filter q xs
filter-same p q e [] = refl
filter-same p q e (x ∷ xs) = rw (e x, filter-same p q e xs) refl

-- nor does a hand depend on the cards
pub hand-same : (g : Setup) (deck : List Identity) → length deck ≡ length g.deck.items → (past : List Act) (seat : ℕ)
    → hand (with_cards g deck) past seat ≡ hand g past seat
hand-same g deck long past seat =
    rw long (filter-same _ _ (λ order. ap (λ o. is_at o seat) (holder-same g deck long past order))
    (range_with_len 0 (length g.deck.items)))

-- the counts of a history under two decks
pub record SameCounts (g h : Setup) (past : List Act) : Type 0 where
  pub heights : (suit : ℕ) → height g past suit ≡ height h past suit
  pub lost : lost g past ≡ lost h past
  pub copies : (id : Identity) → lost_copies g past id ≡ lost_copies h past id
  pub strikes : strikes g past ≡ strikes h past
  pub tokens : tokens g past ≡ tokens h past
  pub emptied : emptied g past ≡ emptied h past

count-lost : (p q : ℕ → Bool) (b : Bool) (order : ℕ) (xs ys : List ℕ) → p order ≡ q order → count_by p xs ≡ count_by q ys
    → count_by p (if b then xs else order ∷ xs) ≡ count_by q (if b then ys else order ∷ ys)
count-lost p q true order xs ys e h = h
count-lost p q false order xs ys e h =
    sum_by-cons (λ k. cond (p k) 1 0) order xs
    ∙ (ap (λ b. cond b 1 0 + count_by p xs) e
    ∙ (ap (λ n. cond (q order) 1 0 + n) h
    ∙ sym (sum_by-cons (λ k. cond (q k) 1 0) order ys)))

counts-play : (g : Setup) (deck : List Identity) (past : List Act) (who order : ℕ) → length deck ≡ length g.deck.items
    → card (with_cards g deck) order ≡ card g order → SameCounts (with_cards g deck) g past
    → SameCounts (with_cards g deck) g (record { who = who; action = action.Play order } ∷ past)
counts-play g deck past who order long e ih =
    let h : Setup = with_cards g deck in
    let f : fits h past order ≡ fits g past order = rw (e, ih.heights (card g order).suit) refl in record {
      heights = λ s. rw (e, ih.heights s) refl;
      lost = rw (f, ih.lost) refl;
      copies = λ id. ap (λ b. count_by (λ k. same_identity id (card h k)) (if b then lost h past else order ∷ lost h past)) f
          ∙ count-lost (λ k. same_identity id (card h k)) (λ k. same_identity id (card g k)) (fits g past order) order _ _
          (ap (same_identity id) e) (ih.copies id);
      strikes = rw (f, ih.strikes) refl;
      tokens = rw (f, ih.tokens, e) refl;
      emptied = rw (ih.emptied, long) refl;
    }

counts-discard : (g : Setup) (deck : List Identity) (past : List Act) (who order : ℕ) → length deck ≡ length g.deck.items
    → card (with_cards g deck) order ≡ card g order → SameCounts (with_cards g deck) g past
    → SameCounts (with_cards g deck) g (record { who = who; action = action.Discard order } ∷ past)
counts-discard g deck past who order long e ih = let h : Setup = with_cards g deck in record {
  heights = ih.heights;
  lost = rw ih.lost refl;
  copies = λ id. count-lost (λ k. same_identity id (card h k)) (λ k. same_identity id (card g k)) false order (lost h past) (lost g past)
      (ap (same_identity id) e) (ih.copies id);
  strikes = ih.strikes;
  tokens = rw ih.tokens refl;
  emptied = rw (ih.emptied, long) refl;
}

-- what was gone before an act is gone after it
pub gone-before : (past : List Act) (act : Act) (order : ℕ) → is_gone past order ≡ true → is_gone (act ∷ past) order ≡ true
gone-before past act order h = step act.action
  where
    step : (a : Action) → is_gone (record { who = act.who; action = a } ∷ past) order ≡ true
    step (action.Play k) = grind (arith, h)
    step (action.Discard k) = grind (arith, h)
    step (action.Clue to clue) = h
    step (action.End how) = h

-- the cards that were played and discarded are the same
abbrev pub SameGone : Setup → List Act → List Identity → Type 0
SameGone g past deck = (order : ℕ) → is_gone past order ≡ true → card (with_cards g deck) order ≡ card g order

-- then all counts are
pub same-counts : (g : Setup) (deck : List Identity) → length deck ≡ length g.deck.items → (past : List Act) → SameGone g past deck
    → SameCounts (with_cards g deck) g past
same-counts g deck long [] gone = record {
  heights = λ s. refl;
  lost = refl;
  copies = λ id. refl;
  strikes = refl;
  tokens = refl;
  emptied =
      rw long refl;
}
same-counts g deck long (act ∷ past) gone = step act.action gone
    (same-counts g deck long past (λ order h. gone order (gone-before past act order h)))
  where
    step : (a : Action) → SameGone g (record { who = act.who; action = a } ∷ past) deck → SameCounts (with_cards g deck) g past
        → SameCounts (with_cards g deck) g (record { who = act.who; action = a } ∷ past)
    step (action.Play order) gone ih = counts-play g deck past act.who order long (gone order (grind arith)) ih
    step (action.Discard order) gone ih = counts-discard g deck past act.who order long (gone order (grind arith)) ih
    step (action.Clue to clue) gone ih = record {
      heights = ih.heights;
      lost = ih.lost;
      copies = ih.copies;
      strikes = ih.strikes;
      tokens = rw ih.tokens refl;
      emptied = rw (ih.emptied, long) refl;
    }
    step (action.End how) gone ih = record {
      heights = ih.heights;
      lost = ih.lost;
      copies = ih.copies;
      strikes = ih.strikes;
      tokens = ih.tokens;
      emptied = rw (ih.emptied, long) refl;
    }

list_all-same : (p q : ℕ → Bool) → ((k : ℕ) → p k ≡ q k) → (xs : List ℕ) → list_all p xs ≡ list_all q xs
list_all-same p q e [] = refl
list_all-same p q e (x ∷ xs) = rw (e x, list_all-same p q e xs) refl

-- and so is the end
pub ended-same : (g : Setup) (deck : List Identity) (past : List Act) → SameCounts (with_cards g deck) g past
    → ended (with_cards g deck) past ≡ ended g past
unfolding ended
ended-same g deck past e =
    let stuck : (s : ℕ) → is_stuck (with_cards g deck) past s ≡ is_stuck g past s =
    λ s. rw (e.heights s, e.copies (record { suit = s; rank = height g past s + 1 })) refl in
    rw (e.strikes, e.emptied, list_all-same (is_stuck (with_cards g deck) past) (is_stuck g past) stuck) refl
