-- What does an observation show of its game? Each card that was played or discarded, and no card but the game's own. So how
-- the game stands can be read off what a viewer has observed.
use Rattle.std.proofs.Common.{◌≡◌, ℕ, ◌<◌, ◌≤◌, ◌/◌, ◌⊎◌, inl, inr, Bool, true, false, cond, List, [], ◌∷◌, ◌++◌, zero, suc, refl, ap, arith, sym, ◌∙◌, length, subst, Some, None, Option}
use Rattle.std.specs.Prelude.{◌==◌, ◌||◌, IfSome, is_some, map, slice_get, slice_index_or, unwrap_or}
use Rattle.std.specs.List.{list_any, range_with_len}
use Rattle.std.proofs.Math.ListN.{get_or-eq_default}
use Rattle.std.proofs.lemmas.Bool.{cases_lt}
use Rattle.std.proofs.lemmas.List.{map-append}
use Rattle.std.proofs.lemmas.List.Folds.{list_any-append}
use Rattle.std.proofs.lemmas.List.FromFn.{get_or-map-range_with_len, length-map-range_with_len}
use Rattle.hb_rules.specs.declared.acts.Act.{Act}
use Rattle.hb_rules.specs.declared.acts.Action.{Action}
use Rattle.hb_rules.specs.declared.acts.Action.TheVariants as action
use Rattle.hb_rules.specs.declared.acts.EndHow.{EndHow}
use Rattle.hb_rules.specs.declared.events.Event.{Event}
use Rattle.hb_rules.specs.declared.setups.Setup.{Setup}
use Rattle.hb_rules.specs.declared.suits.Identity.{Identity}
use Rattle.hb_rules.specs.declared.variants.Variant.{Variant}
use Rattle.hb_rules.specs.Cards.{cards, copies, count_of}
use Rattle.hb_rules.specs.Observed.{Observed, observed}
use Rattle.hb_rules.specs.Setup.{Position, card, deal_size, hand_size}
use Rattle.hb_rules.specs.Hands.{is_gone, joins}
use Rattle.hb_rules.specs.Result.{ended}
use Rattle.hb_rules.specs.Events.{blank, blanked, caller, drawn_event, draws, ends, events, in_blind, observation, told}
use Rattle.hb_sight.specs.Seen.{seen_card, seen_deck, seen_position, shown_at}
use Rattle.hb_sight.proofs.Agreement.{SameGone, with_cards}
use Rattle.hb_sight.proofs.NamedActs.{acts_of-observation}
use Rattle.std.proofs.lemmas.Bool.{eqb-true}

-- the card is the game's, where there is one
abbrev IsOwn : Setup → ℕ → Option Identity → Type 0
IsOwn g order shown = IfSome shown (λ id. id ≡ card g order)

-- the events show at an order no card but the game's
abbrev ShowOwn : Setup → ℕ → List Event → Type 0
ShowOwn g order [] = Unit {0}
ShowOwn g order (e ∷ es) = IsOwn g order (shown_at order e) × ShowOwn g order es

own-append : (g : Setup) (order : ℕ) (xs ys : List Event) → ShowOwn g order xs → ShowOwn g order ys → ShowOwn g order (xs ++ ys)
own-append g order [] ys a b = b
own-append g order (x ∷ xs) ys a b = (a.0, own-append g order xs ys a.1 b)

own-at : (g : Setup) (k order : ℕ) → IsOwn g order (cond (k == order) (Some (card g k)) None)
own-at g k order = pick (k == order) refl
  where
    pick : (b : Bool) → (k == order) ≡ b → IsOwn g order (cond b (Some (card g k)) None)
    pick true at = ap (card g) (eqb-true k order at)
    pick false at = tt

own-drawn : (blind : ℕ) (g : Setup) (seat k order : ℕ) → IsOwn g order (shown_at order (blanked blind (drawn_event g seat k)))
own-drawn blind g seat k order = pick (in_blind blind seat)
  where
    same-none : (b : Bool) → IsOwn g order (cond b None None)
    same-none true = tt
    same-none false = tt

    pick : (hidden : Bool) → IsOwn g order (cond (k == order) (cond hidden None (Some (card g k))) None)
    pick true = same-none (k == order)
    pick false = own-at g k order

own-deal : (blind : ℕ) (g : Setup) (order : ℕ) (orders : List ℕ)
    → ShowOwn g order (blank blind (map (λ k. drawn_event g (k / hand_size g) k) orders))
own-deal blind g order [] = tt
own-deal blind g order (k ∷ orders) = (own-drawn blind g (k / hand_size g) k order, own-deal blind g order orders)

own-told : (blind : ℕ) (g : Setup) (order : ℕ) (past : List Act) (who : ℕ) (a : Action)
    → ShowOwn g order (blank blind (told g past who a))
own-told blind g order past who (action.Play k) = (own-at g k order, tt)
own-told blind g order past who (action.Discard k) = (own-at g k order, tt)
own-told blind g order past who (action.Clue to clue) = (tt, tt)
own-told blind g order past who (action.End how) = tt

own-draws : (blind : ℕ) (g : Setup) (order who : ℕ) (next : Option ℕ) → ShowOwn g order (blank blind (draws g who next))
own-draws blind g order who None = tt
own-draws blind g order who (Some k) = (own-drawn blind g who k order, tt)

own-get : (xs : List Identity) (d : Identity) (k : ℕ) → IfSome (slice_get xs k) (λ id. id ≡ slice_index_or xs k d)
own-get [] d k = tt
own-get (x ∷ xs) d zero = refl
own-get (x ∷ xs) d (suc k) = own-get xs d k

own-ends : (blind : ℕ) (g : Setup) (order : ℕ) (past : List Act) (by : Option ℕ) (how : Option EndHow)
    → ShowOwn g order (blank blind (ends g past by how))
own-ends blind g order past by None = tt
own-ends blind g order past by (Some how) = (tt, (own-get g.deck.items (record { suit = 0; rank = 0 }) order, tt))

-- what a blind set observes of one act more
pub act-observation : (blind : ℕ) (g : Setup) (past : List Act) (act : Act) → observation blind g (act ∷ past)
    ≡ observation blind g past
    ++ (blank blind (told g past act.who act.action) ++ blank blind (draws g act.who (joins g past act))
    ++ blank blind (ends g (act ∷ past) (caller act.who act.action) (ended g (act ∷ past))))
act-observation blind g past act =
    let t : List Event = told g past act.who act.action in
    let d : List Event = draws g act.who (joins g past act) in
    let e : List Event = ends g (act ∷ past) (caller act.who act.action) (ended g (act ∷ past)) in
    map-append (blanked blind) (events g past) (t ++ d ++ e)
    ∙ ap (λ xs. observation blind g past ++ xs) (map-append (blanked blind) (t ++ d) e
    ∙ ap (λ xs. xs ++ blank blind e) (map-append (blanked blind) t d))

own-observation : (blind : ℕ) (g : Setup) (order : ℕ) (past : List Act) → ShowOwn g order (observation blind g past)
own-observation blind g order [] = own-deal blind g order (range_with_len 0 (deal_size g))
own-observation blind g order (act ∷ past) =
    let t : List Event = blank blind (told g past act.who act.action) in
    let d : List Event = blank blind (draws g act.who (joins g past act)) in
    let e : List Event = blank blind (ends g (act ∷ past) (caller act.who act.action) (ended g (act ∷ past))) in
    subst (ShowOwn g order) (sym (act-observation blind g past act))
    (own-append g order (observation blind g past) (t ++ d ++ e) (own-observation blind g order past)
    (own-append g order (t ++ d) e
    (own-append g order t d (own-told blind g order past act.who act.action) (own-draws blind g order act.who (joins g past act)))
    (own-ends blind g order (act ∷ past) (caller act.who act.action) (ended g (act ∷ past)))))

-- the events show some card at an order
abbrev pub shows : ℕ → List Event → Bool
shows order es = list_any (λ e. is_some (shown_at order e)) es

-- two lists of events show what either of them does
pub shows-append : (order : ℕ) (xs ys : List Event) → shows order (xs ++ ys) ≡ (shows order xs || shows order ys)
shows-append order xs ys = list_any-append (λ e. is_some (shown_at order e)) xs ys

-- what is told of the action that removes an order shows its card
shows-told : (blind : ℕ) (g : Setup) (order : ℕ) (past : List Act) (who : ℕ) (a : Action)
    → is_gone (record { who = who; action = a } ∷ past) order ≡ true → (shows order (blank blind (told g past who a)) || is_gone past order)
    ≡ true
shows-told blind g order past who (action.Play k) h = pick (k == order) h
  where
    pick : (b : Bool) → (b || is_gone past order) ≡ true
        → ((is_some (cond b (Some (card g k)) None) || false) || is_gone past order) ≡ true
    pick true h = refl
    pick false h = h
shows-told blind g order past who (action.Discard k) h = pick (k == order) h
  where
    pick : (b : Bool) → (b || is_gone past order) ≡ true
        → ((is_some (cond b (Some (card g k)) None) || false) || is_gone past order) ≡ true
    pick true h = refl
    pick false h = h
shows-told blind g order past who (action.Clue to clue) h = h
shows-told blind g order past who (action.End how) h = h

true-false : true ≡ false → ⊥
true-false h = grind (arith, h)

-- each order that was played or discarded is shown
shows-gone : (blind : ℕ) (g : Setup) (order : ℕ) (past : List Act) → is_gone past order ≡ true
    → shows order (observation blind g past) ≡ true
shows-gone blind g order [] h = absurd (grind (arith, h))
shows-gone blind g order (act ∷ past) h =
    let t : List Event = blank blind (told g past act.who act.action) in
    let d : List Event = blank blind (draws g act.who (joins g past act)) in
    let e : List Event = blank blind (ends g (act ∷ past) (caller act.who act.action) (ended g (act ∷ past))) in
    ap (shows order) (act-observation blind g past act) ∙ (shows-append order (observation blind g past) (t ++ d ++ e)
    ∙ (ap (λ b. shows order (observation blind g past) || b)
    (shows-append order (t ++ d) e ∙ ap (λ b. b || shows order e) (shows-append order t d))
    ∙ join (shows order (observation blind g past)) (shows order t) (shows order d) (shows order e) (is_gone past order)
    (shows-told blind g order past act.who act.action h) (shows-gone blind g order past)))
  where
    join : (before here later end gone : Bool) → (here || gone) ≡ true → (gone ≡ true → before ≡ true)
        → (before || (here || later || end)) ≡ true
    join true here later end gone h ih = refl
    join false true later end gone h ih = refl
    join false false later end gone h ih = absurd (true-false (sym (ih h)))

-- a card that is shown is the game's
shown-card : (g : Setup) (order : ℕ) (es : List Event) → ShowOwn g order es → shows order es ≡ true → seen_card es order ≡ card g order
shown-card g order [] own h = absurd (grind (arith, h))
shown-card g order (e ∷ es) own h = pick (shown_at order e) own.0 h (shown-card g order es own.1)
  where
    pick : (shown : Option Identity) → IsOwn g order shown → (is_some shown || shows order es) ≡ true
        → (shows order es ≡ true → seen_card es order ≡ card g order) → unwrap_or shown (seen_card es order) ≡ card g order
    pick (Some id) own-id h ih = own-id
    pick None own-id h ih = ih h

copies-cards : (v : Variant) (id : Identity) → copies v id ≡ count_of id (cards v)
unfolding copies
copies-cards v id = refl

-- the deck that is seen is as long as the variant has cards
pub length-seen_deck : (seen : Observed) → length (seen_deck seen) ≡ length (cards seen.variant)
length-seen_deck seen = length-map-range_with_len (seen_card seen.events) 0 (length (cards seen.variant))

-- and so as long as the game's own, if that has as many cards as the variant
pub seen_deck-long : (blind : ℕ) (p : Position) → length p.setup.deck.items ≡ length (cards p.setup.variant)
    → length (seen_deck (observed blind p)) ≡ length p.setup.deck.items
seen_deck-long blind p own = length-seen_deck (observed blind p) ∙ sym own

-- the deck that is seen has each card that the observation shows
pub seen_deck-shown : (blind : ℕ) (p : Position) (order : ℕ) → length p.setup.deck.items ≡ length (cards p.setup.variant)
    → shows order (observation blind p.setup p.past) ≡ true
    → card (with_cards p.setup (seen_deck (observed blind p))) order ≡ card p.setup order
seen_deck-shown blind p order own there = pick (cases_lt order (length (cards p.setup.variant)))
  where
    pick : (order < length (cards p.setup.variant)) ⊎ (length (cards p.setup.variant) ≤ order)
        → card (with_cards p.setup (seen_deck (observed blind p))) order ≡ card p.setup order
    pick (inl low) = get_or-map-range_with_len (seen_card (observation blind p.setup p.past)) 0 (length (cards p.setup.variant)) order order
        (record { suit = 0; rank = 0 }) low (omega arith)
        ∙ shown-card p.setup order (observation blind p.setup p.past) (own-observation blind p.setup order p.past) there
    pick (inr far) =
        let long : length (seen_deck (observed blind p)) ≡ length (cards p.setup.variant) = length-seen_deck (observed blind p) in
        get_or-eq_default (seen_deck (observed blind p)) (record { suit = 0; rank = 0 }) (omega (arith, long, far))
        ∙ sym (get_or-eq_default p.setup.deck.items (record { suit = 0; rank = 0 }) (omega (arith, own, far)))

-- so it has each card that was played or discarded
pub seen_deck-gone : (blind : ℕ) (p : Position) → length p.setup.deck.items ≡ length (cards p.setup.variant)
    → SameGone p.setup p.past (seen_deck (observed blind p))
seen_deck-gone blind p own order gone = seen_deck-shown blind p order own (shows-gone blind p.setup order p.past gone)

-- the game that is seen is the game's own with the deck that is seen
pub seen_position-is : (blind : ℕ) (p : Position)
    → seen_position (observed blind p) ≡ record { setup = with_cards p.setup (seen_deck (observed blind p)); past = p.past }
seen_position-is blind p =
    ap (λ (acts : List Act). record { setup = with_cards p.setup (seen_deck (observed blind p)); past = acts })
    (acts_of-observation blind p.setup p.past)
