-- Which decks give a game's observation while it runs? None but those that replay the history and have the
-- cards that are shown.
use Rattle.std.proofs.Common.{◌≡◌, ℕ, ◌+◌, ◌/◌, ◌<◌, ◌≤◌, Bool, true, false, List, [], ◌∷◌, ◌++◌, refl, ap, arith, sym, ◌∙◌, length, Some, None, Option, zero, suc}
use Rattle.std.specs.Prelude.{◌==◌, ◌||◌, is_some, if◌then◌else◌, map}
use Rattle.std.specs.List.{range_with_len}
use Rattle.std.proofs.lemmas.List.{append_assoc, map-append, length-map, length-append}
use Rattle.hb_rules.specs.declared.acts.Act.{Act}
use Rattle.hb_rules.specs.declared.acts.Action.{Action}
use Rattle.hb_rules.specs.declared.acts.Action.TheVariants as action
use Rattle.hb_rules.specs.declared.events.Event.{Event}
use Rattle.hb_rules.specs.declared.events.Event.TheVariants as event
use Rattle.hb_rules.specs.declared.setups.Setup.{Setup}
use Rattle.hb_rules.specs.declared.suits.Identity.{Identity}
use Rattle.hb_rules.specs.Setup.{card, deal_size, hand_size}
use Rattle.hb_rules.specs.Hands.{joins, receiver, is_at, is_gone}
use Rattle.hb_rules.specs.Result.{ended}
use Rattle.hb_rules.specs.Legality.{Legal, touched}
use Rattle.hb_rules.specs.Events.{events, bits, told, draws, ends, drawn_event, blank, blanked, observation, in_blind, caller}
use Rattle.hb_rules.proofs.Rules.{may_runs}
use Rattle.hb_sight.proofs.Agreement.{with_cards, joins-same}
use Rattle.hb_empathy.proofs.Replays.{Replays}
use Rattle.hb_empathy.proofs.TouchedCards.{touched-inj}
use Rattle.hb_empathy.proofs.ShownCards.{Shown, is_none}

split-append : (xs ys us vs : List Event) → length xs ≡ length us → xs ++ ys ≡ us ++ vs → (xs ≡ us) × (ys ≡ vs)
split-append [] ys [] vs l h = (refl, h)
split-append [] ys (u ∷ us) vs l h = absurd (omega arith)
split-append (x ∷ xs) ys [] vs l h = absurd (omega arith)
split-append (x ∷ xs) ys (u ∷ us) vs l h =
    let tail : xs ++ ys ≡ us ++ vs = cc in let head : x ≡ u = cc in
    let r : (xs ≡ us) × (ys ≡ vs) = split-append xs ys us vs (omega arith) tail in (rw (head, r.0) refl, r.1)

blanked-drawn-inj : (blind : ℕ) (g : Setup) (deck : List Identity) (seat order : ℕ)
    → blanked blind (drawn_event (with_cards g deck) seat order) ≡ blanked blind (drawn_event g seat order) → in_blind blind seat ≡ false
    → card (with_cards g deck) order ≡ card g order
blanked-drawn-inj blind g deck seat order e open_seat =
    let e' : event.Drawn seat order (Some (card (with_cards g deck) order)) ≡ event.Drawn seat order (Some (card g order)) =
    rw open_seat at e in cc

range-inj : (blind : ℕ) (f h : ℕ → Event) (a n : ℕ) → blank blind (map f (range_with_len a n)) ≡ blank blind (map h (range_with_len a n))
    → (k : ℕ) → a ≤ k → k < a + n → blanked blind (f k) ≡ blanked blind (h k)
range-inj blind f h a zero e k low high = absurd (omega arith)
range-inj blind f h a (suc n) e k low high =
    let first : blanked blind (f a) ≡ blanked blind (h a) = cc in
    let others : blank blind (map f (range_with_len (a + 1) n)) ≡ blank blind (map h (range_with_len (a + 1) n)) = cc in
    pick (k == a) refl first (λ far. range-inj blind f h (a + 1) n others k far (omega arith))
  where
    pick : (b : Bool) → (k == a) ≡ b → blanked blind (f a) ≡ blanked blind (h a) → (a + 1 ≤ k → blanked blind (f k) ≡ blanked blind (h k))
        → blanked blind (f k) ≡ blanked blind (h k)
    pick true e' first far = let q : k ≡ a = grind arith in rw q first
    pick false e' first far = far (grind arith)

told-long : (g : Setup) (deck : List Identity) (past : List Act) (who : ℕ) (a : Action)
    → length (told (with_cards g deck) past who a) ≡ length (told g past who a)
told-long g deck past who (action.Play order) = refl
told-long g deck past who (action.Discard order) = refl
told-long g deck past who (action.Clue to clue) = refl
told-long g deck past who (action.End how) = refl

draws-long : (g : Setup) (deck : List Identity) (who : ℕ) (next : Option ℕ)
    → length (draws (with_cards g deck) who next) ≡ length (draws g who next)
draws-long g deck who None = refl
draws-long g deck who (Some order) = refl

joined-long : (g : Setup) (deck : List Identity) → length deck ≡ length g.deck.items → (past : List Act) (act : Act)
    → length (draws (with_cards g deck) act.who (joins (with_cards g deck) past act)) ≡ length (draws g act.who (joins g past act))
joined-long g deck long past act = ap (λ o. length (draws (with_cards g deck) act.who o)) (joins-same g deck long past act)
    ∙ draws-long g deck act.who (joins g past act)

split-three : (blind : ℕ) (x y t u d e n m : List Event) → length x ≡ length y → length t ≡ length u → length d ≡ length e
    → blank blind (x ++ (t ++ d ++ n)) ≡ blank blind (y ++ (u ++ e ++ m)) → (blank blind x ≡ blank blind y) ×
    (blank blind t ≡ blank blind u) × (blank blind d ≡ blank blind e)
split-three blind x y t u d e n m lx lt ld h =
    let h' : blank blind x ++ (blank blind t ++ (blank blind d ++ blank blind n)) ≡ blank blind y ++
    (blank blind u ++ (blank blind e ++ blank blind m)) = simp (map-append, append_assoc) at h in
    let one : (blank blind x ≡ blank blind y) ×
    (blank blind t ++ (blank blind d ++ blank blind n) ≡ blank blind u ++ (blank blind e ++ blank blind m)) =
    split-append (blank blind x) (blank blind t ++ (blank blind d ++ blank blind n)) (blank blind y)
    (blank blind u ++ (blank blind e ++ blank blind m)) (long x y lx) h' in
    let two : (blank blind t ≡ blank blind u) × (blank blind d ++ blank blind n ≡ blank blind e ++ blank blind m) =
    split-append (blank blind t) (blank blind d ++ blank blind n) (blank blind u) (blank blind e ++ blank blind m) (long t u lt) one.1 in
    let three : (blank blind d ≡ blank blind e) × (blank blind n ≡ blank blind m) =
    split-append (blank blind d) (blank blind n) (blank blind e) (blank blind m) (long d e ld) two.1 in
    (one.0, two.0, three.0)
  where
    long : (a b : List Event) → length a ≡ length b → length (blank blind a) ≡ length (blank blind b)
    long a b l = length-map a (blanked blind) ∙ (l ∙ sym (length-map b (blanked blind)))

-- while both games run their events are as many
events-long : (g : Setup) (past : List Act) (deck : List Identity) → length deck ≡ length g.deck.items → Legal g past
    → Legal (with_cards g deck) past
    → is_some (ended g past) ≡ false → is_some (ended (with_cards g deck) past) ≡ false
    → length (events (with_cards g deck) past) ≡ length (events g past)
events-long g [] deck long legal legal' runs runs' =
    length-map (range_with_len 0 (deal_size g)) (λ order. drawn_event (with_cards g deck) (order / hand_size g) order)
    ∙ sym (length-map (range_with_len 0 (deal_size g)) (λ order. drawn_event g (order / hand_size g) order))
events-long g (act ∷ past) deck long legal legal' runs runs' =
    let h : Setup = with_cards g deck in
    let ih : length (events h past) ≡ length (events g past) =
    events-long g past deck long legal.1 legal'.1 (may_runs g past act.who act.action legal.0)
    (may_runs h past act.who act.action legal'.0) in
    let e : ends g (act ∷ past) (caller act.who act.action) (ended g (act ∷ past)) ≡ [] =
    ap (ends g (act ∷ past) (caller act.who act.action)) (is_none _ runs) in
    let e' : ends h (act ∷ past) (caller act.who act.action) (ended h (act ∷ past)) ≡ [] =
    ap (ends h (act ∷ past) (caller act.who act.action)) (is_none _ runs') in
    let t : length (told h past act.who act.action) ≡ length (told g past act.who act.action) = told-long g deck past act.who act.action in
    let d : length (draws h act.who (joins h past act)) ≡ length (draws g act.who (joins g past act)) = joined-long g deck long past act in
    rw (e, e') (simp length-append (omega arith))

gone-more : (g : Setup) (past : List Act) (deck : List Identity) (k order : ℕ) → card (with_cards g deck) k ≡ card g k
    → (is_gone past order ≡ true → card (with_cards g deck) order ≡ card g order) → (k == order || is_gone past order) ≡ true
    → card (with_cards g deck) order ≡ card g order
gone-more g past deck k order c others h = pick (k == order) refl h
  where
    pick : (b : Bool) → (k == order) ≡ b → (b || is_gone past order) ≡ true → card (with_cards g deck) order ≡ card g order
    pick true e h = let q : order ≡ k = grind arith in rw q c
    pick false e h = others h

-- blanking leaves what is told of an action
blank-told : (blind : ℕ) (g : Setup) (deck : List Identity) (past : List Act) (who : ℕ) (a : Action)
    → blank blind (told (with_cards g deck) past who a) ≡ blank blind (told g past who a) → told (with_cards g deck) past who a
    ≡ told g past who a
blank-told blind g deck past who (action.Play order) e = e
blank-told blind g deck past who (action.Discard order) e = e
blank-told blind g deck past who (action.Clue to clue) e = e
blank-told blind g deck past who (action.End how) e = e

-- a deck under which one more action is told alike replays it too
replays-more : (g : Setup) (past : List Act) (deck : List Identity) (who : ℕ) (a : Action) → deal_size g ≤ length g.deck.items
    → Replays g past deck
    → told (with_cards g deck) past who a ≡ told g past who a → Replays g (record { who = who; action = a } ∷ past) deck
replays-more g past deck who (action.Play k) dealt r e = record {
  long = r.long;
  gone = λ order h. let c : card (with_cards g deck) k ≡ card g k = cc in gone-more g past deck k order c (r.gone order) h;
  met = r.met;
}
replays-more g past deck who (action.Discard k) dealt r e = record {
  long = r.long;
  gone = λ order h. let c : card (with_cards g deck) k ≡ card g k = cc in gone-more g past deck k order c (r.gone order) h;
  met = r.met;
}
replays-more g past deck who (action.Clue to clue) dealt r e = record {
  long = r.long;
  gone = r.gone;
  met = λ order.
      let w : bits (touched (with_cards g deck) past to clue) ≡ bits (touched g past to clue) = cc in
      rw (touched-inj g deck r.long dealt past to clue w order) (r.met order);
}
replays-more g past deck who (action.End how) dealt r e = record { long = r.long; gone = r.gone; met = r.met }

-- and if the draw is told alike, it has the cards that are shown
shown-more : (blind : ℕ) (g : Setup) (past : List Act) (deck : List Identity) (act : Act) → Shown blind g past deck
    → blank blind (draws (with_cards g deck) act.who (joins g past act)) ≡ blank blind (draws g act.who (joins g past act)) → Shown blind g
    (act ∷ past) deck
shown-more blind g past deck act shown e order seat here open_seat = pick (joins g past act) e here
  where
    same_card : Type 0
    same_card = card (with_cards g deck) order ≡ card g order

    pick : (o : Option ℕ) → blank blind (draws (with_cards g deck) act.who o) ≡ blank blind (draws g act.who o)
        → (if is_at o order then Some act.who else receiver g past order) ≡ Some seat → same_card
    pick None e here = shown order seat here open_seat
    pick (Some k) e here = one (k == order) refl here
        (let head : blanked blind (drawn_event (with_cards g deck) act.who k) ≡ blanked blind (drawn_event g act.who k) = cc in head)
      where
        one : (b : Bool) → (k == order) ≡ b → (if b then Some act.who else receiver g past order) ≡ Some seat
            → blanked blind (drawn_event (with_cards g deck) act.who k) ≡ blanked blind (drawn_event g act.who k) → same_card
        one true this here head = let q : order ≡ k = grind arith in let s : act.who ≡ seat = cc in rw q
            (blanked-drawn-inj blind g deck act.who k head (rw s open_seat))
        one false other here head = shown order seat here open_seat

-- a deck that gives the observation replays the history and has the cards that are shown
pub observation-replays : (blind : ℕ) (g : Setup) (past : List Act) (deck : List Identity) → length deck ≡ length g.deck.items
    → deal_size g ≤ length g.deck.items
    → Legal g past → Legal (with_cards g deck) past → is_some (ended g past) ≡ false
    → observation blind (with_cards g deck) past ≡ observation blind g past → Replays g past deck × Shown blind g past deck
observation-replays blind g [] deck long dealt legal legal' runs e = (
  record { long = long; gone = λ order h. cc; met = λ order. refl },
  λ order seat here open_seat. shown-deal order seat here open_seat,
)
  where
    shown-deal : (order seat : ℕ) → receiver g [] order ≡ Some seat → in_blind blind seat ≡ false
        → card (with_cards g deck) order ≡ card g order
    shown-deal order seat here open_seat =
        let low : order < deal_size g = grind arith in
        let at : seat ≡ order / hand_size g = grind arith in
        blanked-drawn-inj blind g deck (order / hand_size g) order
        (range-inj blind (λ k. drawn_event (with_cards g deck) (k / hand_size g) k) (λ k. drawn_event g (k / hand_size g) k) 0
        (deal_size g) e order (omega arith) (omega arith))
        (rw at at open_seat)
observation-replays blind g (act ∷ past) deck long dealt legal legal' runs e =
    let h : Setup = with_cards g deck in
    let runs-g : is_some (ended g past) ≡ false = may_runs g past act.who act.action legal.0 in
    let runs-h : is_some (ended h past) ≡ false = may_runs h past act.who act.action legal'.0 in
    let parts : (blank blind (events h past) ≡ blank blind (events g past)) ×
    (blank blind (told h past act.who act.action) ≡ blank blind (told g past act.who act.action))
    × (blank blind (draws h act.who (joins h past act)) ≡ blank blind (draws g act.who (joins g past act))) =
    split-three blind (events h past) (events g past) (told h past act.who act.action) (told g past act.who act.action)
    (draws h act.who (joins h past act)) (draws g act.who (joins g past act))
    (ends h (act ∷ past) (caller act.who act.action) (ended h (act ∷ past)))
    (ends g (act ∷ past) (caller act.who act.action) (ended g (act ∷ past)))
    (events-long g past deck long legal.1 legal'.1 runs-g runs-h) (told-long g deck past act.who act.action)
    (joined-long g deck long past act) e in
    let ih : Replays g past deck × Shown blind g past deck =
    observation-replays blind g past deck long dealt legal.1 legal'.1 runs-g parts.0 in
    let t : told h past act.who act.action ≡ told g past act.who act.action = blank-told blind g deck past act.who act.action parts.1 in (
      replays-more g past deck act.who act.action dealt ih.0 t,
      shown-more blind g past deck act ih.1 (sym (ap (λ o. blank blind (draws h act.who o)) (joins-same g deck long past act)) ∙ parts.2),
    )
