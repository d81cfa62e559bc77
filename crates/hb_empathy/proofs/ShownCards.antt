-- A deck that replays the history of a game that runs, and has the cards that are shown, gives its observation.
use Rattle.std.proofs.Common.{◌≡◌, ℕ, ◌+◌, ◌/◌, ◌<◌, ◌≤◌, Bool, true, false, cond, List, [], ◌∷◌, ◌++◌, refl, ap, arith, ◌∙◌, length, Some, None, Option, zero, suc}
use Rattle.std.specs.Prelude.{is_some, map}
use Rattle.std.specs.List.{range_with_len}
use Rattle.std.proofs.lemmas.Bool.{and_parts}
use Rattle.std.proofs.lemmas.List.{map-append}
use Rattle.hb_rules.specs.declared.acts.Act.{Act}
use Rattle.hb_rules.specs.declared.acts.Action.{Action}
use Rattle.hb_rules.specs.declared.acts.Action.TheVariants as action
use Rattle.hb_rules.specs.declared.events.Event.{Event}
use Rattle.hb_rules.specs.declared.events.Event.TheVariants as event
use Rattle.hb_rules.specs.declared.setups.Setup.{Setup}
use Rattle.hb_rules.specs.declared.suits.Identity.{Identity}
use Rattle.hb_rules.specs.Setup.{card, deal_size, hand_size}
use Rattle.hb_rules.specs.Hands.{removed, drawn, joins, receiver, is_at}
use Rattle.hb_rules.specs.Result.{ended, fits}
use Rattle.hb_rules.specs.Legality.{Legal}
use Rattle.hb_rules.specs.Events.{events, bits, told, draws, ends, drawn_event, blank, blanked, observation, in_blind, caller}
use Rattle.hb_rules.proofs.Rules.{may_runs}
use Rattle.hb_rules.proofs.Undrawn.{receiver-undrawn}
use Rattle.hb_sight.proofs.Agreement.{with_cards, joins-same, same-counts, ended-same}
use Rattle.hb_empathy.proofs.Replays.{touched-same, Replays, replays-before}

-- the cards that a seat outside the blind set was dealt or drew are the same
abbrev pub Shown : ℕ → Setup → List Act → List Identity → Type 0
Shown blind g past deck = (order seat : ℕ) → receiver g past order ≡ Some seat → in_blind blind seat ≡ false → card
    (with_cards g deck) order ≡ card g order

receiver-keeps : (g : Setup) (past : List Act) (act : Act) (order seat : ℕ) → receiver g past order ≡ Some seat
    → receiver g (act ∷ past) order ≡ Some seat
receiver-keeps g past act order seat here =
    let free : deal_size g + length (removed past) ≤ order → receiver g past order ≡ None = receiver-undrawn g past order in
    let not_it : is_at (drawn g past act) order ≡ false = grind (arith, free) in rw (not_it, here) refl

shown-before : (blind : ℕ) (g : Setup) (act : Act) (past : List Act) (deck : List Identity) → Shown blind g (act ∷ past) deck
    → Shown blind g past deck
shown-before blind g act past deck shown order seat here open_seat = shown order seat (receiver-keeps g past act order seat here) open_seat

receiver-joins : (g : Setup) (past : List Act) (act : Act) (order : ℕ) → joins g past act ≡ Some order
    → receiver g (act ∷ past) order ≡ Some act.who
receiver-joins g past act order e = rw e (grind arith)

receiver-dealt : (g : Setup) (order : ℕ) → order < deal_size g → receiver g [] order ≡ Some (order / hand_size g)
receiver-dealt g order low = grind arith

-- an answer that is not there is none
pub is_none : {X : Type 0} (o : Option X) → is_some o ≡ false → o ≡ None
is_none o h = grind arith

-- a draw is told alike if its card is the same, or not shown
drawn-same : (blind : ℕ) (g : Setup) (deck : List Identity) (who order : ℕ)
    → (in_blind blind who ≡ false → card (with_cards g deck) order ≡ card g order)
    → blanked blind (drawn_event (with_cards g deck) who order) ≡ blanked blind (drawn_event g who order)
drawn-same blind g deck who order e = pick (in_blind blind who) e
  where
    pick : (b : Bool) → (b ≡ false → card (with_cards g deck) order ≡ card g order)
        → event.Drawn who order (cond b None (Some (card (with_cards g deck) order))) ≡ event.Drawn who order
        (cond b None (Some (card g order)))
    pick true e = refl
    pick false e = ap (λ id. event.Drawn who order (Some id)) (e refl)

draws-same : (blind : ℕ) (g : Setup) (deck : List Identity) (who : ℕ) (next : Option ℕ)
    → ((order : ℕ) → next ≡ Some order → in_blind blind who ≡ false → card (with_cards g deck) order ≡ card g order)
    → blank blind (draws (with_cards g deck) who next) ≡ blank blind (draws g who next)
draws-same blind g deck who None e = refl
draws-same blind g deck who (Some order) e = ap (λ v. v ∷ []) (drawn-same blind g deck who order (e order refl))

-- an action is told alike
told-same : (g : Setup) (deck : List Identity) (past : List Act) (who : ℕ) (a : Action)
    → Replays g (record { who = who; action = a } ∷ past) deck
    → told (with_cards g deck) past who a ≡ told g past who a
told-same g deck past who (action.Play order) r =
    let before : Replays g past deck = replays-before g (record { who = who; action = action.Play order }) past deck r in
    let e : card (with_cards g deck) order ≡ card g order = r.gone order (grind arith) in
    let f : fits (with_cards g deck) past order ≡ fits g past order =
    rw (e, (same-counts g deck r.long past before.gone).heights (card g order).suit) refl in
    ap (λ id. event.Played who order id (fits (with_cards g deck) past order) ∷ []) e
    ∙ ap (λ b. event.Played who order (card g order) b ∷ []) f
told-same g deck past who (action.Discard order) r = ap (λ id. event.Discarded who order id ∷ []) (r.gone order (grind arith))
told-same g deck past who (action.Clue to clue) r =
    ap (λ t. event.Clued who to clue (bits t) ∷ []) (touched-same g deck r.long past to clue (λ order. (and_parts _ _ (r.met order)).0))
told-same g deck past who (action.End how) r = refl

blank-range-same : (blind : ℕ) (f h : ℕ → Event) (a n : ℕ) → ((k : ℕ) → a ≤ k → k < a + n → blanked blind (f k) ≡ blanked blind (h k))
    → blank blind (map f (range_with_len a n)) ≡ blank blind (map h (range_with_len a n))
blank-range-same blind f h a zero e = refl
blank-range-same blind f h a (suc n) e =
    rw (e a (omega arith) (omega arith), blank-range-same blind f h (a + 1) n (λ k low high. e k (omega arith) (omega arith))) refl

blank-three : (blind : ℕ) (x y t u d e n m : List Event) → blank blind x ≡ blank blind y → t ≡ u → blank blind d ≡ blank blind e → n ≡ []
    → m ≡ []
    → blank blind (x ++ (t ++ d ++ n)) ≡ blank blind (y ++ (u ++ e ++ m))
blank-three blind x y t u d e n m xy tu de n-nil m-nil = rw (tu, n-nil, m-nil) (simp map-append (rw (xy, de) refl))

-- a deck that replays the history and has the cards that are shown gives the observation
pub replays-observation : (blind : ℕ) (g : Setup) (past : List Act) (deck : List Identity) → Replays g past deck → Shown blind g past deck
    → Legal g past
    → is_some (ended g past) ≡ false → observation blind (with_cards g deck) past ≡ observation blind g past
replays-observation blind g [] deck r shown legal runs =
    blank-range-same blind (λ order. drawn_event (with_cards g deck) (order / hand_size g) order)
    (λ order. drawn_event g (order / hand_size g) order) 0 (deal_size g)
    (λ k low high. drawn-same blind g deck (k / hand_size g) k
    (λ open_seat. shown k (k / hand_size g) (receiver-dealt g k (omega arith)) open_seat))
replays-observation blind g (act ∷ past) deck r shown legal runs =
    let h : Setup = with_cards g deck in
    let before : Replays g past deck = replays-before g act past deck r in
    let ih : blank blind (events h past) ≡ blank blind (events g past) =
    replays-observation blind g past deck before (shown-before blind g act past deck shown) legal.1
    (may_runs g past act.who act.action legal.0) in
    let e : ended g (act ∷ past) ≡ None = is_none _ runs in
    let e' : ended h (act ∷ past) ≡ None = ended-same g deck (act ∷ past) (same-counts g deck r.long (act ∷ past) r.gone) ∙ e in
    let t : told h past act.who act.action ≡ told g past act.who act.action = told-same g deck past act.who act.action r in
    let d : blank blind (draws h act.who (joins g past act)) ≡ blank blind (draws g act.who (joins g past act)) =
    draws-same blind g deck act.who (joins g past act)
    (λ order j open_seat. shown order act.who (receiver-joins g past act order j) open_seat) in
    blank-three blind (events h past) (events g past) (told h past act.who act.action) (told g past act.who act.action)
    (draws h act.who (joins h past act)) (draws g act.who (joins g past act))
    (ends h (act ∷ past) (caller act.who act.action) (ended h (act ∷ past)))
    (ends g (act ∷ past) (caller act.who act.action) (ended g (act ∷ past)))
    ih t (ap (λ o. blank blind (draws h act.who o)) (joins-same g deck r.long past act) ∙ d)
    (ap (ends h (act ∷ past) (caller act.who act.action)) e') (ap (ends g (act ∷ past) (caller act.who act.action)) e)
