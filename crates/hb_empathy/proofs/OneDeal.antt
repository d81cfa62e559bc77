-- How many consistent deals are there after the end? One, since the whole deck is shown.
use Rattle.std.proofs.Common.{◌≡◌, ℕ, ◌/◌, ◌≤◌, ◌↔◌, true, false, List, [], ◌∷◌, ◌++◌, refl, ap, sym, ◌∙◌, Some, None, Option, subst}
use Rattle.std.specs.Prelude.{is_some, map, filter_map}
use Rattle.std.specs.List.{range_with_len}
use Rattle.std.proofs.lemmas.List.{append_assoc}
use Rattle.std.proofs.lemmas.List.Elements.{filter_map-append}
use Rattle.hb_rules.specs.declared.acts.Act.{Act}
use Rattle.hb_rules.specs.declared.acts.Action.{Action}
use Rattle.hb_rules.specs.declared.acts.Action.TheVariants as action
use Rattle.hb_rules.specs.declared.acts.EndHow.{EndHow}
use Rattle.hb_rules.specs.declared.events.Event.{Event}
use Rattle.hb_rules.specs.declared.events.Event.TheVariants as event
use Rattle.hb_rules.specs.declared.setups.Setup.{Setup}
use Rattle.hb_rules.specs.declared.suits.Identity.{Identity}
use Rattle.hb_rules.specs.Cards.{IsDeck}
use Rattle.hb_rules.specs.Setup.{deal_size, hand_size}
use Rattle.hb_rules.specs.Hands.{joins}
use Rattle.hb_rules.specs.Result.{ended}
use Rattle.hb_rules.specs.Legality.{Legal}
use Rattle.hb_rules.specs.Events.{events, act_events, told, draws, ends, caller, drawn_event, blank, blanked, observation, acts_of}
use Rattle.hb_rules.specs.Deals.{IsDeal}
use Rattle.hb_rules.proofs.Rules.{may_runs}
use Rattle.hb_sight.proofs.NamedActs.{acts_of-observation}
use Rattle.hb_sight.proofs.Agreement.{with_cards}
use Rattle.hb_empathy.proofs.ShownCards.{is_none}
use Rattle.hb_empathy.proofs.Choices.{own-deal, seen_after}
use Rattle.hb_sight.proofs.Beginning.{start-runs}

-- the deck that an event shows
abbrev deck_of : Event → Option (List Identity)
deck_of (event.Deck deck) = Some deck.items
deck_of (event.Drawn seat order id) = None
deck_of (event.Played seat order id f) = None
deck_of (event.Discarded seat order id) = None
deck_of (event.Clued giver to clue t) = None
deck_of (event.Ended how by s) = None

abbrev decks : List Event → List (List Identity)
decks es = filter_map deck_of es

deck-blanked : (blind : ℕ) (e : Event) → deck_of (blanked blind e) ≡ deck_of e
deck-blanked blind (event.Drawn seat order id) = refl
deck-blanked blind (event.Played seat order id f) = refl
deck-blanked blind (event.Discarded seat order id) = refl
deck-blanked blind (event.Clued giver to clue t) = refl
deck-blanked blind (event.Ended how by s) = refl
deck-blanked blind (event.Deck deck) = refl

decks-blank : (blind : ℕ) (es : List Event) → decks (blank blind es) ≡ decks es
decks-blank blind [] = refl
decks-blank blind (e ∷ es) = rw (deck-blanked blind e, decks-blank blind es) refl

-- the decks that an end shows
abbrev shown_at : Setup → Option EndHow → List (List Identity)
shown_at g (Some how) = g.deck.items ∷ []
shown_at g None = []

decks-told : (g : Setup) (past : List Act) (who : ℕ) (a : Action) (rest : List Event) → decks (told g past who a ++ rest) ≡ decks rest
decks-told g past who (action.Play order) rest = refl
decks-told g past who (action.Discard order) rest = refl
decks-told g past who (action.Clue to clue) rest = refl
decks-told g past who (action.End how) rest = refl

decks-rest : (g : Setup) (past : List Act) (who : ℕ) (next by : Option ℕ) (how : Option EndHow)
    → decks (draws g who next ++ ends g past by how) ≡ shown_at g how
decks-rest g past who None by None = refl
decks-rest g past who None by (Some how) = refl
decks-rest g past who (Some order) by None = refl
decks-rest g past who (Some order) by (Some how) = refl

no-decks : (g : Setup) (seat : ℕ → ℕ) (orders : List ℕ) → decks (map (λ order. drawn_event g (seat order) order) orders) ≡ []
no-decks g seat [] = refl
no-decks g seat (order ∷ orders) = no-decks g seat orders

decks-one : (g : Setup) (past : List Act) (act : Act) → decks (act_events g past act) ≡ shown_at g (ended g (act ∷ past))
decks-one g past act =
    let drew : List Event = draws g act.who (joins g past act) in
    let over : List Event = ends g (act ∷ past) (caller act.who act.action) (ended g (act ∷ past)) in
    ap decks (append_assoc (told g past act.who act.action) drew over)
    ∙ (decks-told g past act.who act.action (drew ++ over)
    ∙ decks-rest g (act ∷ past) act.who (joins g past act) (caller act.who act.action) (ended g (act ∷ past)))

-- one more act of a game that has shown no deck shows it if the act ends the game
decks-more : (g : Setup) (past : List Act) (act : Act) → decks (events g past) ≡ []
    → decks (events g (act ∷ past)) ≡ shown_at g (ended g (act ∷ past))
decks-more g past act before = filter_map-append deck_of (events g past) (act_events g past act) ∙
    (ap (λ xs. xs ++ decks (act_events g past act)) before ∙ decks-one g past act)

-- a game that runs has shown no deck
decks-running : (g : Setup) (past : List Act) → Legal g past → is_some (ended g past) ≡ false → decks (events g past) ≡ []
decks-running g [] legal runs = no-decks g (λ order. order / hand_size g) (range_with_len 0 (deal_size g))
decks-running g (act ∷ past) legal runs =
    decks-more g past act (decks-running g past legal.1 (may_runs g past act.who act.action legal.0)) ∙ ap (shown_at g)
    (is_none (ended g (act ∷ past)) runs)

-- a game shows its deck exactly if its last act ended it
decks-act : (g : Setup) (past : List Act) (act : Act) → Legal g (act ∷ past)
    → decks (events g (act ∷ past)) ≡ shown_at g (ended g (act ∷ past))
decks-act g past act legal = decks-more g past act (decks-running g past legal.1 (may_runs g past act.who act.action legal.0))

-- a deal of an observation that shows the deck is that deck
shown-deal : (blind : ℕ) (g : Setup) (past : List Act) (act : Act) (deck : List Identity) (how : EndHow) → Legal g (act ∷ past)
    → ended g (act ∷ past) ≡ Some how
    → IsDeal (seen_after blind g (act ∷ past)) deck → deck ≡ g.deck.items
shown-deal blind g past act deck how legal over deal = pick (ended (with_cards g deck) (act ∷ past)) shown
  where
    shown : shown_at (with_cards g deck) (ended (with_cards g deck) (act ∷ past)) ≡ g.deck.items ∷ []
    shown =
        let acts : acts_of (observation blind g (act ∷ past)) ≡ act ∷ past = acts_of-observation blind g (act ∷ past) in
        let legal' : Legal (with_cards g deck) (act ∷ past) = subst (λ A. Legal (with_cards g deck) A) acts deal.legal in
        let same_events : observation blind (with_cards g deck) (act ∷ past) ≡ observation blind g (act ∷ past) =
        subst (λ A. observation blind (with_cards g deck) A ≡ observation blind g (act ∷ past)) acts deal.same in
        sym (decks-act (with_cards g deck) past act legal')
        ∙ (sym (decks-blank blind (events (with_cards g deck) (act ∷ past)))
        ∙ (ap decks same_events
        ∙ (decks-blank blind (events g (act ∷ past))
        ∙ (decks-act g past act legal ∙ ap (shown_at g) over))))

    pick : (o : Option EndHow) → shown_at (with_cards g deck) o ≡ g.deck.items ∷ [] → deck ≡ g.deck.items
    pick None e = cc
    pick (Some how) e = cc

some-how : (o : Option EndHow) → is_some o ≡ true → (how : EndHow) × (o ≡ Some how)
some-how None h = cc
some-how (Some how) h = (how, refl)

-- after the end there is one deal
pub one-deal : (blind : ℕ) (g : Setup) (past : List Act) → 2 ≤ g.players → IsDeck g.variant g.deck.items → Legal g past
    → is_some (ended g past) ≡ true → (deck : List Identity) → IsDeal (seen_after blind g past) deck ↔ (deck ≡ g.deck.items)
one-deal blind g [] two full legal over deck = let n : is_some (ended g []) ≡ false = start-runs g two in cc
one-deal blind g (act ∷ past) two full legal over deck =
    let h : (how : EndHow) × (ended g (act ∷ past) ≡ Some how) = some-how (ended g (act ∷ past)) over in (
      λ deal. shown-deal blind g past act deck (h.0) legal (h.1) deal,
      λ is. subst (λ d. IsDeal (seen_after blind g (act ∷ past)) d) (sym is) (own-deal blind g (act ∷ past) full legal),
    )
