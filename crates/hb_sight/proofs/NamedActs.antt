-- Which acts does an observation name? Those of its game: no act's event is left out or blanked.
use Rattle.std.proofs.Common.{◌≡◌, ℕ, ◌/◌, List, [], ◌∷◌, ◌++◌, refl, ap, sym, ◌∙◌, Some, None, Option}
use Rattle.std.specs.Prelude.{map, filter_map, reverse}
use Rattle.std.specs.List.{range_with_len}
use Rattle.std.proofs.lemmas.List.{reverse-append, reverse-reverse}
use Rattle.std.proofs.lemmas.List.Elements.{filter_map-append}
use Rattle.hb_rules.specs.declared.acts.Act.{Act}
use Rattle.hb_rules.specs.declared.acts.Action.{Action}
use Rattle.hb_rules.specs.declared.acts.Action.TheVariants as action
use Rattle.hb_rules.specs.declared.acts.EndHow.{EndHow}
use Rattle.hb_rules.specs.declared.events.Event.{Event}
use Rattle.hb_rules.specs.declared.events.Event.TheVariants as event
use Rattle.hb_rules.specs.declared.setups.Setup.{Setup}
use Rattle.hb_rules.specs.Setup.{deal_size, hand_size}
use Rattle.hb_rules.specs.Hands.{joins}
use Rattle.hb_rules.specs.Result.{ended}
use Rattle.hb_rules.specs.Events.{events, act_events, draws, ends, drawn_event, blank, blanked, observation, acts_of, named_act}

-- blanking leaves the act that an event names
named-blanked : (blind : ℕ) (e : Event) → named_act (blanked blind e) ≡ named_act e
named-blanked blind (event.Drawn seat order id) = refl
named-blanked blind (event.Played seat order id f) = refl
named-blanked blind (event.Discarded seat order id) = refl
named-blanked blind (event.Clued giver to clue t) = refl
named-blanked blind (event.Ended how by s) = refl
named-blanked blind (event.Deck deck) = refl

named-blank : (blind : ℕ) (es : List Event) → filter_map named_act (blank blind es) ≡ filter_map named_act es
named-blank blind [] = refl
named-blank blind (e ∷ es) = rw (named-blanked blind e, named-blank blind es) refl

-- neither a draw nor an end by play names an act
names-nothing : (g : Setup) (past : List Act) (who : ℕ) (next : Option ℕ) (how : Option EndHow)
    → filter_map named_act (draws g who next ++ ends g past None how) ≡ []
names-nothing g past who None None = refl
names-nothing g past who None (Some how) = refl
names-nothing g past who (Some order) None = refl
names-nothing g past who (Some order) (Some how) = refl

named-end : (g : Setup) (past : List Act) (who : ℕ) (how : EndHow)
    → filter_map named_act (act_events g past (record { who = who; action = action.End how })) ≡
    (record { who = who; action = action.End how }) ∷ []
unfolding ended
named-end g past who how = refl

-- the events of an act name it alone
named-act_events : (g : Setup) (past : List Act) (act : Act) → filter_map named_act (act_events g past act) ≡ act ∷ []
named-act_events g past act = step act.action
  where
    by_play : (a : Action) → filter_map named_act (draws g act.who (joins g past (record { who = act.who; action = a }))
        ++ ends g (record { who = act.who; action = a } ∷ past) None (ended g (record { who = act.who; action = a } ∷ past))) ≡ []
    by_play a = names-nothing g (record { who = act.who; action = a } ∷ past) act.who (joins g past (record { who = act.who; action = a }))
        (ended g (record { who = act.who; action = a } ∷ past))

    step : (a : Action)
        → filter_map named_act (act_events g past (record { who = act.who; action = a })) ≡ (record { who = act.who; action = a }) ∷ []
    step (action.Play order) = ap (λ xs. (record { who = act.who; action = action.Play order }) ∷ xs) (by_play (action.Play order))
    step (action.Discard order) = ap (λ xs. (record { who = act.who; action = action.Discard order }) ∷ xs) (by_play (action.Discard order))
    step (action.Clue to clue) = ap (λ xs. (record { who = act.who; action = action.Clue to clue }) ∷ xs) (by_play (action.Clue to clue))
    step (action.End how) = named-end g past act.who how

named-events : (g : Setup) (past : List Act) → filter_map named_act (events g past) ≡ reverse past
named-events g [] = no-names (λ order. order / hand_size g) (range_with_len 0 (deal_size g))
  where
    no-names : (seat : ℕ → ℕ) (orders : List ℕ) → filter_map named_act (map (λ order. drawn_event g (seat order) order) orders) ≡ []
    no-names seat [] = refl
    no-names seat (order ∷ orders) = no-names seat orders
named-events g (act ∷ past) = filter_map-append named_act (events g past) (act_events g past act)
    ∙ (ap (λ xs. xs ++ filter_map named_act (act_events g past act)) (named-events g past)
    ∙ (ap (λ xs. reverse past ++ xs) (named-act_events g past act) ∙ sym (reverse-append (act ∷ []) past)))

-- the acts that an observation names are those of its game
pub acts_of-observation : (blind : ℕ) (g : Setup) (past : List Act) → acts_of (observation blind g past) ≡ past
acts_of-observation blind g past = ap reverse (named-blank blind (events g past) ∙ named-events g past) ∙ reverse-reverse past
