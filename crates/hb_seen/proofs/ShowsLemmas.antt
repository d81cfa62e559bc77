-- Which cards does an observation show? Those that were played or discarded, and those that a seat outside the blind set was
-- dealt or drew.
use Rattle.std.proofs.Common.{◌≡◌, ℕ, ◌+◌, ◌<◌, ◌≤◌, ◌/◌, Bool, true, false, cond, List, [], ◌∷◌, ◌++◌, zero, suc, refl, ap, arith, ◌∙◌, Some, None, Option}
use Rattle.std.proofs.lemmas.Bool.{or_left, or_right}
use Rattle.std.specs.Prelude.{◌==◌, ◌||◌, is_some, map, nat_lt}
use Rattle.std.specs.List.{range_with_len}
use Rattle.hb_rules.specs.declared.acts.Act.{Act}
use Rattle.hb_rules.specs.declared.events.Event.{Event}
use Rattle.hb_rules.specs.declared.setups.Setup.{Setup}
use Rattle.hb_rules.specs.Setup.{card, deal_size, hand_size}
use Rattle.hb_rules.specs.Hands.{drawn, holder, is_at, is_gone, joins, receiver}
use Rattle.hb_rules.specs.Result.{ended}
use Rattle.hb_rules.specs.Events.{blank, caller, drawn_event, draws, ends, in_blind, observation, told}
use Rattle.hb_sight.proofs.SeenLemmas.{act-observation, shows, shows-append}

-- what is shown stays shown
pub shows-more : (blind : ℕ) (g : Setup) (order : ℕ) (more past : List Act) → shows order (observation blind g past) ≡ true
    → shows order (observation blind g (more ++ past)) ≡ true
shows-more blind g order [] past h = h
shows-more blind g order (act ∷ more) past h =
    ap (shows order) (act-observation blind g (more ++ past) act) ∙ (shows-append order (observation blind g (more ++ past)) _
    ∙ or_left _ _ (shows-more blind g order more past h))

-- a card that a seat outside the blind set is dealt is shown
shows-dealt : (blind : ℕ) (g : Setup) (order : ℕ) → in_blind blind (order / hand_size g) ≡ false → (a n : ℕ)
    → a ≤ order → order < a + n
    → shows order (blank blind (map (λ k. drawn_event g (k / hand_size g) k) (range_with_len a n))) ≡ true
shows-dealt blind g order seen a zero low near = absurd (omega arith)
shows-dealt blind g order seen a (suc n) low near = pick (a == order) refl (shows-dealt blind g order seen (a + 1) n)
  where
    rest : Bool
    rest = shows order (blank blind (map (λ k. drawn_event g (k / hand_size g) k) (range_with_len (a + 1) n)))

    there : (k : ℕ) → k ≡ order → is_some (cond (in_blind blind (k / hand_size g)) None (Some (card g k))) ≡ true
    there k e = rw (e, seen) refl

    pick : (b : Bool) → (a == order) ≡ b → (a + 1 ≤ order → order < a + 1 + n → rest ≡ true)
        → (is_some (cond b (cond (in_blind blind (a / hand_size g)) None (Some (card g a))) None) || rest) ≡ true
    pick true e ih =
        or_left (is_some (cond (in_blind blind (a / hand_size g)) None (Some (card g a)))) rest (there a (grind arith))
    pick false e ih = ih (grind arith) (omega arith)

-- and so is one that it draws
shows-drawn : (blind : ℕ) (g : Setup) (who order : ℕ) (next : Option ℕ) → is_at next order ≡ true → in_blind blind who ≡ false
    → shows order (blank blind (draws g who next)) ≡ true
shows-drawn blind g who order None here seen = cc
shows-drawn blind g who order (Some k) here seen = rw (here, seen) refl

-- so what a seat outside the blind set was dealt or drew is shown
pub shows-received : (blind : ℕ) (g : Setup) (order seat : ℕ) (past : List Act) → receiver g past order ≡ Some seat
    → in_blind blind seat ≡ false → shows order (observation blind g past) ≡ true
shows-received blind g order seat [] got seen = pick (nat_lt order (deal_size g)) refl got
  where
    pick : (b : Bool) → nat_lt order (deal_size g) ≡ b → cond b (Some (order / hand_size g)) None ≡ Some seat
        → shows order (observation blind g []) ≡ true
    pick true low got =
        let e : order / hand_size g ≡ seat = cc in
        shows-dealt blind g order (rw e seen) 0 (deal_size g) (omega arith) (grind arith)
    pick false low got = cc
shows-received blind g order seat (act ∷ past) got seen =
    ap (shows order) (act-observation blind g past act) ∙ (shows-append order (observation blind g past) (t ++ d ++ e)
    ∙ pick (is_at (drawn g past act) order) refl got (λ before. shows-received blind g order seat past before seen))
  where
    t : List Event
    t = blank blind (told g past act.who act.action)

    d : List Event
    d = blank blind (draws g act.who (joins g past act))

    e : List Event
    e = blank blind (ends g (act ∷ past) (caller act.who act.action) (ended g (act ∷ past)))

    pick : (b : Bool) → is_at (drawn g past act) order ≡ b → cond b (Some act.who) (receiver g past order) ≡ Some seat
        → (receiver g past order ≡ Some seat → shows order (observation blind g past) ≡ true)
        → (shows order (observation blind g past) || shows order (t ++ d ++ e)) ≡ true
    pick true here got ih = let same : act.who ≡ seat = cc in
        or_right (shows order (observation blind g past)) (shows order (t ++ d ++ e)) (shows-append order (t ++ d) e
        ∙ or_left (shows order (t ++ d)) (shows order e) (shows-append order t d
        ∙ or_right (shows order t) (shows order d) (shows-drawn blind g act.who order (joins g past act) here (rw same seen))))
    pick false here got ih = or_left (shows order (observation blind g past)) (shows order (t ++ d ++ e)) (ih got)

-- and so is each card in its hand
pub shows-held : (blind : ℕ) (g : Setup) (order seat : ℕ) (past : List Act) → is_at (holder g past order) seat ≡ true
    → in_blind blind seat ≡ false → shows order (observation blind g past) ≡ true
shows-held blind g order seat past held seen = pick (is_gone past order) held
  where
    at : (o : Option ℕ) → is_at o seat ≡ true → o ≡ Some seat
    at None h = cc
    at (Some n) h = let e : n ≡ seat = grind arith in rw e refl

    pick : (b : Bool) → is_at (cond b None (receiver g past order)) seat ≡ true → shows order (observation blind g past) ≡ true
    pick true h = cc
    pick false h = shows-received blind g order seat past (at (receiver g past order) h) seen
