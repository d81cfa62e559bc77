-- Which cards meet the clues for sure, and which orders can be hidden?
use Rattle.std.proofs.Common.{◌≡◌, ℕ, ◌+◌, ◌<◌, ◌≤◌, true, List, [], ◌∷◌, refl, arith, length, None}
use Rattle.hb_rules.specs.declared.acts.Act.{Act}
use Rattle.hb_rules.specs.declared.acts.Action.{Action}
use Rattle.hb_rules.specs.declared.acts.Action.TheVariants as action
use Rattle.hb_rules.specs.declared.setups.Setup.{Setup}
use Rattle.hb_rules.specs.declared.suits.Identity.{Identity}
use Rattle.hb_rules.specs.Setup.{card, deal_size}
use Rattle.hb_rules.specs.Hands.{removed, drawn_count, receiver, holder}
use Rattle.hb_rules.specs.Marks.{is_hidden, meets, meets_one, hides_from}
use Rattle.hb_rules.proofs.HandsLemmas.{holder-past}
use Rattle.hb_rules.proofs.Undrawn.{receiver-undrawn}
use Rattle.hb_empathy.proofs.TouchedCards.{same-self}

-- a game's own card meets its clues
pub meets-self : (g : Setup) (past : List Act) (order : ℕ) → meets g past order (card g order) ≡ true
meets-self g [] order = refl
meets-self g (act ∷ past) order = rw (one act.action, meets-self g past order) refl
  where
    one : (a : Action) → meets_one g past a order (card g order) ≡ true
    one (action.Play k) = refl
    one (action.Discard k) = refl
    one (action.Clue to clue) = rw same-self (grind arith)
    one (action.End how) = refl

-- no clue speaks of an order that is not drawn
pub meets-undrawn : (g : Setup) (past : List Act) (order : ℕ) (id : Identity) → deal_size g + length (removed past) ≤ order
    → meets g past order id ≡ true
meets-undrawn g [] order id far = refl
meets-undrawn g (act ∷ past) order id far = step act.action far (meets-undrawn g past order id)
  where
    step : (a : Action) → deal_size g + length (removed (record { who = act.who; action = a } ∷ past)) ≤ order
        → (deal_size g + length (removed past) ≤ order → meets g past order id ≡ true) → meets g
        (record { who = act.who; action = a } ∷ past) order id ≡ true
    step (action.Play k) far ih = ih (omega arith)
    step (action.Discard k) far ih = ih (omega arith)
    step (action.Clue to clue) far ih =
        let n : receiver g past order ≡ None = receiver-undrawn g past order far in
        let m : meets g past order id ≡ true = ih far in grind arith
    step (action.End how) far ih = ih far

-- a hidden order is drawn
pub hidden-drawn : (blind : ℕ) (g : Setup) (past : List Act) (order : ℕ) → deal_size g ≤ length g.deck.items
    → is_hidden blind g past order ≡ true → order < drawn_count g past
hidden-drawn blind g past order dealt hid =
    let here : deal_size g + length (removed past) ≤ order → holder g past order ≡ None =
    (λ far. let n : receiver g past order ≡ None = receiver-undrawn g past order far in rw n (grind arith)) in
    let there : length g.deck.items ≤ order → holder g past order ≡ None = holder-past g past order dealt in
    let some : holder g past order ≡ None → ⊥ = (λ n. let h : hides_from blind None ≡ true = rw n at hid in cc) in
    grind (arith, here, there, some)
