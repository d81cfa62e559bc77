-- When the deck was first empty.
use Rattle.std.proofs.Common.{◌≡◌, ℕ, ◌+◌, ◌-◌, ◌≤◌, List, [], ◌∷◌, arith, length, Some, None, Option}
use Rattle.std.specs.Prelude.{◌==◌, is_some, if◌then◌else◌}
use Rattle.hb_rules.specs.declared.acts.Act.{Act}
use Rattle.hb_rules.specs.declared.acts.Action.{Action}
use Rattle.hb_rules.specs.declared.acts.Action.TheVariants as action
use Rattle.hb_rules.specs.declared.setups.Setup.{Setup}
use Rattle.hb_rules.specs.Setup.{deal_size}
use Rattle.hb_rules.specs.Hands.{removed, left}
use Rattle.std.specs.Option.{option_or}
use Rattle.hb_rules.specs.Result.{emptied, turns}

left-step : (g : Setup) (past : List Act) (who : ℕ) (act : Action) → left g (record { who = who; action = act } ∷ past) ≤ left g past
left-step g past who (action.Play order) = omega arith
left-step g past who (action.Discard order) = omega arith
left-step g past who (action.Clue to clue) = omega arith
left-step g past who (action.End how) = omega arith

is_some-option_or : (o : Option ℕ) (before after n : ℕ) → is_some o ≡ (before == 0) → after ≤ before
    → is_some (option_or o (if after == 0 then Some n else None)) ≡ (after == 0)
is_some-option_or (Some e) before after n was le = grind arith
is_some-option_or None before after n was le = grind arith

-- the moment is there once the deck is empty
pub emptied-left : (g : Setup) (past : List Act) → is_some (emptied g past) ≡ (left g past == 0)
emptied-left g [] = grind arith
emptied-left g (act ∷ past) =
    is_some-option_or (emptied g past) (left g past) (left g (act ∷ past)) (turns (act ∷ past)) (emptied-left g past)
    (left-step g past act.who act.action)

option_or-again : (o : Option ℕ) (before n : ℕ) → is_some o ≡ (before == 0) → option_or o (if before == 0 then Some n else None) ≡ o
option_or-again (Some e) before n was = grind arith
option_or-again None before n was = grind arith

-- a clue or a called end draws nothing
pub emptied-clue : (g : Setup) (past : List Act) → (n : ℕ)
    → option_or (emptied g past) (if left g past == 0 then Some n else None) ≡ emptied g past
emptied-clue g past n = option_or-again (emptied g past) (left g past) n (emptied-left g past)

drawn-last : (o : Option ℕ) (count next n : ℕ) → is_some o ≡ (count - next == 0)
    → option_or o (if count - (next + 1) == 0 then Some n else None) ≡ (if next + 1 == count then Some n else o)
drawn-last (Some e) count next n was = grind arith
drawn-last None count next n was = grind arith

-- a play or discard, which makes r of them, empties the deck where it draws the last card
pub emptied-draw : (g : Setup) (past : List Act) (n r : ℕ) → r ≡ length (removed past) + 1
    → option_or (emptied g past) (if length g.deck.items - (deal_size g + r) == 0 then Some n else None)
    ≡ (if deal_size g + length (removed past) + 1 == length g.deck.items then Some n else emptied g past)
emptied-draw g past n r is =
    let e : deal_size g + r ≡ deal_size g + length (removed past) + 1 = omega arith in
    rw e (drawn-last (emptied g past) (length g.deck.items) (deal_size g + length (removed past)) n (emptied-left g past))
