-- A height counts the fitting plays of its suit.
use Rattle.std.proofs.Common.{◌≡◌, ℕ, ◌+◌, Bool, true, false, cond, List, [], ◌∷◌, ◌∙◌, refl, arith, sym}
use Rattle.std.specs.Prelude.{◌==◌, count_by, if◌then◌else◌}
use Rattle.std.proofs.lemmas.List.Sums.{sum_by-cons}
use Rattle.hb_rules.specs.declared.acts.Act.{Act}
use Rattle.hb_rules.specs.declared.acts.Action.{Action}
use Rattle.hb_rules.specs.declared.acts.Action.TheVariants as action
use Rattle.hb_rules.specs.declared.setups.Setup.{Setup}
use Rattle.hb_rules.specs.Laws.{histories, is_fitting_play, plays_next}
use Rattle.hb_rules.specs.Result.{height, height_after}
use Rattle.hb_rules.specs.Setup.{card}
use Rattle.std.proofs.lemmas.Bool.{eqb-true}

-- a height after an action grows by one just by a fitting play of the suit
height-grows : (g : Setup) (past : List Act) (suit : ℕ) (act : Action)
    → height_after g suit act (height g past suit) ≡ (if plays_next g suit act past then 1 else 0) + height g past suit
height-grows g past suit (action.Discard order) = omega arith
height-grows g past suit (action.Clue to clue) = omega arith
height-grows g past suit (action.End how) = omega arith
height-grows g past suit (action.Play order) = pick ((card g order).suit == suit) refl
  where
    fitting : (b : Bool) (h : ℕ) → (if b then h + 1 else h) ≡ (if b then 1 else 0) + h
    fitting true h = omega arith
    fitting false h = omega arith

    none : (h : ℕ) → h ≡ (if false then 1 else 0) + h
    none h = omega arith

    pick : (b : Bool) → ((card g order).suit == suit) ≡ b
        → height_after g suit (action.Play order) (height g past suit)
        ≡ (if plays_next g suit (action.Play order) past then 1 else 0) + height g past suit
    pick false e = rw e (none (height g past suit))
    pick true e = let same : (card g order).suit ≡ suit = eqb-true (card g order).suit suit e in
        rw (e, same) (fitting ((card g order).rank == height g past suit + 1) (height g past suit))

-- the height of a suit is the number of its fitting plays
pub height-counts : (g : Setup) (past : List Act) (suit : ℕ) → height g past suit ≡ count_by (is_fitting_play g suit) (histories past)
height-counts g [] suit = refl
height-counts g (act ∷ past) suit = height-grows g past suit act.action
    ∙ (rw (height-counts g past suit) refl)
    ∙ sym (sum_by-cons (λ h. cond (is_fitting_play g suit h) 1 0) (act ∷ past) (histories past))
