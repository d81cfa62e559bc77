-- How many acts a reviewed game has, what is left of it without the last, and what an action of the current seat can't break.
use Rattle.std.proofs.Common.{◌≡◌, ◌≢◌, ℕ, ◌+◌, ◌-◌, ◌≤◌, true, List, [], ◌∷◌, length, drop, Some, None, refl, ap, ◌∙◌, arith, eq-eqb, length-drop}
use Rattle.std.specs.Prelude.{is_some}
use Rattle.hb_rules.specs.declared.acts.Act.{Act}
use Rattle.hb_rules.specs.declared.acts.Action.{Action}
use Rattle.hb_rules.specs.declared.acts.Action.TheVariants as action
use Rattle.hb_rules.specs.declared.acts.Rule.TheVariants.{GameOver, NotYourTurn}
use Rattle.hb_rules.specs.declared.setups.Setup.{Setup}
use Rattle.hb_rules.specs.Setup.{Position}
use Rattle.hb_rules.specs.Result.{current, ended}
use Rattle.hb_rules.specs.Legality.{rule}
use Rattle.hb_review.specs.declared.steps.Step.{Step}
use Rattle.hb_turns.specs.Prefixes.{prefix}
use Rattle.hb_review.specs.Reviews.{first_of, hypotheticals, turn_of, acted_on}
use Rattle.hb_review.specs.ReviewModel.{IsKept}

-- further actions are as many further acts
length-acted_on : (game : Position) (actions : List Action) → length (acted_on game actions).past ≡ length game.past + length actions
length-acted_on game [] = omega arith
length-acted_on game (action ∷ actions) = omega (arith, length-acted_on game actions)

-- the first acts are as many as they are to be, where there are enough
length-prefix : (game : Position) (n : ℕ) → n ≤ length game.past → length (prefix game n).past ≡ n
length-prefix game n enough = omega (arith, length-drop (length game.past - n) game.past)

-- the game that is shown has the acts up to the turn, and the hypothetical ones
pub shows_acts : (whole shown : Position) (turn : ℕ) (steps : List Step)
    → IsKept whole shown turn steps → length shown.past ≡ turn + length (hypotheticals steps)
shows_acts whole shown turn steps kept =
    let base : Position = prefix whole (turn_of whole steps) in
    let within : turn_of whole steps ≤ length whole.past = omega (arith, kept.stands, kept.within) in
    ap (λ (game : Position). length game.past) kept.shows
    ∙ length-acted_on base (hypotheticals steps)
    ∙ omega (arith, kept.stands, length-prefix whole (turn_of whole steps) within)

-- a number less the one before it is 1
but-last : (n : ℕ) → 1 ≤ n → n - (n - 1) ≡ 1
but-last n some = omega arith

-- what is left of further acts without the last are those of the actions without the last
prefix-acted_on : (game : Position) (actions : List Action) → 1 ≤ length actions
    → prefix (acted_on game actions) (length (acted_on game actions).past - 1) ≡ acted_on game (first_of (length actions - 1) actions)
prefix-acted_on game [] some = absurd (omega arith)
prefix-acted_on game (action ∷ actions) some =
    rw (but-last (length (acted_on game (action ∷ actions)).past) (omega arith), but-last (length (action ∷ actions)) some) refl

-- the game without its last act, which is a hypothetical one, shows the step that takes it back
pub kept-undo : (whole shown : Position) (turn count hypos : ℕ) (steps : List Step)
    → IsKept whole shown turn steps → count ≡ length shown.past → hypos ≡ length (hypotheticals steps) → 1 ≤ hypos
    → IsKept whole (prefix shown (count - 1)) turn (record { turn = turn; hypos = hypos - 1; action = None } ∷ steps)
kept-undo whole shown turn count hypos steps kept is many some = record {
  stands = refl;
  within = kept.within;
  shows = rw (is, many, kept.stands, kept.shows)
      (prefix-acted_on (prefix whole (turn_of whole steps)) (hypotheticals steps) (omega arith));
  told = (omega (arith, length-drop (length (hypotheticals steps) - (hypos - 1)) (hypotheticals steps)), kept.told);
}

-- an action of the current seat never breaks the rule of turns
pub current_turn : (g : Setup) (past : List Act) (action : Action)
    → rule g past (record { who = current g past; action = action }) ≢ Some NotYourTurn
unfolding rule
current_turn g past (action.Play order) e = grind (arith, eq-eqb (current g past) (current g past) refl)
current_turn g past (action.Discard order) e = grind (arith, eq-eqb (current g past) (current g past) refl)
current_turn g past (action.Clue to clue) e = grind (arith, eq-eqb (current g past) (current g past) refl)
current_turn g past (action.End how) e = grind (arith, eq-eqb (current g past) (current g past) refl)

-- after the end an action breaks the first rule, whoever takes it
pub ended_is_over : (g : Setup) (past : List Act) (who : ℕ) (action : Action)
    → is_some (ended g past) ≡ true → rule g past (record { who = who; action = action }) ≡ Some GameOver
unfolding rule
ended_is_over g past who (action.Play order) is = rw is refl
ended_is_over g past who (action.Discard order) is = rw is refl
ended_is_over g past who (action.Clue to clue) is = rw is refl
ended_is_over g past who (action.End how) is = rw is refl
