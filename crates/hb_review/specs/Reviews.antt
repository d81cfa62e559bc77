-- Where does a review stand after its steps? It is defined on the acts of a game and the steps that
-- its review took. In each list the newest stands first. The rules of reviews are this project's
-- own.
use Rattle.std.specs.Prelude.{◌≡◌, ℕ, ◌+◌, ◌-◌, ◌==◌, nat_lt, if◌then◌else◌, ⊤, List, [], ◌∷◌, length, drop, Option, Some, None}
use Rattle.std.specs.Option.{option_map}
use Rattle.hb_rules.specs.declared.acts.Action.{Action}
use Rattle.hb_rules.specs.declared.acts.Rule.{Rule}
use Rattle.hb_rules.specs.Setup.{Position, by}
use Rattle.hb_rules.specs.Positions.{after, current, rule}
use Rattle.hb_turns.specs.Prefixes.{prefix}
use Rattle.hb_review.specs.declared.error.ReviewError.{ReviewError}
use Rattle.hb_review.specs.declared.error.ReviewError.TheVariants.{NoSuchTurn, Broken, NothingToUndo}
use Rattle.hb_review.specs.declared.steps.Step.{Step}

-- the first n of a list that has the newest first
abbrev pub first_of : {A : Type 0} → ℕ → List A → List A
first_of n items = drop (length items - n) items

-- the hypothetical list after a step: longer by the step's action, or its first `hypos` actions
abbrev pub after_step : ℕ → Option Action → List Action → List Action
after_step hypos (Some action) before = action ∷ before
after_step hypos None before = first_of hypos before

-- the hypothetical list: the actions of the hypothetical acts
abbrev pub hypotheticals : List Step → List Action
hypotheticals [] = []
hypotheticals (step ∷ steps) = after_step step.hypos step.action (hypotheticals steps)

-- the turn at which the review of a game stands, which is at first the last
abbrev pub turn_of : Position → List Step → ℕ
turn_of game [] = length game.past
turn_of game (step ∷ steps) = step.turn

-- the position after further actions, each by the seat whose turn it then is
abbrev pub acted_on : Position → List Action → Position
acted_on game [] = game
acted_on game (action ∷ actions) =
    let before = acted_on game actions in after before (by (current before) action)

-- the reviewed game: the first of the game's acts up to the turn, and then the hypothetical list
abbrev pub reviewed : Position → List Step → Position
reviewed game steps = acted_on (prefix game (turn_of game steps)) (hypotheticals steps)

-- the refusal of a turn to go to: it is above the number of acts
abbrev pub go_refusal : Position → ℕ → Option ReviewError
go_refusal game turn = if nat_lt (length game.past) turn then Some NoSuchTurn else None

-- the first rule that an action of the current seat breaks on the reviewed game
abbrev pub hypo_rule : Position → List Step → Action → Option Rule
hypo_rule game steps action =
    let before = reviewed game steps in rule before (by (current before) action)

-- the refusal of a hypothetical act: it breaks a rule
abbrev pub hypo_refusal : Position → List Step → Action → Option ReviewError
hypo_refusal game steps action = option_map Broken (hypo_rule game steps action)

-- the refusal to take back: there is no hypothetical act
abbrev pub undo_refusal : List Step → Option ReviewError
undo_refusal steps = if length (hypotheticals steps) == 0 then Some NothingToUndo else None

-- the step to a turn
abbrev pub go_step : ℕ → Step
go_step turn = record { turn = turn; hypos = 0; action = None }

-- the step of a hypothetical act
abbrev pub hypo_step : Position → List Step → Action → Step
hypo_step game steps action =
    let count = length (hypotheticals steps) in
    record { turn = turn_of game steps; hypos = count + 1; action = Some action }

-- the step by which the last hypothetical act is taken back
abbrev pub undo_step : Position → List Step → Step
undo_step game steps =
    record { turn = turn_of game steps; hypos = length (hypotheticals steps) - 1; action = None }

-- each step tells how many hypothetical acts there were after it
abbrev pub AreTold : List Step → Type 0
AreTold [] = ⊤
AreTold (step ∷ steps) = (step.hypos ≡ length (hypotheticals (step ∷ steps))) × AreTold steps

-- the number of a refusal
abbrev pub error_number : ReviewError → ℕ
error_number NoSuchTurn = 1
error_number (Broken broken) = 2
error_number NothingToUndo = 3
