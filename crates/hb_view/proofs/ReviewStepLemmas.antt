-- Which game does a step of a review show?
use Rattle.std.proofs.Common.{◌≡◌, ℕ, zero, suc, ◌+◌, ◌-◌, ◌≤◌, Bool, true, false, List, [], ◌∷◌, refl, ap, sym, subst, ◌∙◌, arith, length, length-drop, drop, Option, Some, None}
use Rattle.std.specs.Prelude.{nat_lt, option_map}
use Rattle.std.proofs.lemmas.Option.{same_Some}
use Rattle.hb_rules.specs.declared.acts.Action.{Action}
use Rattle.hb_rules.specs.declared.acts.Rule.{Rule}
use Rattle.hb_rules.specs.Positions.{after, current, rule}
use Rattle.hb_rules.specs.Setup.{Position, by}
use Rattle.hb_review.specs.declared.error.ReviewError.TheVariants.{Broken, NoSuchTurn}
use Rattle.hb_review.specs.declared.steps.Step.{Step}
use Rattle.hb_review.specs.Reviews.{acted_on, after_step, first_of, go_refusal, hypo_rule, hypotheticals, reviewed, turn_of}
use Rattle.hb_turns.specs.Prefixes.{prefix}
use Rattle.hb_club.specs.declared.commands.Command.{Command}
use Rattle.hb_club.specs.declared.commands.Command.TheVariants as command
use Rattle.hb_club.specs.TableReview.{step_of, step_refusal}
use Rattle.hb_view.specs.StreamViews.{AreSteps, IsStep}
use Rattle.hb_view.proofs.ShownGameLemmas.{some-none}

-- what a step says of the game and of the steps before it
pub record StepFacts (game : Position) (taken : List Step) (step : Step) : Type 0 where
  pub within : turn_of game taken ≤ length game.past → step.turn ≤ length game.past
  pub stays : (step.hypos ≡ 0 → ⊥) → step.turn ≡ turn_of game taken
  pub few : step.action ≡ None → step.hypos ≤ length (hypotheticals taken)
  pub tried : (a : Action) → step.action ≡ Some a → (step.turn ≡ turn_of game taken) × (hypo_rule game taken a ≡ None)

-- a turn that is not refused is one of the game
go-within : (game : Position) (turn : ℕ) → go_refusal game turn ≡ None → turn ≤ length game.past
go-within game turn e = pick (nat_lt (length game.past) turn) refl
  where
    pick : (b : Bool) → nat_lt (length game.past) turn ≡ b → turn ≤ length game.past
    pick true is = let never : Some NoSuchTurn ≡ None = rw is at e in absurd (some-none never)
    pick false is = grind (arith, is)

not-broken : (o : Option Rule) → option_map Broken o ≡ None → o ≡ None
not-broken None e = refl
not-broken (Some r) e = absurd (some-none e)

-- each command
facts-of : (game : Position) (taken : List Step) (c : Command) (step : Step) → step_refusal (Some game) taken c ≡ None
    → step_of (Some game) taken c ≡ Some step → StepFacts game taken step
facts-of game taken (command.Go turn) step may is =
    let P : Step → Type 0 = StepFacts game taken in
    subst P (same_Some _ _ is) (record {
      within = λ low. go-within game turn may;
      stays = λ some. absurd (some refl);
      few = λ e. omega arith;
      tried = λ a e. absurd (some-none (sym e));
    })
facts-of game taken (command.Hypo action) step may is =
    let P : Step → Type 0 = StepFacts game taken in
    let fine : hypo_rule game taken action ≡ None = not-broken (hypo_rule game taken action) may in
    subst P (same_Some _ _ is) (record {
      within = λ low. low;
      stays = λ some. refl;
      few = λ e. absurd (some-none e);
      tried = λ a e. (refl, subst (λ (x : Action). hypo_rule game taken x ≡ None) (same_Some _ _ e) fine);
    })
facts-of game taken command.Undo step may is =
    let P : Step → Type 0 = StepFacts game taken in
    subst P (same_Some _ _ is) (record {
      within = λ low. low;
      stays = λ some. refl;
      few = λ e. omega arith;
      tried = λ a e. absurd (some-none (sym e));
    })
facts-of game taken (command.Open name options) step may is = absurd (some-none (sym is))
facts-of game taken command.Sit step may is = absurd (some-none (sym is))
facts-of game taken command.Rise step may is = absurd (some-none (sym is))
facts-of game taken command.Start step may is = absurd (some-none (sym is))
facts-of game taken (command.Act a) step may is = absurd (some-none (sym is))
facts-of game taken (command.Note order text) step may is = absurd (some-none (sym is))
facts-of game taken command.Pause step may is = absurd (some-none (sym is))
facts-of game taken command.Resume step may is = absurd (some-none (sym is))
facts-of game taken command.Terminate step may is = absurd (some-none (sym is))
facts-of game taken (command.Watch shadow) step may is = absurd (some-none (sym is))
facts-of game taken command.Leave step may is = absurd (some-none (sym is))
facts-of game taken (command.Load id) step may is = absurd (some-none (sym is))
facts-of game taken command.Close step may is = absurd (some-none (sym is))
facts-of game taken command.Look step may is = absurd (some-none (sym is))

-- what holds of a step that a review takes, by its command
pub step-facts : (game : Position) (taken : List Step) (step : Step) → IsStep game taken step → StepFacts game taken step
step-facts game taken step is = facts-of game taken is.command step is.may is.is

-- a review stands at a turn of the game
pub turn_of-within : (game : Position) (taken : List Step) → AreSteps game taken → turn_of game taken ≤ length game.past
turn_of-within game [] are = omega arith
turn_of-within game (step ∷ taken) are = (step-facts game taken step are.0).within (turn_of-within game taken are.1)

-- a game without its newest acts
abbrev without_newest : ℕ → Position → Position
without_newest k game = record game { past = drop k game.past }

-- the first of further acts are those of the first actions
drop-acted_on : (base : Position) (actions : List Action) (k : ℕ) → k ≤ length actions
    → without_newest k (acted_on base actions) ≡ acted_on base (drop k actions)
drop-acted_on base actions zero low = refl
drop-acted_on base (a ∷ actions) (suc k) low = drop-acted_on base actions k (omega (arith, low))
drop-acted_on base [] (suc k) low = absurd (omega (arith, low))

length-acted_on : (base : Position) (actions : List Action) → length (acted_on base actions).past ≡ length base.past + length actions
length-acted_on base [] = omega arith
length-acted_on base (a ∷ actions) = omega (arith, length-acted_on base actions)

-- the first acts of a game that was tried on, up to some of what was tried
prefix-acted_on : (game base : Position) (actions : List Action) (turn hypos : ℕ) → base ≡ prefix game turn → turn ≤ length game.past
    → hypos ≤ length actions → prefix (acted_on base actions) (turn + hypos) ≡ acted_on base (first_of hypos actions)
prefix-acted_on game base actions turn hypos is within few =
    let long : length base.past ≡ turn =
    ap (λ (p : Position). length p.past) is ∙ omega (arith, length-drop (length game.past - turn) game.past, within) in
    let count : length (acted_on base actions).past - (turn + hypos) ≡ length actions - hypos =
    omega (arith, long, length-acted_on base actions) in
    let low : length actions - hypos ≤ length actions = omega arith in
    ap (λ n. without_newest n (acted_on base actions)) count ∙ drop-acted_on base actions (length actions - hypos) low

-- a step to a turn shows the first acts
pub reviewed-go : (game : Position) (taken : List Step) (step : Step) → step.action ≡ None → step.hypos ≡ 0
    → reviewed game (step ∷ taken) ≡ prefix game step.turn
reviewed-go game taken step none nil =
    let nothing : (actions : List Action) → first_of 0 actions ≡ [] = none-of in
    rw (none, nil) (ap (acted_on (prefix game step.turn)) (nothing (hypotheticals taken)))
  where
    all-dropped : (actions : List Action) (n : ℕ) → length actions ≤ n → drop n actions ≡ []
    all-dropped [] zero low = refl
    all-dropped [] (suc n) low = refl
    all-dropped (a ∷ actions) zero low = absurd (omega (arith, low))
    all-dropped (a ∷ actions) (suc n) low = all-dropped actions n (omega (arith, low))

    none-of : (actions : List Action) → first_of 0 actions ≡ []
    none-of actions = all-dropped actions (length actions - 0) (omega arith)

-- a step back shows the first acts of what was shown
pub reviewed-undo : (game : Position) (taken : List Step) (step : Step) → AreSteps game (step ∷ taken) → step.action ≡ None
    → (step.hypos ≡ 0 → ⊥) → (step.turn + step.hypos ≤ length (reviewed game taken).past)
    × (reviewed game (step ∷ taken) ≡ prefix (reviewed game taken) (step.turn + step.hypos))
reviewed-undo game taken step are none some =
    let facts : StepFacts game taken step = step-facts game taken step are.0 in
    let here : step.turn ≡ turn_of game taken = facts.stays some in
    let low : turn_of game taken ≤ length game.past = turn_of-within game taken are.1 in
    let base : Position = prefix game (turn_of game taken) in
    let few : step.hypos ≤ length (hypotheticals taken) = facts.few none in
    let long : length base.past ≡ turn_of game taken =
    omega (arith, length-drop (length game.past - turn_of game taken) game.past, low) in (
      omega (arith, here, long, few, length-acted_on base (hypotheticals taken)),
      rw (none, here) (sym (prefix-acted_on game base (hypotheticals taken) (turn_of game taken) step.hypos refl low few)),
    )

-- a step that tries an action shows what was shown after it
pub reviewed-hypo : (game : Position) (taken : List Step) (step : Step) (a : Action) → AreSteps game (step ∷ taken) → step.action ≡ Some a
    → (rule (reviewed game taken) (by (current (reviewed game taken)) a) ≡ None)
    × (reviewed game (step ∷ taken) ≡ after (reviewed game taken) (by (current (reviewed game taken)) a))
reviewed-hypo game taken step a are is =
    let facts : (step.turn ≡ turn_of game taken) × (hypo_rule game taken a ≡ None) = (step-facts game taken step are.0).tried a is in (
      facts.1,
      ap (λ (o : Option Action). acted_on (prefix game step.turn) (after_step step.hypos o (hypotheticals taken))) is
          ∙ ap (λ (n : ℕ). after (acted_on (prefix game n) (hypotheticals taken))
          (by (current (acted_on (prefix game n) (hypotheticals taken))) a)) facts.0,
    )
