-- Which rule does an act break, and what is a legal history? The rules are the rulebook's, except
-- this project's own: their order, that a clue which touches nothing is refused unless an option
-- allows it, and the ends that are called.
use Rattle.std.specs.Prelude.{◌≡◌, ℕ, Bool, true, false, not, ◌&&◌, ◌==◌, List, [], ◌∷◌, Option, None, nat_le, is_none, is_some, ⊤, filter}
use Rattle.std.specs.List.{find}
use Rattle.hb_rules.specs.declared.acts.Act.{Act}
use Rattle.hb_rules.specs.declared.acts.Action.{Action}
use Rattle.hb_rules.specs.declared.acts.Action.TheVariants as action
use Rattle.hb_rules.specs.declared.acts.Clue.{Clue}
use Rattle.hb_rules.specs.declared.acts.EndHow.{EndHow}
use Rattle.hb_rules.specs.declared.acts.EndHow.TheVariants.{Normal, Strikeout, Timeout, Terminated}
use Rattle.hb_rules.specs.declared.acts.Rule.{Rule}
use Rattle.hb_rules.specs.declared.acts.Rule.TheVariants.{GameOver, NotYourTurn, NotInHand, AllTokens, NoTokens, NoSuchSeat, SelfClue, NoSuchClue, TouchesNothing, NoSuchEnd}
use Rattle.hb_rules.specs.declared.limits.TheConstants.{FULL_TOKENS}
use Rattle.hb_rules.specs.declared.setups.Setup.{Setup}
use Rattle.hb_rules.specs.Setup.{card}
use Rattle.hb_rules.specs.Touch.{offers, touches}
use Rattle.hb_rules.specs.Hands.{holder, hand, is_at}
use Rattle.hb_rules.specs.Result.{ended, current, tokens}

-- the orders of a hand that a clue touches, ascending
abbrev pub touched : Setup → List Act → ℕ → Clue → List ℕ
touched g past to clue = filter (λ order. touches g.variant clue (card g order)) (hand g past to)

-- nothing is in the list
abbrev pub is_empty : List ℕ → Bool
is_empty [] = true
is_empty (x ∷ xs) = false

-- the ends that can be called; the others are the game's own
abbrev pub is_call : EndHow → Bool
is_call Normal = false
is_call Strikeout = false
is_call Timeout = true
is_call Terminated = true

-- the act breaks the rule; each rule is for the actions named here, and GameOver and NotYourTurn
-- for those that say nothing else
abbrev pub breaks : Setup → List Act → ℕ → Action → Rule → Bool
breaks g past who (action.Play order) NotInHand = not (is_at (holder g past order) who)
breaks g past who (action.Discard order) NotInHand = not (is_at (holder g past order) who)
breaks g past who (action.Discard order) AllTokens = tokens g past == FULL_TOKENS
breaks g past who (action.Clue to clue) NoTokens = tokens g past == 0
breaks g past who (action.Clue to clue) NoSuchSeat = nat_le g.players to
breaks g past who (action.Clue to clue) SelfClue = to == who
breaks g past who (action.Clue to clue) NoSuchClue = not (offers g.variant clue)
breaks g past who (action.Clue to clue) TouchesNothing =
    is_empty (touched g past to clue) && not g.options.empty_clues
breaks g past who (action.End how) NotYourTurn = false
breaks g past who (action.End how) NoSuchSeat = nat_le g.players who
breaks g past who (action.End how) NoSuchEnd = not (is_call how)
breaks g past who act GameOver = is_some (ended g past)
breaks g past who act NotYourTurn = not (who == current g past)
breaks g past who act rule = false

-- the rules, in the order in which they are tried
abbrev pub rules : List Rule
rules =
    GameOver ∷ NotYourTurn ∷ NotInHand ∷ AllTokens ∷ NoTokens
    ∷ NoSuchSeat ∷ SelfClue ∷ NoSuchClue ∷ TouchesNothing ∷ NoSuchEnd ∷ []

-- the first rule that the act breaks
unfoldable pub rule : Setup → List Act → Act → Option Rule
rule g past act = find (breaks g past act.who act.action) rules

-- a legal history: each act breaks no rule after the acts before it
abbrev pub Legal : Setup → List Act → Type 0
Legal g [] = ⊤
Legal g (act ∷ past) = (rule g past act ≡ None) × Legal g past

-- the same as a test
abbrev pub is_legal : Setup → List Act → Bool
is_legal g [] = true
is_legal g (act ∷ past) = is_none (rule g past act) && is_legal g past
