-- Bounds on what a legal history counts: it is short, at most eight tokens are held, and at most three strikes were made.
use Rattle.std.proofs.Common.{◌≡◌, ℕ, ◌+◌, ◌*◌, ◌/◌, ◌%◌, ◌<◌, ◌≤◌, Bool, true, false, List, [], ◌∷◌, refl, arith, length, Some, None, Option}
use Rattle.std.specs.Prelude.{◌==◌, if◌then◌else◌, slice_index, is_some}
use Rattle.std.proofs.lemmas.List.{get_or_past}
use Rattle.std.proofs.lemmas.List.Sums.{count_by-le-length}
use Rattle.hb_rules.specs.declared.acts.Act.{Act}
use Rattle.hb_rules.specs.declared.acts.Action.{Action}
use Rattle.hb_rules.specs.declared.acts.Action.TheVariants as action
use Rattle.hb_rules.specs.declared.setups.Setup.{Setup}
use Rattle.hb_rules.specs.Cards.{same_identity, identity}
use Rattle.hb_rules.specs.Marks.{gone_copies}
use Rattle.hb_rules.specs.Setup.{card, deal_size}
use Rattle.hb_rules.specs.Hands.{removed, left}
use Rattle.std.specs.Option.{option_or}
use Rattle.hb_rules.specs.Result.{height, lost, lost_copies, lost_by, turns, tokens, strikes, emptied, ended, called, is_last_round_over}
use Rattle.hb_rules.specs.Legality.{Legal, rule}
use Rattle.hb_rules.proofs.Rules.{may_runs, may_discard, may_clue, MayClue}
use Rattle.hb_rules.proofs.Heights.{height-le, turns-le, strikes-le, tokens-le}
use Rattle.hb_turns.specs.declared.table.Table.{Table}
use Rattle.hb_turns.specs.GameInvariant.{IsFair, IsTable}
use Rattle.hb_turns.specs.TableSteps.{HasRoom}
use Rattle.hb_turns.proofs.Fair.{rank-le}

-- each act puts at most one order on the discards
lost_by-le : (g : Setup) (past : List Act) (before : List ℕ) (act : Action) → length (lost_by g past act before) ≤ length before + 1
lost_by-le g past before (action.Play order) = grind arith
lost_by-le g past before (action.Discard order) = omega arith
lost_by-le g past before (action.Clue to clue) = omega arith
lost_by-le g past before (action.End how) = omega arith

lost-le : (g : Setup) (past : List Act) → length (lost g past) ≤ length past
lost-le g [] = omega arith
lost-le g (act ∷ past) =
    let ih : length (lost g past) ≤ length past = lost-le g past in
    let h : length (lost_by g past act.action (lost g past)) ≤ length (lost g past) + 1 =
    lost_by-le g past (lost g past) act.action in
    omega arith

-- and plays or discards at most one
removed-le : (past : List Act) → length (removed past) ≤ length past
removed-le [] = omega arith
removed-le (act ∷ past) = let ih : length (removed past) ≤ length past = removed-le past in step act.action ih
  where
    step : (a : Action) → length (removed past) ≤ length past
        → length (removed (record { who = act.who; action = a } ∷ past)) ≤ length (act ∷ past)
    step (action.Play order) ih = omega arith
    step (action.Discard order) ih = omega arith
    step (action.Clue to clue) ih = omega arith
    step (action.End how) ih = omega arith

-- no count of lost cards is near its end
lost-low : (g : Setup) (past : List Act) (t : Table) → IsTable g past t → length past ≤ 160 → (n : ℕ) → n < 30 → slice_index t.lost n < 200
lost-low g past t kept short n low =
    let s_low : n / 5 < 6 = omega arith in
    let r_low : n % 5 < 5 = omega arith in
    let index : n / 5 * 5 + n % 5 ≡ n = omega arith in
    let e : slice_index t.lost (n / 5 * 5 + n % 5)
    ≡ lost_copies g past (record { suit = n / 5; rank = n % 5 + 1 }) =
    kept.lost (n / 5) (n % 5) s_low r_low in
    let few : length (lost g past) ≤ length past = lost-le g past in
    let at : slice_index t.lost (n / 5 * 5 + n % 5) < 200 =
    omega (
      arith,
      e,
      few,
      count_by-le-length (λ order. same_identity (record { suit = n / 5; rank = n % 5 + 1 }) (card g order))
          (lost g past),
    ) in
    rw index at at

-- how often an identity is gone, by its number
pub gone-at : (g : Setup) (past : List Act) (t : Table) → IsTable g past t → (n : ℕ) → n < 30
    → slice_index t.gone n ≡ gone_copies g past (identity n)
gone-at g past t kept n low =
    let s_low : n / 5 < 6 = omega arith in
    let r_low : n % 5 < 5 = omega arith in
    let index : n / 5 * 5 + n % 5 ≡ n = omega arith in
    let e : slice_index t.gone (n / 5 * 5 + n % 5)
    ≡ gone_copies g past (record { suit = n / 5; rank = n % 5 + 1 }) =
    kept.gone (n / 5) (n % 5) s_low r_low in
    rw index at e

-- and no count of cards that are gone
gone-low : (g : Setup) (past : List Act) (t : Table) → IsTable g past t → length past ≤ 160 → (n : ℕ) → n < 30 → slice_index t.gone n < 200
gone-low g past t kept short n low =
    let e : slice_index t.gone n ≡ gone_copies g past (identity n) = gone-at g past t kept n low in
    omega (arith, e, removed-le past, count_by-le-length (λ order. same_identity (identity n) (card g order)) (removed past))

-- no count of a short history is near its end
pub has-room : (g : Setup) (past : List Act) (t : Table) → IsFair g → IsTable g past t → length past ≤ 160 → HasRoom t
has-room g past t fair kept short = record {
  removed = omega (arith, kept.removed, removed-le past);
  turns = omega (arith, kept.turns, turns-le past);
  tokens = omega (arith, kept.tokens, tokens-le g past);
  strikes = omega (arith, kept.strikes, strikes-le g past);
  stacks = λ s. let high : (i : ℕ) → height g past i ≤ 5 = height-le g 5 (rank-le g fair) past in
      grind (arith, kept.stacks s, high s, get_or_past t.stacks s 0, kept.many_stacks);
  lost = λ n. let low : n < 30 → slice_index t.lost n < 200 = lost-low g past t kept short n in
      grind (arith, low, get_or_past t.lost n 0, kept.many_lost);
  gone = λ n. let low : n < 30 → slice_index t.gone n < 200 = gone-low g past t kept short n in
      grind (arith, low, get_or_past t.gone n 0, kept.many_gone);
}

-- in a game that runs no end was called, and the last round is not over
pub not-called : (g : Setup) (past : List Act) → is_some (ended g past) ≡ false
    → (called past ≡ None) × (is_last_round_over g (emptied g past) (turns past) ≡ false)
unfolding ended
not-called g past h = grind arith

-- a game that runs has not had its third strike
not-struck : (g : Setup) (past : List Act) → is_some (ended g past) ≡ false → (strikes g past == 3) ≡ false
unfolding ended
not-struck g past h = grind arith

-- at most eight tokens are held
pub tokens-most : (g : Setup) (past : List Act) → Legal g past → tokens g past ≤ 8
tokens-most g [] legal = omega arith
tokens-most g (act ∷ past) legal = step act.action legal.0 (tokens-most g past legal.1)
  where
    step : (a : Action) → rule g past (record { who = act.who; action = a }) ≡ None → tokens g past ≤ 8
        → tokens g (record { who = act.who; action = a } ∷ past) ≤ 8
    step (action.Play order) may ih = grind arith
    step (action.Discard order) may ih =
        let room : (tokens g past == 8) ≡ false = (may_discard g past act.who order may).room in grind arith
    step (action.Clue to clue) may ih = omega arith
    step (action.End how) may ih = ih

-- and there are at most three strikes
pub strikes-most : (g : Setup) (past : List Act) → Legal g past → strikes g past ≤ 3
strikes-most g [] legal = omega arith
strikes-most g (act ∷ past) legal =
    step act.action (not-struck g past (may_runs g past act.who act.action legal.0))
    (strikes-most g past legal.1)
  where
    step : (a : Action) → (strikes g past == 3) ≡ false → strikes g past ≤ 3 → strikes g (record { who = act.who; action = a } ∷ past) ≤ 3
    step (action.Play order) few ih = grind arith
    step (action.Discard order) few ih = ih
    step (action.Clue to clue) few ih = ih
    step (action.End how) few ih = ih

-- while no end was called each act is a turn
all-turns : (g : Setup) (past : List Act) → Legal g past → is_some (ended g past) ≡ false → length past ≡ turns past
all-turns g [] legal runs = refl
all-turns g (act ∷ past) legal runs =
    let ih : length past ≡ turns past = all-turns g past legal.1 (may_runs g past act.who act.action legal.0) in
    step act.action ih (not-called g (act ∷ past) runs).0
  where
    step : (a : Action) → length past ≡ turns past → called (record { who = act.who; action = a } ∷ past) ≡ None
        → length (act ∷ past) ≡ turns (record { who = act.who; action = a } ∷ past)
    step (action.Play order) ih uncalled = omega arith
    step (action.Discard order) ih uncalled = omega arith
    step (action.Clue to clue) ih uncalled = omega arith
    step (action.End how) ih uncalled = cc

-- a clue costs a token, and only a play or discard gives one
tokens-bound : (g : Setup) (past : List Act) → Legal g past → turns past + tokens g past ≤ 8 + 2 * length (removed past)
tokens-bound g [] legal = omega arith
tokens-bound g (act ∷ past) legal = step act.action legal.0 (tokens-bound g past legal.1)
  where
    step : (a : Action) → rule g past (record { who = act.who; action = a }) ≡ None
        → turns past + tokens g past ≤ 8 + 2 * length (removed past) →
        turns (record { who = act.who; action = a } ∷ past)
        + tokens g (record { who = act.who; action = a } ∷ past)
        ≤ 8 + 2 * length (removed (record { who = act.who; action = a } ∷ past))
    step (action.Play order) may ih = grind arith
    step (action.Discard order) may ih = grind arith
    step (action.Clue to clue) may ih =
        let m : MayClue g past act.who to clue = may_clue g past act.who to clue may in grind (arith, m.some)
    step (action.End how) may ih = ih

-- what the deck says of the plays and discards: before it is empty, and from then on
abbrev DeckSays : Setup → List Act → Option ℕ → Type 0
DeckSays g past None = deal_size g + length (removed past) < length g.deck.items
DeckSays g past (Some e) = (deal_size g + length (removed past) + e ≤ length g.deck.items + turns past) × (e ≤ turns past)

-- what holds where the deck may have become empty just now
says-new : (g : Setup) (past : List Act) → deal_size g + length (removed past) ≤ length g.deck.items
    → DeckSays g past (if left g past == 0 then Some (turns past) else None)
says-new g past within = pick (left g past == 0) refl
  where
    pick : (b : Bool) → (left g past == 0) ≡ b → DeckSays g past (if b then Some (turns past) else None)
    pick true e = (omega arith, omega arith)
    pick false e = grind arith

-- an act more changes no moment at which the deck was empty
says-step : (g : Setup) (past : List Act) (who : ℕ) (a : Action) (o : Option ℕ) → DeckSays g past o
    → DeckSays g (record { who = who; action = a } ∷ past)
    (option_or o
    (if left g (record { who = who; action = a } ∷ past) == 0
    then Some (turns (record { who = who; action = a } ∷ past)) else None))
says-step g past who (action.Play order) (Some e) h = (omega (arith, h.0), omega (arith, h.1))
says-step g past who (action.Discard order) (Some e) h = (omega (arith, h.0), omega (arith, h.1))
says-step g past who (action.Clue to clue) (Some e) h = (omega (arith, h.0), omega (arith, h.1))
says-step g past who (action.End how) (Some e) h = h
says-step g past who (action.Play order) None h = says-new g (record { who = who; action = action.Play order } ∷ past) (omega (arith, h))
says-step g past who (action.Discard order) None h =
    says-new g (record { who = who; action = action.Discard order } ∷ past) (omega (arith, h))
says-step g past who (action.Clue to clue) None h =
    says-new g (record { who = who; action = action.Clue to clue } ∷ past) (omega (arith, h))
says-step g past who (action.End how) None h = says-new g (record { who = who; action = action.End how } ∷ past) (omega (arith, h))

deck-says : (g : Setup) (past : List Act) → deal_size g ≤ length g.deck.items → DeckSays g past (emptied g past)
deck-says g [] dealt = says-new g [] (omega arith)
deck-says g (act ∷ past) dealt = says-step g past act.who act.action (emptied g past) (deck-says g past dealt)

-- no more turns than players come after the deck is empty
in-last-round : (g : Setup) (past : List Act) → 2 ≤ g.players → Legal g past → is_some (ended g past) ≡ false
    → (e : ℕ) → emptied g past ≡ Some e → turns past < e + g.players
in-last-round g [] two legal runs e here = omega arith
in-last-round g (act ∷ past) two legal runs e here =
    pick (emptied g past) refl (in-last-round g past two legal.1 (may_runs g past act.who act.action legal.0))
  where
    pick : (o : Option ℕ) → emptied g past ≡ o
        → ((f : ℕ) → emptied g past ≡ Some f → turns past < f + g.players) → turns (act ∷ past) < e + g.players
    pick None was ih =
        let now : option_or None (if left g (act ∷ past) == 0 then Some (turns (act ∷ past)) else None)
        ≡ Some e =
        rw was at here in
        grind arith
    pick (Some f) was ih = let now : Some f ≡ Some e = rw was at here in let before : turns past < f + g.players = ih f was in
        let over : is_last_round_over g (emptied g (act ∷ past)) (turns (act ∷ past)) ≡ false = (not-called g (act ∷ past) runs).1 in
        let over' : is_last_round_over g (Some e) (turns (act ∷ past)) ≡ false = rw here at over in grind arith

-- a game that runs has fewer acts than there is room for
pub few-acts : (g : Setup) (past : List Act) → IsFair g → Legal g past → is_some (ended g past) ≡ false → length past < 160
few-acts g past fair legal runs = finish (emptied g past) refl (deck-says g past fair.dealt)
  where
    finish : (o : Option ℕ) → emptied g past ≡ o → DeckSays g past o → length past < 160
    finish None here says = omega (arith, fair.long, all-turns g past legal runs, tokens-bound g past legal)
    finish (Some e) here says =
        omega (
          arith,
          fair.long,
          fair.six,
          says.0,
          says.1,
          in-last-round g past fair.two legal runs e here,
          all-turns g past legal runs,
          tokens-bound g past legal,
        )
