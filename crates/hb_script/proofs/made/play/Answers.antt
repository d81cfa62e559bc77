use Rattle.std.proofs.Common.{◌≡◌, ℕ, ◌+◌, ◌-◌, ◌≤◌, ◌∙◌, ◌∷◌, None, Some, ap, arith, is_some, length, subst, suc, sym, true, rules}
use Rattle.std.proofs.lemmas.Grind.{common_steps}
use Rattle.hb_rules.specs.declared.acts.Action.{Action}
use Rattle.hb_rules.specs.declared.setups.Setup.{Setup}
use Rattle.hb_rules.specs.Positions.{IsLegal, after, current, ended, rule}
use Rattle.hb_rules.specs.Setup.{Position, by}
use Rattle.hb_request.specs.declared.requests.Ask.{Ask}
use Rattle.hb_turns.specs.GameInvariant.{IsFair}
use Rattle.hb_turns.proofs.StartLemmas.{fair-start}
use Rattle.hb_script.specs.MadeActs.{made_act, played_on}
use Rattle.hb_script.specs.MadeScripts.{table_asks}
use Rattle.hb_script.specs.MadeTables.{HasAsked}
use Rattle.hb_script.proofs.MadePlay.{asks-length, ended-full, few-players, none-of, number-low, played-done, played-more, played-some, seat-of}
use Rattle.hb_script.proofs.made.play.Goals as goal

pub returns-in_default-clause-played : goal.returns-in_default-clause-played
returns-in_default-clause-played c =
    let done : is_some (ended c.loop-taken.game) ≡ true = first_of (search rules, grind (arith, common_steps)) in
    sym (c.loop-taken.invariant.played ∙ played-some (160 - c.loop-taken.taken) c.loop-taken.game done)

pub ask-requires-clause-few : goal.ask-requires-clause-few
ask-requires-clause-few c =
    let game = c.loop-taken.game in
    let first : c.args.game.now.setup.players ≤ 6 = few-players c.args.game.now.setup.players c.requires.can.players in
    let six : game.setup.players ≤ 6 = subst (λ (g : Setup). g.players ≤ 6) (sym c.loop-taken.invariant.setup) first in
    let all = asks-length game.setup.players game.past in
    number-low c.loop-taken.lines c.args.lines.now.table c.in-Some.seat (table_asks game.setup.players game.past)
    c.loop-taken.invariant.asked
    (omega (arith, all, six, c.loop-taken.invariant.acts, c.loop-taken-test.true))

pub loop-taken-preserved : goal.loop-taken-preserved
loop-taken-preserved c =
    let game : Position = c.loop-taken.game in
    let serial : ℕ = c.args.lines.now.table in
    let applied : c.apply.new.self ≡ after game (by c.in-Some.seat c.next_action-action.result) = c.apply.ensures in
    let turn = seat-of (is_some (ended game)) (current game) c.in-Some.seat c.in-Some.ensures in
    let made : after game (by c.in-Some.seat c.next_action-action.result) ≡ after game (made_act game) =
    ap (λ (k : ℕ). after game (by k c.next_action-action.result)) turn.0
    ∙ ap (λ (a : Action). after game (by (current game) a)) c.next_action-action.ensures.is in
    let legal : rule game (made_act game) ≡ None =
    subst (λ (a : Action). rule game (by (current game) a) ≡ None) c.next_action-action.ensures.is c.next_action-action.ensures.legal in
    let more : length (after game (by c.in-Some.seat c.next_action-action.result)).past ≡ c.loop-taken.taken + 1 =
    omega (arith, c.loop-taken.invariant.acts) in
    let left : 160 - c.loop-taken.taken ≡ suc (160 - (c.loop-taken.taken + 1)) = omega (arith, c.loop-taken-test.true) in
    let asked : HasAsked c.ask.new.self serial (table_asks game.setup.players (by c.in-Some.seat c.next_action-action.result ∷ game.past)) =
    subst (λ (a : Ask). HasAsked c.ask.new.self serial (record {
      member = c.in-Some.seat;
      ask = Some a;
    } ∷ table_asks game.setup.players game.past))
    c.ask_of.ensures (c.in_ok-ask.ensures serial (table_asks game.setup.players game.past) c.loop-taken.invariant.asked) in
    record {
      setup = ap (λ (p : Position). p.setup) applied ∙ c.loop-taken.invariant.setup;
      legal = subst IsLegal (sym (applied ∙ made)) (legal, c.loop-taken.invariant.legal);
      acts = ap (λ (p : Position). length p.past) applied ∙ more;
      played = c.loop-taken.invariant.played
          ∙ played-more (160 - c.loop-taken.taken) (160 - (c.loop-taken.taken + 1)) game left (none-of (ended game) turn.1)
          ∙ ap (played_on (160 - (c.loop-taken.taken + 1))) (sym (applied ∙ made));
      asked = subst (λ (p : Position). HasAsked c.ask.new.self serial (table_asks p.setup.players p.past)) (sym applied) asked;
    }

pub returns-clause-played : goal.returns-clause-played
returns-clause-played c =
    let none : 160 - c.loop-taken.taken ≡ 0 = omega (arith, c.loop-taken-test.false) in
    sym (c.loop-taken.invariant.played ∙ played-done (160 - c.loop-taken.taken) c.loop-taken.game none)

pub returns-clause-ended : goal.returns-clause-ended
returns-clause-ended c =
    let first : IsFair c.args.game.now.setup = fair-start c.args.game.now.setup c.requires.can in
    let fair : IsFair c.loop-taken.game.setup = subst IsFair (sym c.loop-taken.invariant.setup) first in
    let full : 160 ≤ length c.loop-taken.game.past = omega (arith, c.loop-taken-test.false, c.loop-taken.invariant.acts) in
    ended-full c.loop-taken.game fair c.loop-taken.invariant.legal full
