-- Which events does an act have, if each of its parts is known?
use Rattle.std.proofs.Common.{◌≡◌, ℕ, ◌++◌, refl, subst, Some, None, Option}
use Rattle.std.specs.Option.{option_to_list}
use Rattle.hb_rules.specs.declared.acts.Act.{Act}
use Rattle.hb_rules.specs.declared.acts.EndHow.{EndHow}
use Rattle.hb_rules.specs.Events.{caller, draws, ends, told}
use Rattle.hb_rules.specs.Hands.{joins}
use Rattle.hb_rules.specs.Positions.{act_events, after, ended}
use Rattle.hb_rules.specs.Setup.{Position}
use Rattle.hb_sight.specs.declared.acts.ActEvents.{ActEvents}
use Rattle.hb_sight.specs.ActEvents.{AreActEvents, deck_part, end_part, event_list}

-- the end and the deck are told together
ends-parts : (p : Position) (by : Option ℕ) (how : Option EndHow) → end_part p by how ++ deck_part p.setup how ≡ ends p.setup p.past by how
ends-parts p by None = refl
ends-parts p by (Some how) = refl

-- the parts, by the position after the act and the seat that called an end
pub parts-from : (p next : Position) (act : Act) (by : Option ℕ) (t : ActEvents) → next ≡ after p act → by ≡ caller act.who act.action
    → option_to_list t.act ≡ told p.setup p.past act.who act.action
    → option_to_list t.draw ≡ draws p.setup act.who (joins p.setup p.past act)
    → option_to_list t.end ≡ end_part next by (ended next) → option_to_list t.deck ≡ deck_part next.setup (ended next)
    → AreActEvents p act t
parts-from p next act by t is called acted drawn over decked = record {
  act = acted;
  draw = drawn;
  end = subst (λ (q : Position). option_to_list t.end ≡ end_part q (caller act.who act.action) (ended q)) is
      (subst (λ (o : Option ℕ). option_to_list t.end ≡ end_part next o (ended next)) called over);
  deck = subst (λ (q : Position). option_to_list t.deck ≡ deck_part q.setup (ended q)) is decked;
}

-- the parts together are the act's events
pub event_list-parts : (p : Position) (act : Act) (t : ActEvents) → AreActEvents p act t → event_list t ≡ act_events p act
event_list-parts p act t parts =
    rw (parts.act, parts.draw, parts.end, parts.deck, ends-parts (after p act) (caller act.who act.action) (ended (after p act))) refl
