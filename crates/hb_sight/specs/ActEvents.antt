-- Which event does each field of an act's events hold?
use Rattle.std.specs.Prelude.{◌≡◌, ℕ, List, [], ◌∷◌, ◌++◌, Option, Some, None}
use Rattle.std.specs.Option.{option_to_list}
use Rattle.hb_rules.specs.declared.events.Event.{Event}
use Rattle.hb_rules.specs.declared.events.Event.TheVariants as event
use Rattle.hb_rules.specs.declared.acts.Act.{Act}
use Rattle.hb_rules.specs.declared.acts.EndHow.{EndHow}
use Rattle.hb_rules.specs.declared.setups.Setup.{Setup}
use Rattle.hb_rules.specs.Events.{caller, draws, told}
use Rattle.hb_rules.specs.Hands.{joins}
use Rattle.hb_rules.specs.Positions.{after, ended, score}
use Rattle.hb_rules.specs.Setup.{Position}
use Rattle.hb_sight.specs.declared.acts.ActEvents.{ActEvents}

-- in order: what is told of the act, the card that is drawn, the end, and the deck
abbrev pub event_list : ActEvents → List Event
event_list t =
    option_to_list t.act ++ option_to_list t.draw ++ (option_to_list t.end ++ option_to_list t.deck)

-- what is told of an end, without the deck
abbrev pub end_part : Position → Option ℕ → Option EndHow → List Event
end_part p by (Some how) = event.Ended how by (score p) ∷ []
end_part p by None = []

-- the deck that is told of at an end
abbrev pub deck_part : Setup → Option EndHow → List Event
deck_part g (Some how) = event.Deck g.deck ∷ []
deck_part g None = []

-- each field holds what its name says of an act that is taken at a position
pub record AreActEvents (p : Position) (latest : Act) (t : ActEvents) : Type 0 where
  pub act : option_to_list t.act ≡ told p.setup p.past latest.who latest.action
  pub draw : option_to_list t.draw ≡ draws p.setup latest.who (joins p.setup p.past latest)
  pub end : option_to_list t.end
      ≡ end_part (after p latest) (caller latest.who latest.action) (ended (after p latest))
  pub deck : option_to_list t.deck ≡ deck_part p.setup (ended (after p latest))
