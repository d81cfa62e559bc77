-- When are two events one?
use Rattle.std.specs.Prelude.{Bool, false, not, ◌&&◌, ◌==◌, List, if◌then◌else◌}
use Rattle.std.specs.Cmp.Lexicographic.{pointwise}
use Rattle.std.specs.Option.{option_eq}
use Rattle.hb_rules.specs.declared.acts.Clue.{Clue}
use Rattle.hb_rules.specs.declared.acts.Clue.TheVariants as clue
use Rattle.hb_rules.specs.declared.events.Event.{Event}
use Rattle.hb_rules.specs.declared.events.Event.TheVariants as event
use Rattle.hb_rules.specs.Cards.{same_identity}
use Rattle.hb_rules.specs.Numbers.{end_number}

-- the two clues are one
abbrev pub same_clue : Clue → Clue → Bool
same_clue (clue.Color c) (clue.Color d) = c == d
same_clue (clue.Rank r) (clue.Rank s) = r == s
same_clue (clue.Color c) (clue.Rank s) = false
same_clue (clue.Rank r) (clue.Color d) = false

-- the two events are one
abbrev pub same_event : Event → Event → Bool
same_event (event.Drawn seat order id) (event.Drawn seat' order' id') =
    seat == seat' && order == order' && option_eq same_identity id id'
same_event (event.Played seat order id fits) (event.Played seat' order' id' fits') =
    seat == seat' && order == order' && same_identity id id'
    && (if fits then fits' else not fits')
same_event (event.Discarded seat order id) (event.Discarded seat' order' id') =
    seat == seat' && order == order' && same_identity id id'
same_event (event.Clued giver to clue touched) (event.Clued giver' to' clue' touched') =
    giver == giver' && to == to'
    && same_clue clue clue' && touched == touched'
same_event (event.Ended how by score) (event.Ended how' by' score') =
    end_number how == end_number how'
    && option_eq ◌==◌ by by' && score == score'
same_event (event.Deck deck) (event.Deck deck') =
    pointwise same_identity deck.items deck'.items
same_event _ _ = false

-- the two lists of events are one
abbrev pub same_events : List Event → List Event → Bool
same_events = pointwise same_event
