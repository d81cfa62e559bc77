-- How is each line of a game spelled, as a function of what a viewer is told? The lines are this
-- project's own.
use Rattle.std.specs.Prelude.{ℕ, ◌+◌, Bool, List, [], ◌∷◌, ◌++◌, Option, Some, None, codes, flat_map, if◌then◌else◌, map}
use Rattle.serde_json.specs.Data.{Data, null, boolean, string, array, object, no_items, item, no_members, member}
use Rattle.serde_json.specs.View.{items_of}
use Rattle.hb_rules.specs.declared.acts.Clue.{Clue}
use Rattle.hb_rules.specs.declared.acts.Clue.TheVariants as clue
use Rattle.hb_rules.specs.declared.acts.EndHow.{EndHow}
use Rattle.hb_rules.specs.declared.acts.Options.{Options}
use Rattle.hb_rules.specs.declared.events.Event.{Event}
use Rattle.hb_rules.specs.declared.events.Event.TheVariants as event
use Rattle.hb_rules.specs.declared.suits.Identity.{Identity}
use Rattle.hb_rules.specs.declared.limits.TheConstants.{IDENTITIES}
use Rattle.hb_rules.specs.Cards.{identity, in_range}
use Rattle.hb_rules.specs.Numbers.{end_number}
use Rattle.hb_json.specs.Line.{line}
use Rattle.hb_json.specs.Values.{whole, wholes_data, texts_data, options_data, seat_data}
use Rattle.hb_wire.specs.declared.sets.TheConstants.{SET_LIMIT}
use Rattle.hb_wire.specs.declared.state.State.{State}
use Rattle.hb_sets.specs.Sets.{members}

-- `a1` is rank 1 of suit 0, since 97 is the byte of `a` and 48 that of `0`; a pair that is no
-- identity is `?`
abbrev pub identity_text : Identity → List ℕ
identity_text id = if in_range id then (97 + id.suit) ∷ (48 + id.rank) ∷ [] else codes "?"

-- identities, one after the other
abbrev pub identities_text : List Identity → List ℕ
identities_text = flat_map identity_text

-- a card, or null
abbrev pub card_data : Option Identity → Data
card_data None = null
card_data (Some id) = string (identity_text id)

-- the orders of a set, ascending
abbrev pub orders_of : ℕ → List ℕ
orders_of = members SET_LIMIT

-- a card that a seat drew or discarded
abbrev pub drawn_data : Option Identity → ℕ → ℕ → Data
drawn_data card order seat =
    object (member (codes "card") (card_data card)
    (member (codes "order") (whole order)
    (member (codes "seat") (whole seat) no_members)))

-- a card that a seat played, and whether it fits
abbrev pub played_data : Identity → Bool → ℕ → ℕ → Data
played_data card fits order seat =
    object (member (codes "card") (string (identity_text card))
    (member (codes "fits") (boolean fits)
    (member (codes "order") (whole order)
    (member (codes "seat") (whole seat) no_members))))

-- a clue, with the orders that it touches
abbrev pub clue_data : ℕ → ℕ → Clue → ℕ → Data
clue_data giver to (clue.Color index) touched =
    object (member (codes "color") (whole index)
    (member (codes "from") (whole giver)
    (member (codes "to") (whole to)
    (member (codes "touched") (wholes_data (orders_of touched)) no_members))))
clue_data giver to (clue.Rank rank) touched =
    object (member (codes "from") (whole giver)
    (member (codes "rank") (whole rank)
    (member (codes "to") (whole to)
    (member (codes "touched") (wholes_data (orders_of touched)) no_members))))

-- an end, the seat that called it, and the score
abbrev pub end_data : EndHow → Option ℕ → ℕ → Data
end_data how by score =
    object (member (codes "by") (seat_data by)
    (member (codes "how") (whole (end_number how))
    (member (codes "score") (whole score) no_members)))

-- the whole deck
abbrev pub deck_data : List Identity → Data
deck_data cards = object (member (codes "cards") (string (identities_text cards)) no_members)

-- the word of an event's line
abbrev pub event_word : Event → List ℕ
event_word (event.Drawn seat order id) = codes "draw"
event_word (event.Played seat order id fits) = codes "play"
event_word (event.Discarded seat order id) = codes "discard"
event_word (event.Clued giver to clue touched) = codes "clue"
event_word (event.Ended how by score) = codes "end"
event_word (event.Deck deck) = codes "deck"

-- what an event's line says
abbrev pub event_data : Event → Data
event_data (event.Drawn seat order id) = drawn_data id order seat
event_data (event.Played seat order id fits) = played_data id fits order seat
event_data (event.Discarded seat order id) = drawn_data (Some id) order seat
event_data (event.Clued giver to clue touched) = clue_data giver to clue touched
event_data (event.Ended how by score) = end_data how by score
event_data (event.Deck deck) = deck_data deck.items

-- the line of an event
abbrev pub event_line : Event → List ℕ
event_line e = line (event_word e) (event_data e)

-- each event on a line of its own
abbrev pub event_lines : List Event → List ℕ
event_lines = flat_map (λ e. event_line e ++ codes "\n")

-- what begins a game: its options, with the variant by its name, and its players
abbrev pub game_data : List ℕ → Options → List (List ℕ) → Data
game_data name options players =
    object (member (codes "options") (options_data name options)
    (member (codes "players") (texts_data players) no_members))

-- the line that begins a game
abbrev pub game_line : List ℕ → Options → List (List ℕ) → List ℕ
game_line name options players = line (codes "game") (game_data name options players)

-- how a game stands
abbrev pub state_data : State → Data
state_data s =
    object (member (codes "current") (seat_data s.current)
    (member (codes "deck") (whole s.deck)
    (member (codes "score") (whole s.score)
    (member (codes "stacks") (wholes_data s.stacks.items)
    (member (codes "strikes") (whole s.strikes)
    (member (codes "tokens") (whole s.tokens)
    (member (codes "turn") (whole s.turn) no_members)))))))

-- the line of a state
abbrev pub state_line : State → List ℕ
state_line s = line (codes "state") (state_data s)

-- identity numbers as texts, one after the other
abbrev pub numbers_text : List ℕ → List ℕ
numbers_text numbers = identities_text (map identity numbers)

-- a card's order with a set of identity numbers, as a list
abbrev pub listed : ℕ × ℕ → ℕ × List ℕ
listed (order, set) = (order, members IDENTITIES set)

-- a card's order with the identities of a list of numbers
abbrev pub set_data : ℕ × List ℕ → Data
set_data (order, numbers) =
    array (item (whole order) (item (string (numbers_text numbers)) no_items))

-- cards, each with the identities that it can have
abbrev pub sets_data : List (ℕ × List ℕ) → Data
sets_data cards = array (items_of (map set_data cards))

-- the cards of a seat's hand
abbrev pub hand_data : ℕ → List (ℕ × List ℕ) → Data
hand_data seat cards =
    object (member (codes "seat") (whole seat) (member (codes "sets") (sets_data cards) no_members))

-- the line of a hand
abbrev pub hand_line : ℕ → List (ℕ × List ℕ) → List ℕ
hand_line seat cards = line (codes "hand") (hand_data seat cards)
