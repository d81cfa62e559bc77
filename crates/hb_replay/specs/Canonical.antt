-- In which one text is a replay written? It is a JSON value without spaces, whose keys `put` keeps
-- in byte order.
use Rattle.std.specs.Prelude.{ℕ, List, codes, map, not, ◌==◌, length, reverse}
use Rattle.serde_json.specs.Data.{Data, array, object, no_members, member, put}
use Rattle.serde_json.specs.View.{items_of}
use Rattle.serde_json.specs.Written.{compact_text}
use Rattle.hb_json.specs.Values.{whole, texts_data, put_if, options_data, action_data}
use Rattle.hb_rules.specs.declared.suits.Identity.{Identity}
use Rattle.hb_rules.specs.declared.acts.Act.{Act}
use Rattle.hb_replay.specs.Contents.{Contents}

-- a card
abbrev pub card_data : Identity → Data
card_data id =
    object
    (member (codes "rank") (whole id.rank)
    (member (codes "suitIndex") (whole id.suit) no_members))

abbrev pub act_data : Act → Data
act_data act = action_data act.who act.action

abbrev pub cards_data : List Identity → Data
cards_data cards = array (items_of (map card_data cards))

abbrev pub acts_data : List Act → Data
acts_data acts = array (items_of (map act_data acts))

abbrev pub notes_data : List (List (List ℕ)) → Data
notes_data notes = array (items_of (map texts_data notes))

-- the value of a replay; notes are written if there are any
unfoldable pub replay_data : Contents → Data
replay_data r = object (
    put_if (not (length r.notes == 0)) (codes "notes") (notes_data r.notes)
    (put (codes "players") (texts_data r.players)
    (put (codes "options") (options_data r.name r.game.setup.options)
    (put (codes "deck") (cards_data r.game.setup.deck.items)
    (put (codes "actions") (acts_data (reverse r.game.past)) no_members)))))

-- its text
abbrev pub canonical_text : Contents → List ℕ
canonical_text r = compact_text (replay_data r)
