-- Which are the facts of a room's latest table, and which entries of a member are made there? Both
-- are read off what happened in the room so far, which stands newest first.
use Rattle.std.specs.Prelude.{ℕ, ◌+◌, ◌*◌, ◌^◌, Bool, true, false, ◌&&◌, ◌==◌, List, [], ◌∷◌, ◌++◌, Option, Some, None, if◌then◌else◌, length, flat_map, option_map, bytes_eq}
use Rattle.std.specs.Option.{option_to_list}
use Rattle.hb_rules.specs.declared.acts.Options.{Options}
use Rattle.hb_rules.specs.declared.setups.Setup.{Setup}
use Rattle.hb_rules.specs.declared.suits.Identity.{Identity}
use Rattle.hb_rules.specs.declared.variants.Variant.{Variant}
use Rattle.hb_rules.specs.Cards.{cards, is_deck}
use Rattle.hb_rules.specs.Setup.{with_deck}
use Rattle.hb_rules.specs.Start.{default_options}
use Rattle.hb_suits.specs.VariantNames.{variant_of}
use Rattle.hb_deck.specs.Shuffle.{shuffle_of}
use Rattle.hb_club.specs.declared.commands.Command.{Command}
use Rattle.hb_club.specs.declared.commands.Command.TheVariants as command
use Rattle.hb_club.specs.declared.items.Item.{Item}
use Rattle.hb_club.specs.EndedReplays.{Finished}
use Rattle.hb_club.specs.OwnEntries.{OwnEntry}
use Rattle.hb_club.specs.RoomEvents.{Call, Happening, Loaded, Notes, Outcome, Replied, RoomEvent, Site}
use Rattle.hb_club.specs.Seating.{players}
use Rattle.hb_club.specs.Table.{Table}
use Rattle.hb_club.specs.TableItems.{has, is_loaded, is_opened, is_started, latest_items, opened_count}

-- the items of all tables
abbrev pub record_of : List Happening → List Item
record_of past = flat_map (λ (h : Happening). h.added) past

-- what the table was opened with

-- the options that a table holds: if it is untimed, the default times
abbrev pub held_options : Options → Options
held_options o = record o {
  base_s = if o.timed then o.base_s else default_options.base_s;
  per_turn_s = if o.timed then o.per_turn_s else default_options.per_turn_s;
}

abbrev pub opening_by : Command → List ℕ × Options
opening_by (command.Open name options) = (name, held_options options)
opening_by _ = ([], default_options)

abbrev pub opening_at : RoomEvent → List ℕ × Options
opening_at (Call e) = opening_by e.command
opening_at _ = ([], default_options)

-- the variant name and the options: those of the entry that opened the table
abbrev pub opening : List Happening → List ℕ × Options
opening [] = ([], default_options)
opening (h ∷ past) = if has is_opened h.added then opening_at h.event else opening past

-- the game that was loaded

abbrev pub brought_game : RoomEvent → Option Finished
brought_game (Notes moment (Loaded table id game)) = game
brought_game _ = None

-- the game that the clerk brought when the newest Loaded of the table was added
abbrev pub loaded_game : List Happening → Option Finished
loaded_game [] = None
loaded_game (h ∷ past) =
    if has is_opened h.added then None
    else (if has is_loaded h.added then brought_game h.event else loaded_game past)

-- the game that was started

-- the deck that the seed gives a table: all cards, shuffled by a stream of the table's own
unfoldable pub shuffled_deck : Variant → List ℕ → ℕ → List Identity
shuffled_deck v seed stream = shuffle_of (cards v) seed stream

abbrev pub stream_of : Site → ℕ → ℕ
stream_of s serial = s.room * 2 ^ 32 + serial

abbrev pub deck_when : Bool → Site → Variant → ℕ → List Identity → List Identity
deck_when true s v serial written = written
deck_when false s v serial written = shuffled_deck v s.seed (stream_of s serial)

-- the deck of a table: the written one if it is a deck of the variant, else the shuffled one
abbrev pub deck_by : Option (List Identity) → Site → Variant → ℕ → List Identity
deck_by None s v serial = shuffled_deck v s.seed (stream_of s serial)
deck_by (Some written) s v serial = deck_when (is_deck v written) s v serial written

-- the setup of a game of so many players at a table
abbrev pub setup_for : Site → ℕ → Options → ℕ → Variant → Setup
setup_for s serial options count v = with_deck v options count (deck_by s.written s v serial)

-- the setup, if a game was started. A table is opened with the name of a variant
abbrev pub setup_when : Bool → Site → ℕ → List ℕ × Options → ℕ → Option Setup
setup_when true s serial opened count =
    option_map (setup_for s serial opened.1 count) (variant_of opened.0)
setup_when false s serial opened count = None

-- the facts of the latest table
abbrev pub table_of : Site → List Happening → Table
table_of s past = let all = record_of past in let items = latest_items all in
    let opened = opening past in record {
      latest = opened_count all;
      name = opened.0;
      options = opened.1;
      items = items;
      game = setup_when (is_started items) s (opened_count all) opened (length (players items));
      loaded = loaded_game past;
    }

-- a member's entry at a table, with its reply, if the event is one
abbrev pub own_by : ℕ → List ℕ → ℕ → RoomEvent → Outcome → Option OwnEntry
own_by table member count (Call e) (Replied reply) =
    if e.table == table && bytes_eq member e.member
    then Some (record { entry = e; reply = reply; count = count }) else None
own_by table member count _ _ = None

-- a member's entries at a table
abbrev pub own_entries : ℕ → List ℕ → List Happening → List OwnEntry
own_entries table member [] = []
own_entries table member (h ∷ past) =
    let count = length (latest_items (record_of (h ∷ past))) in
    option_to_list (own_by table member count h.event h.answer) ++ own_entries table member past
