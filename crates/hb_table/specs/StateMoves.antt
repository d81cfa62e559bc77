-- Internal: no public clause cites this.
-- How does one event move the state of a room?
use Rattle.std.specs.Prelude.{ℕ, ◌+◌, Bool, true, false, List, [], ◌∷◌, ◌++◌, Option, Some, None, length, max, option_map}
use Rattle.std.specs.Option.{option_to_list}
use Rattle.hb_rules.specs.declared.acts.Options.{Options}
use Rattle.hb_rules.specs.declared.setups.Setup.{Setup}
use Rattle.hb_rules.specs.Numbers.{state_number}
use Rattle.hb_rules.specs.Positions.{ended, score}
use Rattle.hb_keeper.specs.declared.rows.GameRow.{GameRow}
use Rattle.hb_keeper.specs.declared.rows.Key.{Key}
use Rattle.hb_club.specs.declared.clerks.Noted.{Noted}
use Rattle.hb_club.specs.declared.clerks.Todo.{Todo}
use Rattle.hb_club.specs.declared.commands.Entry.{Entry}
use Rattle.hb_club.specs.declared.items.Item.{Item}
use Rattle.hb_club.specs.declared.items.What.{What}
use Rattle.hb_club.specs.declared.items.What.TheVariants as what
use Rattle.hb_club.specs.declared.replies.Reply.{Reply}
use Rattle.hb_club.specs.ClerkCalls.{SetNote, is_due, note_lists, noted_by}
use Rattle.hb_club.specs.EndedReplays.{Finished, game_text}
use Rattle.hb_club.specs.OwnEntries.{OwnEntry}
use Rattle.hb_club.specs.NewItems.{by_seat, greatest_stamp}
use Rattle.hb_club.specs.RoomEvents.{Call, Happening, Notice, Replied, RoomEvent, Site, event_moment, in_time}
use Rattle.hb_club.specs.Seating.{players}
use Rattle.hb_club.specs.Table.{Table}
use Rattle.hb_club.specs.TableFacts.{own_by, setup_when, table_of}
use Rattle.hb_club.specs.TableRefusals.{is_accepted, reply_on}
use Rattle.hb_club.specs.TableReview.{played_game}
use Rattle.hb_club.specs.TimeFirst.{timeout, with_items}
use Rattle.hb_table.specs.State.{State, host_load, state_of}

-- an item with its stamp
abbrev pub item_at : ℕ → What → Item
item_at moment w = record { moment = moment; what = w }

-- what an entry and a note are answered in a state

abbrev pub reply_in : State → Entry → Reply
reply_in x e = reply_on x.table (x.own e.member) e

abbrev pub accepts : State → Entry → Bool
accepts x e = is_accepted x.table (x.own e.member) e

abbrev pub noted_in : State → Notice → Noted
noted_in x n = noted_by x.table (host_load x) n

-- the greatest stamp of the latest table
abbrev pub latest_stamp : State → ℕ
latest_stamp x = max (greatest_stamp x.table.items) x.stamp

-- the stamp that an event has in a state: its moment, but not below a stamp of the table
abbrev pub stamp_in : State → ℕ → ℕ
stamp_in x moment = max (in_time moment) (latest_stamp x)

-- what time adds before an event
abbrev pub late_items : Site → List Happening → RoomEvent → List Item
late_items s past e = timeout (table_of s past) (table_of s past).game (event_moment e)

-- more items that open, start and load nothing, and are no command's
abbrev pub with_more : List Item → State → State
with_more more x =
    record { table = with_items more x.table; own = x.own; stamp = x.stamp; notes = x.notes }

-- the state once time was applied
abbrev pub timed_state : Site → List Happening → RoomEvent → State
timed_state s past e = with_more (late_items s past e) (state_of s past)

-- moves by an accepted command

-- one more item, which opens, starts and loads nothing
abbrev pub with_item : ℕ → What → State → State
with_item moment w x = record {
  table = with_items (item_at moment w ∷ []) x.table;
  own = x.own;
  stamp = max moment x.stamp;
  notes = x.notes;
}

-- no item
abbrev pub with_stamp : ℕ → State → State
with_stamp moment x =
    record { table = x.table; own = x.own; stamp = max moment x.stamp; notes = x.notes }

-- one more note
abbrev pub with_note : ℕ → SetNote → State → State
with_note moment n x =
    record { table = x.table; own = x.own; stamp = max moment x.stamp; notes = n ∷ x.notes }

-- the table with a game of these players, by seat, which starts
abbrev pub started_table : Site → ℕ → List (List ℕ) → Table → Table
started_table s moment names t = record {
  latest = t.latest;
  name = t.name;
  options = t.options;
  items = item_at moment (what.Started (by_seat names)) ∷ t.items;
  game = setup_when true s t.latest (t.name, t.options) (length names);
  loaded = t.loaded;
}

abbrev pub with_start : Site → ℕ → List (List ℕ) → State → State
with_start s moment names x = record {
  table = started_table s moment names x.table;
  own = x.own;
  stamp = max moment x.stamp;
  notes = x.notes;
}

-- a new table: all facts begin anew
abbrev pub new_table : ℕ → List ℕ → Options → Item → Table
new_table serial name options i = record {
  latest = serial;
  name = name;
  options = options;
  items = i ∷ [];
  game = None;
  loaded = None;
}

-- the state with a new table, at which these own entries count
abbrev pub with_table : ℕ → List ℕ → List ℕ × Options → (List ℕ → List OwnEntry) → State → State
with_table moment host opened own x = record {
  table = new_table (x.table.latest + 1) opened.0 opened.1 (item_at moment (what.Opened host));
  own = own;
  stamp = moment;
  notes = [];
}

-- one more entry with its reply
abbrev pub own_with : Entry → Reply → State → List ℕ → List OwnEntry
own_with e reply x member = let count = length x.table.items in
    option_to_list (own_by x.table.latest member count (Call e) (Replied reply)) ++ x.own member

abbrev pub with_entry : Entry → Reply → State → State
with_entry e reply x =
    record { table = x.table; own = own_with e reply x; stamp = x.stamp; notes = x.notes }

-- moves by a note of the clerk

-- one more item, which opens, starts and loads nothing
abbrev pub with_noted : ℕ → What → State → State
with_noted moment w x = with_more (item_at moment w ∷ []) x

-- the table with the game for which it asked
abbrev pub loaded_table : ℕ → ℕ → Option Finished → Table → Table
loaded_table moment id game t = record {
  latest = t.latest;
  name = t.name;
  options = t.options;
  items = item_at moment (what.Loaded id) ∷ t.items;
  game = t.game;
  loaded = game;
}

abbrev pub with_loaded : ℕ → ℕ → Option Finished → State → State
with_loaded moment id game x = record {
  table = loaded_table moment id game x.table;
  own = x.own;
  stamp = x.stamp;
  notes = x.notes;
}

-- what there is for the clerk to do in a state

-- the latest table's game as it is to be kept
abbrev pub row_in : State → Setup → GameRow
row_in x g = let names = players x.table.items in let game = played_game g x.table.items in
    let notes = note_lists names (length g.deck.items) x.notes in record {
      names = names;
      text = game_text names x.table.name game notes;
      how = state_number (ended game);
      score = score game;
    }

abbrev pub save_if : Bool → Site → State → Setup → Option (Key × GameRow)
save_if true s x g =
    Some (record { run = s.run; room = s.room; serial = x.table.latest }, row_in x g)
save_if false s x g = None

abbrev pub save_in : Site → State → Option Setup → Option (Key × GameRow)
save_in s x None = None
save_in s x (Some g) = save_if (is_due x.table) s x g

abbrev pub todo_in : Site → State → Todo
todo_in s x = record {
  save = save_in s x x.table.game;
  load = option_map (λ (id : ℕ). (x.table.latest, id)) (host_load x);
}
