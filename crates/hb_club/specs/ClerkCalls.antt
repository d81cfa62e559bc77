-- What does a room have for the clerk, and which item does a note of the clerk add?
use Rattle.std.specs.Prelude.{ℕ, Bool, true, false, not, ◌&&◌, ◌==◌, List, [], ◌∷◌, Option, Some, None, if◌then◌else◌, is_none, length, map, filter_map, flat_map, option_map, bytes_eq}
use Rattle.std.specs.List.{range_with_len}
use Rattle.std.specs.Option.{option_to_list}
use Rattle.hb_rules.specs.declared.setups.Setup.{Setup}
use Rattle.hb_rules.specs.Numbers.{state_number}
use Rattle.hb_rules.specs.Positions.{ended, score}
use Rattle.hb_keeper.specs.declared.rows.Key.{Key}
use Rattle.hb_keeper.specs.declared.rows.GameRow.{GameRow}
use Rattle.hb_club.specs.declared.clerks.Noted.{Noted}
use Rattle.hb_club.specs.declared.clerks.Noted.TheVariants as noted
use Rattle.hb_club.specs.declared.clerks.Todo.{Todo}
use Rattle.hb_club.specs.declared.commands.Command.{Command}
use Rattle.hb_club.specs.declared.commands.Command.TheVariants as command
use Rattle.hb_club.specs.declared.items.What.{What}
use Rattle.hb_club.specs.declared.items.What.TheVariants as what
use Rattle.hb_club.specs.EndedReplays.{Finished, game_text}
use Rattle.hb_club.specs.OwnEntries.{OwnEntry, pending_id}
use Rattle.hb_club.specs.RoomEvents.{Call, Happening, Loaded, Notice, RoomEvent, Saved, Site}
use Rattle.hb_club.specs.Seating.{players}
use Rattle.hb_club.specs.Table.{Table, has_ended}
use Rattle.hb_club.specs.TableFacts.{own_entries}
use Rattle.hb_club.specs.TableItems.{has, host, is_saved}
use Rattle.hb_club.specs.TableReview.{played_game}

-- the entries of the host at the latest table
abbrev pub host_entries : Table → List Happening → List OwnEntry
host_entries t past =
    flat_map (λ (name : List ℕ). own_entries t.latest name past) (option_to_list (host t.items))

-- the load that is pending, by its id. Only the host loads
abbrev pub pending_load : Table → List Happening → Option ℕ
pending_load t past = pending_id (host_entries t past) t.items

-- the game that was started has ended, and is not kept yet
abbrev pub is_due : Table → Bool
is_due t = has_ended t && not (has is_saved t.items)

-- the notes of the players

-- a note that was set: who set it, at which order, and its text
pub record SetNote : Type 0 where
  pub name : List ℕ
  pub order : ℕ
  pub text : List ℕ

abbrev pub note_by : List ℕ → Command → Option SetNote
note_by member (command.Note order text) =
    Some (record { name = member; order = order; text = text })
note_by member _ = None

abbrev pub note_at : ℕ → RoomEvent → Option SetNote
note_at table (Call e) = if e.table == table then note_by e.member e.command else None
note_at table _ = None

-- the note that an accepted command at a table set
abbrev pub note_in : ℕ → Happening → Option SetNote
note_in table h = if is_none h.stamp then None else note_at table h.event

-- the notes that were set at a table, the newest first
abbrev pub set_notes : ℕ → List Happening → List SetNote
set_notes table past = filter_map (note_in table) past

-- the newest text of a name at an order; the empty one if none was set
abbrev pub text_at : List ℕ → ℕ → List SetNote → List ℕ
text_at name order [] = []
text_at name order (n ∷ notes) =
    if bytes_eq name n.name && n.order == order then n.text else text_at name order notes

-- no lists if no note was set, else one for each player, with a text for each card of the deck
abbrev pub note_lists : List (List ℕ) → ℕ → List SetNote → List (List (List ℕ))
note_lists names size [] = []
note_lists names size (n ∷ notes) =
    map (λ (name : List ℕ). map (λ order. text_at name order (n ∷ notes)) (range_with_len 0 size))
    names

-- what the clerk is answered

-- the latest table's game as it is to be kept
abbrev pub row_of : Table → List Happening → Setup → GameRow
row_of t past g = let names = players t.items in
    let game = played_game g t.items in
    let notes = note_lists names (length g.deck.items) (set_notes t.latest past) in record {
      names = names;
      text = game_text names t.name game notes;
      how = state_number (ended game);
      score = score game;
    }

abbrev pub save_when : Bool → Site → Table → List Happening → Setup → Option (Key × GameRow)
save_when true s t past g =
    Some (record { run = s.run; room = s.room; serial = t.latest }, row_of t past g)
save_when false s t past g = None

-- the game that is due, with its key
abbrev pub save_of : Site → Table → List Happening → Option Setup → Option (Key × GameRow)
save_of s t past None = None
save_of s t past (Some g) = save_when (is_due t) s t past g

-- all that there is to do
abbrev pub todo_of : Site → Table → List Happening → Todo
todo_of s t past = record {
  save = save_of s t past t.game;
  load = option_map (λ id. (t.latest, id)) (pending_load t past);
}

-- what a note of the clerk adds

-- the load of this table with this id is the one that is pending
abbrev pub is_pending : ℕ → ℕ → ℕ → Option ℕ → Bool
is_pending latest table id None = false
is_pending latest table id (Some asked) = table == latest && id == asked

abbrev pub found_or_not : Option Finished → Noted
found_or_not None = noted.NoGame
found_or_not (Some game) = noted.Loaded

-- which item a notice adds, if this load is pending
abbrev pub noted_by : Table → Option ℕ → Notice → Noted
noted_by t load (Saved table id) =
    if table == t.latest && is_due t then noted.Saved else noted.Nothing
noted_by t load (Loaded table id game) =
    if is_pending t.latest table id load then found_or_not game else noted.Nothing

abbrev pub notice_id : Notice → ℕ
notice_id (Saved table id) = id
notice_id (Loaded table id game) = id

-- that item
abbrev pub noted_item : ℕ → Noted → Option What
noted_item id noted.Nothing = None
noted_item id noted.Saved = Some (what.Saved id)
noted_item id noted.Loaded = Some (what.Loaded id)
noted_item id noted.NoGame = Some (what.NoGame id)
