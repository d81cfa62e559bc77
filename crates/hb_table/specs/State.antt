-- What do the events of a room come to? A state of plain facts, which is all that the room has to
-- know for its next answer.
use Rattle.std.specs.Prelude.{◌≡◌, ℕ, List, Option, Some, None, flat_map, if◌then◌else◌, is_some, option_map}
use Rattle.std.specs.Option.{option_to_list}
use Rattle.hb_rules.specs.declared.setups.Setup.{Setup}
use Rattle.hb_rules.specs.Positions.{ended}
use Rattle.hb_rules.specs.Setup.{Position}
use Rattle.hb_timer.specs.Timer.{History}
use Rattle.hb_club.specs.ClerkCalls.{SetNote, set_notes}
use Rattle.hb_club.specs.EndedReplays.{Finished}
use Rattle.hb_club.specs.OwnEntries.{OwnEntry, pending_id}
use Rattle.hb_club.specs.NewItems.{command_stamp}
use Rattle.hb_club.specs.RoomEvents.{Happening, RoomEvent, Site}
use Rattle.hb_club.specs.Rooms.{past_of}
use Rattle.hb_club.specs.Table.{Table}
use Rattle.hb_club.specs.TableClock.{timer_calls, timing_of}
use Rattle.hb_club.specs.TableFacts.{own_entries, table_of}
use Rattle.hb_club.specs.TableItems.{host}
use Rattle.hb_club.specs.TableReview.{game_when, played_game}

-- the facts of the latest table, each member's own entries there, the greatest stamp of a command
-- there, and the notes that were set there, the newest first
pub record State : Type 0 where
  pub table : Table
  pub own : List ℕ → List OwnEntry
  pub stamp : ℕ
  pub notes : List SetNote

-- what happened so far comes to this state
abbrev pub state_of : Site → List Happening → State
state_of s past = let t = table_of s past in record {
  table = t;
  own = λ (member : List ℕ). own_entries t.latest member past;
  stamp = command_stamp past;
  notes = set_notes t.latest past;
}

-- the state after these events
abbrev pub state_at : Site → List RoomEvent → State
state_at s events = state_of s (past_of s events)

-- the parts of a state, and what they say

-- states with the same facts
pub record SameState (x y : State) : Type 0 where
  pub table : x.table ≡ y.table
  pub own : (member : List ℕ) → x.own member ≡ y.own member
  pub stamp : x.stamp ≡ y.stamp
  pub notes : x.notes ≡ y.notes

-- the load that is pending: the host's
abbrev pub host_load : State → Option ℕ
host_load x = pending_id (flat_map x.own (option_to_list (host x.table.items))) x.table.items

-- the game that was started at a table, as it stands
abbrev pub position_in : Table → Option Position
position_in t = option_map (λ (g : Setup). played_game g t.items) t.game

abbrev pub history_of : Setup → Table → History
history_of g t = record { timing = timing_of g t.items; calls = timer_calls g t.items }

-- the calls of its clock, if the table is timed
abbrev pub history_in : Table → Option History
history_in t =
    if t.options.timed then option_map (λ (g : Setup). history_of g t) t.game else None

-- the game that is reviewed, by the loaded and the started one
abbrev pub reviewed_by : Option Finished → Option Position → Option Position
reviewed_by (Some loaded) game = Some loaded.game
reviewed_by None (Some game) = game_when (is_some (ended game)) game
reviewed_by None None = None
