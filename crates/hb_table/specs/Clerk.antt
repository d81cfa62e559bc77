-- What does a room do for the clerk, by its fields?
use Rattle.std.specs.Prelude.{ℕ, Bool, true, false, not, ◌&&◌, ◌==◌, Option, Some, None, is_some}
use Rattle.hb_rules.specs.Positions.{ended}
use Rattle.hb_rules.specs.Setup.{Position}
use Rattle.hb_keeper.specs.declared.rows.GameRow.{GameRow}
use Rattle.hb_keeper.specs.declared.rows.Key.{Key}
use Rattle.hb_club.specs.declared.clerks.Noted.{Noted}
use Rattle.hb_club.specs.RoomEvents.{Added, Notes, Notice}
use Rattle.hb_club.specs.WholeGames.{BringsWhole}
use Rattle.hb_playing.specs.declared.clocks.Lapse.{Lapse}
use Rattle.hb_playing.specs.Games.{ended_by, game_after}
use Rattle.hb_playing.specs.KeptRows.{row_with}
use Rattle.hb_table.specs.declared.room.Room.{Room}
use Rattle.hb_table.specs.Changes.{due_in, timed_out}
use Rattle.hb_table.specs.Steps.{Answers, Timed}

-- the room answers a note so, whatever it was before time was applied, if the game that the note
-- brings is whole
abbrev pub Noting : ℕ → Notice → Noted → Room → Room → Type 0
Noting moment n noted c b = (a : Room) → Timed (Notes moment n) a c → BringsWhole (Notes moment n)
    → Answers (Notes moment n) (Added noted) a b

-- the game of this table is the one that has ended, and is not kept yet
abbrev pub is_due_in : Room → ℕ → Bool
is_due_in r table = table == r.latest && (ended_by r.game && not r.saved)

-- the game once time was applied
abbrev pub game_behind : Option Lapse → Option Position → Option Position
game_behind None game = game
game_behind (Some lapse) game = game_after (timed_out lapse.seat) game

abbrev pub game_in_time : Room → ℕ → Option Position
game_in_time r moment = game_behind (due_in r moment) r.game

-- what its row is kept under
abbrev pub key_in : Room → Key
key_in r = record { run = r.run; room = r.room; serial = r.latest }

-- the row of a game that is to be kept, with its key
abbrev pub save_when : Bool → Room → Position → Option (Key × GameRow)
save_when true r game = Some (key_in r, row_with r.seats.items r.name game r.notes.notes)
save_when false r game = None

abbrev pub save_of : Room → Option Position → Option (Key × GameRow)
save_of r None = None
save_of r (Some game) = save_when (is_some (ended game) && not r.saved) r game

abbrev pub save_at : Room → ℕ → Option (Key × GameRow)
save_at r moment = save_of r (game_in_time r moment)
