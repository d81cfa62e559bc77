-- What holds of a room behind its round? What was due is kept.
use Rattle.std.specs.Prelude.{◌≡◌, ℕ, ◌+◌, Bool, true, List, ◌∷◌, ◌++◌, Some}
use Rattle.hb_keeper.specs.declared.rows.GameRow.{GameRow}
use Rattle.hb_keeper.specs.declared.rows.Key.{Key}
use Rattle.hb_club.specs.Fronts.{GoesOn}
use Rattle.hb_club.specs.RoomEvents.{AsksTodo, RoomEvent, Site}
use Rattle.hb_club.specs.Rooms.{happening, past_of, table_at}
use Rattle.hb_club.specs.TableItems.{ends_load, has, is_saved}
use Rattle.hb_house.specs.declared.reports.Report.{Report}
use Rattle.hb_house.specs.ClerkRounds.{Round}
use Rattle.hb_house.specs.KeeperSteps.{Telling}

-- at some event of the list the latest table was this one, and its game was noted as kept
pub record WasSaved (s : Site) (events : List RoomEvent) (serial : ℕ) : Type 0 where
  pub older : List RoomEvent
  pub goes_on : GoesOn older events
  pub latest : (table_at s older).latest ≡ serial
  pub saved : has is_saved (table_at s older).items ≡ true

-- behind a round in which a game was due, the game is noted as kept, by this clerk or another
abbrev pub DueAreSaved : Type 0
DueAreSaved = (alone : Bool) (s : Site) (moment : ℕ) (old new : List RoomEvent)
    (c d : Telling) (r t : Report) (round : Round alone s moment old new c d r t) (key : Key)
    (row : GameRow) → round.asks.todo.save ≡ Some (key, row) → WasSaved s new key.serial

-- if no other can have noted it, this clerk has
abbrev pub AloneSaves : Type 0
AloneSaves = (s : Site) (moment : ℕ) (old new : List RoomEvent) (c d : Telling)
    (r t : Report) (round : Round true s moment old new c d r t) (key : Key) (row : GameRow)
    → round.asks.todo.save ≡ Some (key, row) → round.settles.report.saved ≡ r.saved + 1

-- an event behind the older list, in the newer one, added an item that ends each load that was
-- pending at its table: the answer to the load, or the closing of the table
pub record LoadEnded (s : Site) (older newer : List RoomEvent) : Type 0 where
  pub before : List RoomEvent
  pub event : RoomEvent
  pub behind : GoesOn older before
  pub within : GoesOn (event ∷ before) newer
  pub ends : has ends_load (happening s (past_of s before) event).added ≡ true

-- behind a round in which a load was pending, the load was answered or dropped
abbrev pub DueAreLoaded : Type 0
DueAreLoaded = (alone : Bool) (s : Site) (moment : ℕ) (old new : List RoomEvent)
    (c d : Telling) (r t : Report) (round : Round alone s moment old new c d r t) (load : ℕ × ℕ)
    → round.asks.todo.load ≡ Some load
    → LoadEnded s (AsksTodo moment ∷ round.asks.others ++ old) new
