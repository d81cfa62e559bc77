-- What does a keeper contain of a run's games behind calls of the clerk? Of each table one row at
-- most, which is that of the game that the table said was due.
use Rattle.std.specs.Prelude.{◌≡◌, ◌≢◌, ◌⊎◌, ◌<◌, ◌≤◌, ◌+◌, ℕ, Bool, false, ⊤, List, ◌∷◌, ◌++◌, Option, Some, None, Err, length, slice_get}
use Rattle.hb_keeper.specs.declared.errors.KeepError.TheVariants.{KeyDiffers, UsedUp}
use Rattle.hb_keeper.specs.declared.rows.GameRow.{GameRow}
use Rattle.hb_keeper.specs.declared.rows.Key.{Key}
use Rattle.hb_keeper.specs.KeptGames.{Content, greatest, id_of, open_run_on, put_on, row_of_id, same_row}
use Rattle.hb_club.specs.declared.clerks.ClerkNote.TheVariants as note
use Rattle.hb_club.specs.declared.clerks.Noted.{Noted}
use Rattle.hb_club.specs.declared.clerks.Noted.TheVariants as noted
use Rattle.hb_club.specs.declared.clerks.Todo.{Todo}
use Rattle.hb_club.specs.Fronts.{AllGoOn, Fronts, GoesOn, House, site_of}
use Rattle.hb_club.specs.RoomEvents.{Added, Due, RoomEvent, Site, note_event}
use Rattle.hb_club.specs.Rooms.{answer_to}
use Rattle.hb_house.specs.declared.reports.ClerkError.{ClerkError}
use Rattle.hb_house.specs.declared.reports.ClerkError.TheVariants as clerk
use Rattle.hb_house.specs.ClerkRounds.{Place, Rounds, StepAt, Then}
use Rattle.hb_house.specs.ClerkStops.{RoundStops}
use Rattle.hb_house.specs.KeeperSteps.{IsTold, Telling}

-- at some event of the list the clerk was answered that this game is due
pub record WasDue (s : Site) (events : List RoomEvent) (key : Key) (row : GameRow)
    : Type 0 where
  pub older : List RoomEvent
  pub goes_on : GoesOn older events
  pub todo : Todo
  pub answer : answer_to s older ≡ Due todo
  pub save : todo.save ≡ Some (key, row)

-- each time that the game of a key is due its row is the same
abbrev pub DueAlike : Type 0
DueAlike = (s : Site) (more older : List RoomEvent) (todo later : Todo) (key : Key)
    (row again : GameRow) → answer_to s older ≡ Due todo → answer_to s (more ++ older) ≡ Due later
    → todo.save ≡ Some (key, row) → later.save ≡ Some (key, again) → again ≡ row

-- of the house's run a keeper contains one row for a key at most, and it is that of the game that
-- was due at the key's table
pub record OwnGames (h : House) (f : Fronts) (c : Content) : Type 0 where
  pub due : (k : ℕ) (key : Key) (row : GameRow) → slice_get c.rows k ≡ Some (key, row)
      → key.run ≡ h.run → WasDue (site_of h key.room) (f.rooms key.room) key row
  pub once : (k j : ℕ) (key : Key) (row other : GameRow) → slice_get c.rows k ≡ Some (key, row)
      → slice_get c.rows j ≡ Some (key, other) → key.run ≡ h.run → k ≡ j

abbrev pub OwnIn : House → Fronts → Option Content → Type 0
OwnIn h f None = ⊤
OwnIn h f (Some content) = OwnGames h f content

-- it is so if the content is told
abbrev pub OwnIfTold : House → Fronts → Telling → Type 0
OwnIfTold h f c = OwnIn h f c.content

-- no row is of a run behind the last one
abbrev pub NoLaterRun : Content → Type 0
NoLaterRun c = (k : ℕ) (key : Key) (row : GameRow) → slice_get c.rows k ≡ Some (key, row)
    → key.run ≤ c.last_run

-- it is so when a run begins, while lists go on, and behind the rounds of a clerk, also if the
-- clerk stops in one
pub record KeptOnce : Type 0 where
  pub begins : (h : House) (f : Fronts) (c : Content) → NoLaterRun c
      → h.run ≡ c.last_run + 1 → OwnGames h f (open_run_on c).1
  pub goes_on : (h : House) (f g : Fronts) (c : Telling) → AllGoOn f g → OwnIfTold h f c
      → OwnIfTold h g c
  pub rounds : (alone : Bool) (h : House) (moment : ℕ) (p : Place) (n : ℕ) (q : Place)
      → Rounds alone h moment p n q
      → OwnIfTold h p.fronts p.keeper → OwnIfTold h q.fronts q.keeper
  pub stopped : (alone : Bool) (h : House) (moment : ℕ) (why : ClerkError) (p : Place)
      (n room : ℕ) (q : Place)
      → Then (Rounds alone h moment p n)
      (StepAt room (RoundStops alone (site_of h room) moment why)) q
      → OwnIfTold h p.fronts p.keeper → OwnIfTold h q.fronts q.keeper

-- the key is kept with a game that differs
pub record DiffersFrom (c : Content) (key : Key) (row : GameRow) (id : ℕ) : Type 0 where
  pub kept : id_of c key ≡ Some id
  pub game : GameRow
  pub there : row_of_id c id ≡ Some game
  pub differs : same_row game row ≡ false

-- so a keeper that contains them never refuses a game that was due
abbrev pub DueNeverDiffers : Type 0
DueNeverDiffers = (h : House) (f : Fronts) (c : Content) (key : Key) (row : GameRow) (id : ℕ)
    → OwnGames h f c → key.run ≡ h.run → WasDue (site_of h key.room) (f.rooms key.room) key row
    → (put_on key row c).0 ≢ Err (KeyDiffers id)

-- so the clerk never stops for a key that differs, if the keeper tells its content
abbrev pub ClerkNeverDiffers : Type 0
ClerkNeverDiffers = (alone : Bool) (h : House) (moment id : ℕ) (p : Place) (n room : ℕ)
    (q : Place) → Then (Rounds alone h moment p n)
    (StepAt room (RoundStops alone (site_of h room) moment (clerk.KeyDiffers id))) q
    → IsTold p.keeper → OwnIfTold h p.fronts p.keeper → ⊥

-- a game is refused under a kept key only if another one is kept there
abbrev pub DiffersOnly : Type 0
DiffersOnly = (c : Content) (key : Key) (row : GameRow) (id : ℕ)
    → Err (KeyDiffers id) ≡ (put_on key row c).0 → DiffersFrom c key row id

-- the ids are used up only if the key is new and the next id would be above the greatest
abbrev pub UsedUpOnly : Type 0
UsedUpOnly = (c : Content) (key : Key) (row : GameRow) → Err UsedUp ≡ (put_on key row c).0
    → (id_of c key ≡ None) × (greatest < length c.rows + 1)

-- the note of a kept game adds that it is saved, or nothing, and the note of a game that was asked
-- for never adds that one is saved
pub record NotesAdd : Type 0 where
  pub saved : (s : Site) (moment table id : ℕ) (events : List RoomEvent) (which : Noted)
      → answer_to s (note_event moment (note.Saved table id) ∷ events) ≡ Added which
      → (which ≡ noted.Saved) ⊎ (which ≡ noted.Nothing)
  pub loaded : (s : Site) (moment table id : ℕ) (text : Option (List ℕ))
      (events : List RoomEvent) (which : Noted)
      → answer_to s (note_event moment (note.Loaded table id text) ∷ events) ≡ Added which
      → which ≢ noted.Saved
