-- What does the clerk ask and note in a call, room by room, and what does it leave in a keeper?
-- Lists of events stand newest first.
use Rattle.std.specs.Prelude.{◌≡◌, ℕ, Bool, true, zero, suc, List, [], ◌∷◌, ◌++◌, Option, Some, None, Ok}
use Rattle.hb_keeper.specs.declared.rows.GameRow.{GameRow}
use Rattle.hb_keeper.specs.declared.rows.Key.{Key}
use Rattle.hb_keeper.specs.KeptGames.{get_on, put_on}
use Rattle.hb_club.specs.declared.clerks.ClerkNote.{ClerkNote}
use Rattle.hb_club.specs.declared.clerks.ClerkNote.TheVariants as note
use Rattle.hb_club.specs.declared.clerks.Noted.{Noted}
use Rattle.hb_club.specs.declared.clerks.Todo.{Todo}
use Rattle.hb_club.specs.Fronts.{ElseSame, Fronts, House, site_of}
use Rattle.hb_club.specs.RoomEvents.{Added, AsksTodo, Due, RoomEvent, Site, note_event}
use Rattle.hb_club.specs.Rooms.{answer_to}
use Rattle.hb_house.specs.declared.reports.Report.{Report}
use Rattle.hb_house.specs.ClerkReports.{nothing_done, with_loaded, with_saved}
use Rattle.hb_house.specs.KeeperSteps.{IsSure, Telling, Worked}

-- one room

-- events of others came, and then a note of the clerk, which added this item
pub record TakesNote (alone : Bool) (s : Site) (moment : ℕ) (n : ClerkNote) (noted : Noted)
    (old new : List RoomEvent) : Type 0 where
  pub others : List RoomEvent
  pub quiet : alone ≡ true → others ≡ []
  pub front : new ≡ note_event moment n ∷ others ++ old
  pub answer : answer_to s new ≡ Added noted

-- it was noted under which id the game of a table is kept; the reports are those before and after
pub record NotesSaved (alone : Bool) (s : Site) (moment table id : ℕ)
    (old new : List RoomEvent) (r t : Report) : Type 0 where
  pub noted : Noted
  pub takes : TakesNote alone s moment (note.Saved table id) noted old new
  pub report : t ≡ with_saved noted r

-- the text of a kept game, if there is one
abbrev pub text_in : Option GameRow → Option (List ℕ)
text_in None = None
text_in (Some row) = Some row.text

-- the game that a table asked for was brought
pub record NotesLoaded (alone : Bool) (s : Site) (moment : ℕ) (load : ℕ × ℕ)
    (row : Option GameRow) (old new : List RoomEvent) (r t : Report) : Type 0 where
  pub noted : Noted
  pub takes : TakesNote alone s moment (note.Loaded load.0 load.1 (text_in row)) noted old new
  pub report : t ≡ with_loaded noted r

-- a game that is due is put under its key, and then its id is noted
pub record SavesGame (alone : Bool) (s : Site) (moment : ℕ) (save : Key × GameRow)
    (old new : List RoomEvent) (c d : Telling) (r t : Report) : Type 0 where
  pub id : ℕ
  pub put : Worked (put_on save.0 save.1) c (Ok id) d
  pub notes : NotesSaved alone s moment save.0.serial id old new r t

abbrev pub Saves : Bool → Site → ℕ → Option (Key × GameRow) → (old new : List RoomEvent)
    → (c d : Telling) → (r t : Report) → Type 0
Saves alone s moment None old new c d r t = (new ≡ old) × (d ≡ c) × (t ≡ r)
Saves alone s moment (Some save) old new c d r t =
    SavesGame alone s moment save old new c d r t

-- a game that a table asks for is got by its id, and then brought
pub record LoadsGame (alone : Bool) (s : Site) (moment : ℕ) (load : ℕ × ℕ)
    (old new : List RoomEvent) (c d : Telling) (r t : Report) : Type 0 where
  pub row : Option GameRow
  pub got : Worked (get_on load.1) c (Ok row) d
  pub notes : NotesLoaded alone s moment load row old new r t

abbrev pub Loads : Bool → Site → ℕ → Option (ℕ × ℕ) → (old new : List RoomEvent)
    → (c d : Telling) → (r t : Report) → Type 0
Loads alone s moment None old new c d r t = (new ≡ old) × (d ≡ c) × (t ≡ r)
Loads alone s moment (Some load) old new c d r t =
    LoadsGame alone s moment load old new c d r t

-- all is done that there is to do: first the game that is due, then the one that is asked for
pub record Settles (alone : Bool) (s : Site) (moment : ℕ) (todo : Todo)
    (old new : List RoomEvent) (c d : Telling) (r t : Report) : Type 0 where
  pub middle : List RoomEvent
  pub between : Telling
  pub report : Report
  pub saves : Saves alone s moment todo.save old middle c between r report
  pub loads : Loads alone s moment todo.load middle new between d report t

-- events of others came, and then the clerk asked what there is to do
pub record Asks (alone : Bool) (s : Site) (moment : ℕ) (old : List RoomEvent) : Type 0 where
  pub others : List RoomEvent
  pub quiet : alone ≡ true → others ≡ []
  pub todo : Todo
  pub answer : answer_to s (AsksTodo moment ∷ others ++ old) ≡ Due todo

-- the round of a room: the clerk asks what there is to do, and does it
pub record Round (alone : Bool) (s : Site) (moment : ℕ) (old new : List RoomEvent)
    (c d : Telling) (r t : Report) : Type 0 where
  pub asks : Asks alone s moment old
  pub settles : Settles alone s moment asks.todo (AsksTodo moment ∷ asks.others ++ old) new
      c d r t

-- all rooms

-- how far the clerk has come: the lists of the rooms, what the keeper tells, and the report
pub record Place : Type 0 where
  pub fronts : Fronts
  pub keeper : Telling
  pub report : Report

-- the same lists, also as functions are compared at each room alone
pub record SamePlace (p q : Place) : Type 0 where
  pub rooms : (room : ℕ) → q.fronts.rooms room ≡ p.fronts.rooms room
  pub lobby : q.fronts.lobby ≡ p.fronts.lobby
  pub keeper : q.keeper ≡ p.keeper
  pub report : q.report ≡ p.report

-- a step at one room, which leaves the other rooms
pub record StepAt (room : ℕ) (Step : (old new : List RoomEvent) → (c d : Telling)
    → (r t : Report) → Type 0) (p q : Place) : Type 0 where
  pub others : ElseSame room p.fronts q.fronts
  pub step : Step (p.fronts.rooms room) (q.fronts.rooms room) p.keeper q.keeper p.report q.report

-- a step behind what was done before
pub record Then (Before : Place → Type 0) (Step : Place → Place → Type 0) (q : Place)
    : Type 0 where
  pub before : Place
  pub rounds : Before before
  pub last : Step before q

-- the rounds of the rooms 1 to n, in order
abbrev pub Rounds : Bool → House → ℕ → Place → ℕ → Place → Type 0
Rounds alone h moment p zero q = SamePlace p q
Rounds alone h moment p (suc n) q = Then (Rounds alone h moment p n)
    (StepAt (suc n) (Round alone (site_of h (suc n)) moment)) q

-- the clerk has done nothing yet
abbrev pub begun : Fronts → Telling → Place
begun f c = record { fronts = f; keeper = c; report = nothing_done }

-- each of so many rooms has had its round; `Stands` says for which lists the hall stands then, and
-- `Tells` what the keeper tells then
pub record AllRounds (Stands : Fronts → Type 0) (Tells : Telling → Type 0) (alone : Bool)
    (h : House) (count moment : ℕ) (f : Fronts) (c : Telling) (report : Report) : Type 0 where
  pub after : Fronts
  pub stands_for : Stands after
  pub keeper : Telling
  pub told : Tells keeper
  pub rounds : Rounds alone h moment (begun f c) count
      (record { fronts = after; keeper = keeper; report = report })

-- what a call does, at each of the lists for which the hall stood before it and of what the keeper
-- told then; a content that it told can be relied on
abbrev pub AtEach : (Fronts → Type 0) → (Telling → Type 0) → Type 0
    → (Fronts → Telling → Type 0) → Type 0
AtEach Stands Tells sure Does =
    (f : Fronts) (c : Telling) → Stands f → Tells c → IsSure sure c → Does f c
