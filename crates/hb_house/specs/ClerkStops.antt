-- At which call may the clerk stop, and what has it done by then?
use Rattle.std.specs.Prelude.{◌≡◌, ◌<◌, ◌⊎◌, ℕ, Bool, true, suc, List, [], ◌∷◌, ◌++◌, Option, Some, None, Ok}
use Rattle.hb_keeper.specs.declared.errors.KeepError.{KeepError}
use Rattle.hb_keeper.specs.declared.rows.GameRow.{GameRow}
use Rattle.hb_keeper.specs.declared.rows.Key.{Key}
use Rattle.hb_keeper.specs.KeptGames.{get_on, put_on}
use Rattle.hb_club.specs.declared.clerks.Todo.{Todo}
use Rattle.hb_club.specs.Fronts.{Fronts, House, site_of}
use Rattle.hb_club.specs.RoomEvents.{AsksTodo, RoomEvent, Site}
use Rattle.hb_house.specs.declared.reports.ClerkError.{ClerkError}
use Rattle.hb_house.specs.declared.reports.Report.{Report}
use Rattle.hb_house.specs.ClerkReports.{IsByHall, by_keeper}
use Rattle.hb_house.specs.ClerkRounds.{Asks, Rounds, Saves, StepAt, Then, begun}
use Rattle.hb_house.specs.KeeperSteps.{Failed, Telling, Worked}

-- events of others came, and nothing else
pub record OthersCame (alone : Bool) (old new : List RoomEvent) : Type 0 where
  pub others : List RoomEvent
  pub quiet : alone ≡ true → others ≡ []
  pub front : new ≡ others ++ old

-- a game that is due

-- the keeper refused to keep it
pub record PutRefused (save : Key × GameRow) (why : ClerkError) (old new : List RoomEvent)
    (c d : Telling) (r t : Report) : Type 0 where
  pub refusal : KeepError
  pub is : why ≡ by_keeper refusal
  pub failed : Failed refusal (put_on save.0 save.1) c d
  pub front : new ≡ old
  pub report : t ≡ r

-- it is kept, and the hall refused its note
pub record SavedRefused (alone : Bool) (save : Key × GameRow) (why : ClerkError)
    (old new : List RoomEvent) (c d : Telling) (r t : Report) : Type 0 where
  pub is : IsByHall why
  pub id : ℕ
  pub put : Worked (put_on save.0 save.1) c (Ok id) d
  pub came : OthersCame alone old new
  pub report : t ≡ r

abbrev pub SaveStops : Bool → Option (Key × GameRow) → ClerkError → (old new : List RoomEvent)
    → (c d : Telling) → (r t : Report) → Type 0
SaveStops alone None why old new c d r t = ⊥
SaveStops alone (Some save) why old new c d r t =
    PutRefused save why old new c d r t ⊎ SavedRefused alone save why old new c d r t

-- a game that is asked for

-- the keeper refused to give it
pub record GetRefused (load : ℕ × ℕ) (why : ClerkError) (old new : List RoomEvent)
    (c d : Telling) (r t : Report) : Type 0 where
  pub refusal : KeepError
  pub is : why ≡ by_keeper refusal
  pub failed : Failed refusal (get_on load.1) c d
  pub front : new ≡ old
  pub report : t ≡ r

-- the keeper gave it, or said that there is none, and the hall refused its note
pub record LoadedRefused (alone : Bool) (load : ℕ × ℕ) (why : ClerkError)
    (old new : List RoomEvent) (c d : Telling) (r t : Report) : Type 0 where
  pub is : IsByHall why
  pub row : Option GameRow
  pub got : Worked (get_on load.1) c (Ok row) d
  pub came : OthersCame alone old new
  pub report : t ≡ r

abbrev pub LoadStops : Bool → Option (ℕ × ℕ) → ClerkError → (old new : List RoomEvent)
    → (c d : Telling) → (r t : Report) → Type 0
LoadStops alone None why old new c d r t = ⊥
LoadStops alone (Some load) why old new c d r t =
    GetRefused load why old new c d r t ⊎ LoadedRefused alone load why old new c d r t

-- a round

-- the game that was due is kept and noted, and then the clerk stopped at the one that is asked for
pub record SavesAndStops (alone : Bool) (s : Site) (moment : ℕ) (todo : Todo) (why : ClerkError)
    (old new : List RoomEvent) (c d : Telling) (r t : Report) : Type 0 where
  pub middle : List RoomEvent
  pub between : Telling
  pub report : Report
  pub saves : Saves alone s moment todo.save old middle c between r report
  pub stops : LoadStops alone todo.load why middle new between d report t

abbrev pub SettleStops : Bool → Site → ℕ → Todo → ClerkError → (old new : List RoomEvent)
    → (c d : Telling) → (r t : Report) → Type 0
SettleStops alone s moment todo why old new c d r t =
    SaveStops alone todo.save why old new c d r t
    ⊎ SavesAndStops alone s moment todo why old new c d r t

-- the hall refused the clerk's question
pub record AskRefused (alone : Bool) (why : ClerkError) (old new : List RoomEvent)
    (c d : Telling) (r t : Report) : Type 0 where
  pub is : IsByHall why
  pub came : OthersCame alone old new
  pub keeper : d ≡ c
  pub report : t ≡ r

-- the question was answered, and then the clerk stopped
pub record AsksAndStops (alone : Bool) (s : Site) (moment : ℕ) (why : ClerkError)
    (old new : List RoomEvent) (c d : Telling) (r t : Report) : Type 0 where
  pub asks : Asks alone s moment old
  pub stops : SettleStops alone s moment asks.todo why (AsksTodo moment ∷ asks.others ++ old) new
      c d r t

abbrev pub RoundStops : Bool → Site → ℕ → ClerkError → (old new : List RoomEvent)
    → (c d : Telling) → (r t : Report) → Type 0
RoundStops alone s moment why old new c d r t =
    AskRefused alone why old new c d r t ⊎ AsksAndStops alone s moment why old new c d r t

-- the first rooms have had their rounds, and the clerk stopped in that of the next
pub record Stopped (Stands : Fronts → Type 0) (Tells : Telling → Type 0) (alone : Bool)
    (h : House) (count moment : ℕ) (f : Fronts) (c : Telling) (report : Report)
    (why : ClerkError) : Type 0 where
  pub done : ℕ
  pub within : done < count
  pub after : Fronts
  pub stands_for : Stands after
  pub keeper : Telling
  pub told : Tells keeper
  pub rounds : Then (Rounds alone h moment (begun f c) done)
      (StepAt (suc done) (RoundStops alone (site_of h (suc done)) moment why))
      (record { fronts = after; keeper = keeper; report = report })
