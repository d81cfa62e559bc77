-- Do the lists of the rooms go on through the calls of the clerk? Yes.
use Rattle.std.proofs.Common.{◌≡◌, ◌≢◌, ℕ, Bool, true, false, List, [], ◌∷◌, ◌++◌, refl, ◌∙◌, ap, sym, arith, append_assoc, nat_eq, inl, inr, Some, None}
use Rattle.std.proofs.lemmas.Bool.Decides.{nat_tests}
use Rattle.std.specs.Prelude.{Option}
use Rattle.hb_keeper.specs.declared.rows.GameRow.{GameRow}
use Rattle.hb_keeper.specs.declared.rows.Key.{Key}
use Rattle.hb_club.specs.declared.clerks.ClerkNote.{ClerkNote}
use Rattle.hb_club.specs.declared.clerks.ClerkNote.TheVariants as note
use Rattle.hb_club.specs.declared.clerks.Noted.{Noted}
use Rattle.hb_club.specs.declared.clerks.Todo.{Todo}
use Rattle.hb_club.specs.Fronts.{AllGoOn, ElseSame, Fronts, GoesOn}
use Rattle.hb_club.specs.RoomEvents.{AsksTodo, RoomEvent, Site, note_event}
use Rattle.hb_house.specs.declared.reports.ClerkError.{ClerkError}
use Rattle.hb_house.specs.declared.reports.Report.{Report}
use Rattle.hb_house.specs.ClerkRounds.{Asks, Loads, Saves, Settles, TakesNote, text_in}
use Rattle.hb_house.specs.ClerkStops.{LoadStops, OthersCame, SaveStops, SettleStops}
use Rattle.hb_house.specs.KeeperSteps.{Telling}

-- what goes on twice goes on
pub goes_on-trans : {A : Type 0} {a b c : List A} → GoesOn a b → GoesOn b c → GoesOn a c
goes_on-trans first next = record {
  more = next.more ++ first.more;
  is = next.is ∙ ap (λ l. next.more ++ l) first.is ∙ sym (append_assoc next.more first.more _);
}

-- what stays goes on
pub goes_on-same : {A : Type 0} {a b : List A} → b ≡ a → GoesOn a b
goes_on-same is = record { more = []; is = is }

takes-on : (alone : Bool) (s : Site) (moment : ℕ) (n : ClerkNote) (noted : Noted) (old new : List RoomEvent)
    → TakesNote alone s moment n noted old new → GoesOn old new
takes-on alone s moment n noted old new takes = record { more = note_event moment n ∷ takes.others; is = takes.front }

-- the list goes on if others came
pub others-on : (alone : Bool) (old new : List RoomEvent) → OthersCame alone old new → GoesOn old new
others-on alone old new came = record { more = came.others; is = came.front }

-- and so it does through a save
pub saves-on : (alone : Bool) (s : Site) (moment : ℕ) (save : Option (Key × GameRow)) (old new : List RoomEvent) (c d : Telling)
    (r t : Report) → Saves alone s moment save old new c d r t → GoesOn old new
saves-on alone s moment None old new c d r t is = goes_on-same is.0
saves-on alone s moment (Some save) old new c d r t is =
    takes-on alone s moment (note.Saved save.0.serial is.id) is.notes.noted old new is.notes.takes

-- and through a load
pub loads-on : (alone : Bool) (s : Site) (moment : ℕ) (load : Option (ℕ × ℕ)) (old new : List RoomEvent) (c d : Telling)
    (r t : Report) → Loads alone s moment load old new c d r t → GoesOn old new
loads-on alone s moment None old new c d r t is = goes_on-same is.0
loads-on alone s moment (Some load) old new c d r t is =
    takes-on alone s moment (note.Loaded load.0 load.1 (text_in is.row)) is.notes.noted old new is.notes.takes

-- also if the clerk stops in one of them
save_stops-on : (alone : Bool) (save : Option (Key × GameRow)) (why : ClerkError) (old new : List RoomEvent) (c d : Telling)
    (r t : Report) → SaveStops alone save why old new c d r t → GoesOn old new
save_stops-on alone None why old new c d r t is = absurd is
save_stops-on alone (Some save) why old new c d r t (inl put) = goes_on-same put.front
save_stops-on alone (Some save) why old new c d r t (inr saved) = others-on alone old new saved.came

load_stops-on : (alone : Bool) (load : Option (ℕ × ℕ)) (why : ClerkError) (old new : List RoomEvent) (c d : Telling)
    (r t : Report) → LoadStops alone load why old new c d r t → GoesOn old new
load_stops-on alone None why old new c d r t is = absurd is
load_stops-on alone (Some load) why old new c d r t (inl got) = goes_on-same got.front
load_stops-on alone (Some load) why old new c d r t (inr loaded) = others-on alone old new loaded.came

-- and through all that there is to do
pub settles-on : (alone : Bool) (s : Site) (moment : ℕ) (todo : Todo) (old new : List RoomEvent) (c d : Telling) (r t : Report)
    → Settles alone s moment todo old new c d r t → GoesOn old new
settles-on alone s moment todo old new c d r t due =
    goes_on-trans (saves-on alone s moment todo.save old due.middle c due.between r due.report due.saves)
    (loads-on alone s moment todo.load due.middle new due.between d due.report t due.loads)

-- also if the clerk stops there
pub settle_stops-on : (alone : Bool) (s : Site) (moment : ℕ) (todo : Todo) (why : ClerkError) (old new : List RoomEvent)
    (c d : Telling) (r t : Report) → SettleStops alone s moment todo why old new c d r t → GoesOn old new
settle_stops-on alone s moment todo why old new c d r t (inl save) = save_stops-on alone todo.save why old new c d r t save
settle_stops-on alone s moment todo why old new c d r t (inr load) =
    goes_on-trans (saves-on alone s moment todo.save old load.middle c load.between r load.report load.saves)
    (load_stops-on alone todo.load why load.middle new load.between d load.report t load.stops)

-- and through the clerk's question
pub asks-on : (alone : Bool) (s : Site) (moment : ℕ) (old : List RoomEvent) (asks : Asks alone s moment old)
    → GoesOn old (AsksTodo moment ∷ asks.others ++ old)
asks-on alone s moment old asks = record { more = AsksTodo moment ∷ asks.others; is = refl }

-- if one list goes on and the others stay, all go on
pub all-on : (room : ℕ) (f g : Fronts) → ElseSame room f g → GoesOn (f.rooms room) (g.rooms room) → AllGoOn f g
all-on room f g others on = record { rooms = all; lobby = goes_on-same others.lobby }
  where
    all : (r : ℕ) → GoesOn (f.rooms r) (g.rooms r)
    all r = by (nat_eq r room) refl
      where
        by : (b : Bool) → nat_eq r room ≡ b → GoesOn (f.rooms r) (g.rooms r)
        by true same = let at : r ≡ room = grind (arith, nat_tests) in rw at on
        by false apart = let other : r ≢ room = grind (arith, nat_tests) in goes_on-same (others.rooms r other)
