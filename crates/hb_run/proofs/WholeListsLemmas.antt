-- Are the games whole that the clerk of a script brings to the rooms? Yes, as each note of it brings a whole game or none.
use Rattle.std.proofs.Common.{ℕ, Bool, true, false, List, [], ◌∷◌, Some, None, Ok, Err, if◌then◌else◌, nat_eq}
use Rattle.std.specs.Prelude.{Option, Result, option_map}
use Rattle.std.specs.List.{range_with_len}
use Rattle.hb_keeper.specs.declared.errors.KeepError.{KeepError}
use Rattle.hb_keeper.specs.declared.rows.GameRow.{GameRow}
use Rattle.hb_keeper.specs.declared.rows.Key.{Key}
use Rattle.hb_keeper.specs.KeptGames.{get_on, put_on}
use Rattle.hb_club.specs.declared.clerks.ClerkNote.{ClerkNote}
use Rattle.hb_club.specs.declared.clerks.ClerkNote.TheVariants as note
use Rattle.hb_club.specs.declared.clerks.Noted.{Noted}
use Rattle.hb_club.specs.declared.clerks.Noted.TheVariants as noted
use Rattle.hb_club.specs.declared.clerks.Todo.{Todo}
use Rattle.hb_club.specs.Fronts.{Fronts, House, is_room, with_event}
use Rattle.hb_club.specs.RoomEvents.{AsksTodo, Call, RoomEvent, note_event}
use Rattle.hb_club.specs.WholeGames.{BringWhole, BringsWhole}
use Rattle.hb_club.proofs.WholeGamesLemmas.{note_event-whole}
use Rattle.hb_talk.specs.declared.errands.Errand.{Errand}
use Rattle.hb_talk.specs.declared.errands.Errand.TheVariants as errand
use Rattle.hb_talk.specs.declared.scripts.ScriptLine.{ScriptLine}
use Rattle.hb_talk.specs.declared.scripts.ScriptLine.TheVariants as line
use Rattle.hb_talk.specs.Errands.{asked}
use Rattle.hb_talk.specs.Keeping.{Keeping, keeper_call}
use Rattle.hb_talk.specs.LoneClerk.{Round, counted, does, loaded_by, loads_unless, new_round, noted_in, noting, room_answer, saved_by, saves, todo_in, visit_unless, visits, with_call, with_keeping}
use Rattle.hb_talk.specs.Scripts.{Stage, fronts_after, ran_unless, session_of, stage_after}

-- each list brings whole games
abbrev pub AreWhole : Fronts → Type 0
AreWhole f = (room : ℕ) → BringWhole (f.rooms room)

event-whole : (room : ℕ) (e : RoomEvent) (f : Fronts) → BringsWhole e → AreWhole f → AreWhole (with_event room e f)
event-whole room e f one whole other = by (nat_eq other room)
  where
    by : (b : Bool) → BringWhole (if b then e ∷ f.rooms other else f.rooms other)
    by true = (one, whole other)
    by false = whole other

-- the clerk

counted-whole : (which : Noted) (r : Round) → AreWhole r.fronts → AreWhole (counted which r).fronts
counted-whole noted.Nothing r whole = whole
counted-whole noted.Saved r whole = whole
counted-whole noted.Loaded r whole = whole
counted-whole noted.NoGame r whole = whole

noting-whole : (h : House) (room moment : ℕ) (n : ClerkNote) (r : Round) → AreWhole r.fronts → AreWhole (noting h room moment n r).fronts
noting-whole h room moment n r whole =
    let after : Round = with_call room (note_event moment n) r in
    counted-whole (noted_in (room_answer h room after)) after
    (event-whole room (note_event moment n) r.fronts (note_event-whole moment n) whole)

saved_by-whole : (h : House) (room moment serial : ℕ) (answer : Result ℕ KeepError) (k : Keeping) (r : Round) → AreWhole r.fronts
    → AreWhole (saved_by h room moment serial answer k r).fronts
saved_by-whole h room moment serial (Ok id) k r whole = noting-whole h room moment (note.Saved serial id) (with_keeping k None r) whole
saved_by-whole h room moment serial (Err why) k r whole = whole

saves-whole : (h : House) (room moment : ℕ) (save : Option (Key × GameRow)) (r : Round) → AreWhole r.fronts
    → AreWhole (saves h room moment save r).fronts
saves-whole h room moment None r whole = whole
saves-whole h room moment (Some save) r whole =
    let done = keeper_call (put_on save.0 save.1) r.keeping in
    saved_by-whole h room moment save.0.serial done.0 done.1 r whole

loaded_by-whole : (h : House) (room moment : ℕ) (load : ℕ × ℕ) (answer : Result (Option GameRow) KeepError) (k : Keeping) (r : Round)
    → AreWhole r.fronts → AreWhole (loaded_by h room moment load answer k r).fronts
loaded_by-whole h room moment load (Ok row) k r whole =
    noting-whole h room moment (note.Loaded load.0 load.1 (option_map (λ (row : GameRow). row.text) row)) (with_keeping k None r) whole
loaded_by-whole h room moment load (Err why) k r whole = whole

loads-whole : (o : Option KeepError) (h : House) (room moment : ℕ) (load : Option (ℕ × ℕ)) (r : Round) → AreWhole r.fronts
    → AreWhole (loads_unless o h room moment load r).fronts
loads-whole None h room moment None r whole = whole
loads-whole None h room moment (Some load) r whole =
    let done = keeper_call (get_on load.1) r.keeping in
    loaded_by-whole h room moment load done.0 done.1 r whole
loads-whole (Some why) h room moment load r whole = whole

does-whole : (h : House) (moment room : ℕ) (todo : Todo) (r : Round) → AreWhole r.fronts → AreWhole (does h moment room todo r).fronts
does-whole h moment room todo r whole =
    let saved : Round = saves h room moment todo.save r in
    loads-whole saved.refused h room moment todo.load saved (saves-whole h room moment todo.save r whole)

visit-whole : (o : Option KeepError) (h : House) (moment room : ℕ) (r : Round) → AreWhole r.fronts
    → AreWhole (visit_unless o h moment room r).fronts
visit-whole (Some why) h moment room r whole = whole
visit-whole None h moment room r whole =
    let asked : Round = with_call room (AsksTodo moment) r in
    does-whole h moment room (todo_in (room_answer h room asked)) asked (event-whole room (AsksTodo moment) r.fronts tt whole)

visits-whole : (h : House) (moment : ℕ) (rooms : List ℕ) (r : Round) → AreWhole r.fronts → AreWhole (visits h moment rooms r).fronts
visits-whole h moment [] r whole = whole
visits-whole h moment (room ∷ rooms) r whole =
    visits-whole h moment rooms (visit_unless r.refused h moment room r) (visit-whole r.refused h moment room r whole)

-- lines

room-whole : (is : Bool) (room : ℕ) (e : RoomEvent) (f : Fronts) → BringsWhole e → AreWhole f
    → AreWhole (if is then with_event room e f else f)
room-whole true room e f one whole = event-whole room e f one whole
room-whole false room e f one whole = whole

turn-whole : (count : ℕ) (task : Errand) (f : Fronts) → AreWhole f → AreWhole (fronts_after count task f)
turn-whole count errand.Nothing f whole = whole
turn-whole count (errand.Bad why) f whole = whole
turn-whole count (errand.Denied why) f whole = whole
turn-whole count (errand.Enters entry) f whole = whole
turn-whole count (errand.Calls room e) f whole = room-whole (is_room count room) room (Call e) f tt whole

line-whole : (o : Option KeepError) (h : House) (count : ℕ) (s : Stage) (l : ScriptLine) → AreWhole s.fronts
    → AreWhole (ran_unless o h count s l).stage.fronts
line-whole (Some why) h count s l whole = whole
line-whole None h count s (line.Clerk moment) whole =
    visits-whole h moment (range_with_len 1 count) (new_round s.fronts s.keeping) whole
line-whole None h count s (line.Says moment conn got) whole =
    turn-whole count (asked (session_of conn s.sessions) moment got) s.fronts whole

-- the lists of a script bring whole games if those did from which it began
pub stage-whole : (h : House) (count : ℕ) (s : Stage) (lines : List ScriptLine) → AreWhole s.fronts
    → AreWhole (stage_after h count s lines).fronts
unfolding stage_after
stage-whole h count s [] whole = whole
stage-whole h count s (l ∷ lines) whole =
    let before : Stage = stage_after h count s lines in
    line-whole before.stopped h count before l (stage-whole h count s lines whole)
