-- What does the clerk do on its way through the rooms, if nobody else comes to them, and the keeper
-- tells what it contains and which of its calls fail?
use Rattle.std.specs.Prelude.{ℕ, ◌+◌, List, [], ◌∷◌, Option, Some, None, Result, Ok, Err, option_map}
use Rattle.std.specs.List.{range_with_len}
use Rattle.hb_keeper.specs.declared.errors.KeepError.{KeepError}
use Rattle.hb_keeper.specs.declared.rows.Key.{Key}
use Rattle.hb_keeper.specs.declared.rows.GameRow.{GameRow}
use Rattle.hb_keeper.specs.KeptGames.{get_on, put_on}
use Rattle.hb_club.specs.declared.clerks.ClerkNote.{ClerkNote}
use Rattle.hb_club.specs.declared.clerks.ClerkNote.TheVariants as note
use Rattle.hb_club.specs.declared.clerks.Noted.{Noted}
use Rattle.hb_club.specs.declared.clerks.Noted.TheVariants as noted
use Rattle.hb_club.specs.declared.clerks.Todo.{Todo}
use Rattle.hb_club.specs.Fronts.{Fronts, House, site_of, with_event}
use Rattle.hb_club.specs.RoomEvents.{Added, AsksTodo, Due, Outcome, RoomEvent, note_event}
use Rattle.hb_club.specs.Rooms.{answer_to}
use Rattle.hb_talk.specs.Keeping.{Keeping, keeper_call}

-- where the clerk stands: the lists, the keeper, how many notes of each kind added an item, and the
-- keeper's refusal, at which it stops
pub record Round : Type 0 where
  pub fronts : Fronts
  pub keeping : Keeping
  pub saved : ℕ
  pub loaded : ℕ
  pub missing : ℕ
  pub refused : Option KeepError

-- before the first room
abbrev pub new_round : Fronts → Keeping → Round
new_round f k =
    record { fronts = f; keeping = k; saved = 0; loaded = 0; missing = 0; refused = None }

-- an item that a note added is counted
abbrev pub counted : Noted → Round → Round
counted noted.Nothing r = r
counted noted.Saved r = record r { saved = r.saved + 1 }
counted noted.Loaded r = record r { loaded = r.loaded + 1 }
counted noted.NoGame r = record r { missing = r.missing + 1 }

-- the calls of a room

abbrev pub noted_in : Outcome → Noted
noted_in (Added which) = which
noted_in _ = noted.Nothing

abbrev pub todo_in : Outcome → Todo
todo_in (Due todo) = todo
todo_in _ = record { save = None; load = None }

abbrev pub with_call : ℕ → RoomEvent → Round → Round
with_call room event r = record r { fronts = with_event room event r.fronts }

abbrev pub room_answer : House → ℕ → Round → Outcome
room_answer h room r = answer_to (site_of h room) (r.fronts.rooms room)

-- a note to a room
abbrev pub noting : House → ℕ → ℕ → ClerkNote → Round → Round
noting h room moment n r = let after = with_call room (note_event moment n) r in
    counted (noted_in (room_answer h room after)) after

-- the calls of the keeper

abbrev pub with_keeping : Keeping → Option KeepError → Round → Round
with_keeping k refused r = record r { keeping = k; refused = refused }

-- a game that is due is put, and noted under its id
abbrev pub saved_by : House → ℕ → ℕ → ℕ → Result ℕ KeepError → Keeping → Round → Round
saved_by h room moment serial (Ok id) k r =
    noting h room moment (note.Saved serial id) (with_keeping k None r)
saved_by h room moment serial (Err why) k r = with_keeping k (Some why) r

abbrev pub saves : House → ℕ → ℕ → Option (Key × GameRow) → Round → Round
saves h room moment None r = r
saves h room moment (Some save) r =
    let done = keeper_call (put_on save.0 save.1) r.keeping in
    saved_by h room moment save.0.serial done.0 done.1 r

-- a load that is pending is got, and noted with the text of the game
abbrev pub loaded_by : House → ℕ → ℕ → ℕ × ℕ → Result (Option GameRow) KeepError → Keeping → Round
    → Round
loaded_by h room moment load (Ok row) k r =
    let text = option_map (λ (row : GameRow). row.text) row in
    noting h room moment (note.Loaded load.0 load.1 text) (with_keeping k None r)
loaded_by h room moment load (Err why) k r = with_keeping k (Some why) r

abbrev pub loads_unless : Option KeepError → House → ℕ → ℕ → Option (ℕ × ℕ) → Round → Round
loads_unless None h room moment (Some load) r =
    let done = keeper_call (get_on load.1) r.keeping in
    loaded_by h room moment load done.0 done.1 r
loads_unless _ h room moment load r = r

-- the way

-- what a room has for the clerk: first the game that is due, and then the load that is pending
abbrev pub does : House → ℕ → ℕ → Todo → Round → Round
does h moment room todo r = let saved = saves h room moment todo.save r in
    loads_unless saved.refused h room moment todo.load saved

-- one room, unless the keeper refused before
abbrev pub visit_unless : Option KeepError → House → ℕ → ℕ → Round → Round
visit_unless (Some why) h moment room r = r
visit_unless None h moment room r = let asked = with_call room (AsksTodo moment) r in
    does h moment room (todo_in (room_answer h room asked)) asked

-- the rooms in order
abbrev pub visits : House → ℕ → List ℕ → Round → Round
visits h moment [] r = r
visits h moment (room ∷ rooms) r =
    visits h moment rooms (visit_unless r.refused h moment room r)

-- all rooms of a house with so many
abbrev pub clerk_round : House → ℕ → ℕ → Fronts → Keeping → Round
clerk_round h count moment f k = visits h moment (range_with_len 1 count) (new_round f k)
