-- Which item may a note of the clerk add?
use Rattle.std.proofs.Common.{◌≡◌, ◌≢◌, ℕ, Bool, true, false, List, ◌∷◌, sym, ◌∙◌, inl, inr, Some, None, if◌then◌else◌, ◌&&◌, ◌==◌}
use Rattle.std.specs.Prelude.{Option, ◌⊎◌}
use Rattle.hb_club.specs.declared.clerks.ClerkNote.TheVariants as note
use Rattle.hb_club.specs.declared.clerks.Noted.{Noted}
use Rattle.hb_club.specs.declared.clerks.Noted.TheVariants as noted
use Rattle.hb_club.specs.ClerkCalls.{found_or_not, is_due, is_pending, pending_load}
use Rattle.hb_club.specs.EndedReplays.{Finished}
use Rattle.hb_club.specs.RoomEvents.{Added, Outcome, RoomEvent, Site, in_time, note_event, read_text}
use Rattle.hb_club.specs.Rooms.{answer_to, past_of}
use Rattle.hb_club.specs.TimeFirst.{timed_table}
use Rattle.hb_house.specs.KeptOnce.{NotesAdd}

saved-or-nothing : (b : Bool) (which : Noted) → (if b then noted.Saved else noted.Nothing) ≡ which
    → (which ≡ noted.Saved) ⊎ (which ≡ noted.Nothing)
saved-or-nothing true which is = inl (sym is)
saved-or-nothing false which is = inr (sym is)

never-saved : (b : Bool) (game : Option Finished) (which : Noted) → (if b then found_or_not game else noted.Nothing) ≡ which
    → which ≢ noted.Saved
never-saved true None which is = λ bad. let one : ◌≡◌ {A = Noted} noted.NoGame noted.Saved = is ∙ bad in cc
never-saved true (Some game) which is = λ bad. let one : ◌≡◌ {A = Noted} noted.Loaded noted.Saved = is ∙ bad in cc
never-saved false game which is = λ bad. let one : ◌≡◌ {A = Noted} noted.Nothing noted.Saved = is ∙ bad in cc

note_saved-adds : (s : Site) (moment table id : ℕ) (events : List RoomEvent) (which : Noted)
    → answer_to s (note_event moment (note.Saved table id) ∷ events) ≡ Added which
    → (which ≡ noted.Saved) ⊎ (which ≡ noted.Nothing)
unfolding answer_to
note_saved-adds s moment table id events which is =
    let t = timed_table s (past_of s events) (in_time moment) in
    let test : Bool = table == t.latest && is_due t in
    let same : ◌≡◌ {A = Outcome} (Added (if test then noted.Saved else noted.Nothing)) (Added which) = is in
    let one : (if test then noted.Saved else noted.Nothing) ≡ which = cc in
    saved-or-nothing test which one

note_loaded-adds : (s : Site) (moment table id : ℕ) (text : Option (List ℕ)) (events : List RoomEvent) (which : Noted)
    → answer_to s (note_event moment (note.Loaded table id text) ∷ events) ≡ Added which → which ≢ noted.Saved
unfolding answer_to
note_loaded-adds s moment table id text events which is =
    let past = past_of s events in
    let t = timed_table s past (in_time moment) in
    let test : Bool = is_pending t.latest table id (pending_load t past) in
    let same : ◌≡◌ {A = Outcome} (Added (if test then found_or_not (read_text text) else noted.Nothing)) (Added which) = is in
    let one : (if test then found_or_not (read_text text) else noted.Nothing) ≡ which = cc in
    never-saved test (read_text text) which one

-- what notes add
pub notes-add : NotesAdd
notes-add = record { saved = note_saved-adds; loaded = note_loaded-adds }
