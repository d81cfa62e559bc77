-- Internal: no public clause cites this.
-- What must a room's answer be so that its texts can be written, and what was written of it?
use Rattle.std.specs.Prelude.{◌≡◌, ◌≤◌, ℕ, Bool, false, ◌&&◌, ◌==◌, ⊤, List, ◌++◌, Option, Some, None, length, unwrap_or}
use Rattle.hb_review.specs.Reviews.{first_of}
use Rattle.hb_club.specs.declared.answers.Answered.{Answered}
use Rattle.hb_club.specs.HallAnswers.{Shows}
use Rattle.hb_club.specs.Seating.{same_viewer}
use Rattle.hb_club.specs.Views.{View}
use Rattle.hb_view.specs.declared.cursors.Cursor.{Cursor}
use Rattle.hb_view.specs.Cursors.{Written}
use Rattle.hb_view.specs.StreamViews.{IsStream}
use Rattle.hb_talk.specs.declared.errands.Errand.{Errand}
use Rattle.hb_talk.specs.declared.errands.Errand.TheVariants as errand
use Rattle.hb_talk.specs.declared.sessions.Marks.{Marks}
use Rattle.hb_talk.specs.Turns.{marked_count, stream}

-- a room is called under the session's own name, and the lobby by a session without one
abbrev pub IsFor : Option (List ℕ) → Errand → Type 0
IsFor name errand.Nothing = ⊤
IsFor name (errand.Bad why) = ⊤
IsFor name (errand.Denied why) = ⊤
IsFor name (errand.Enters entry) = name ≡ None
IsFor name (errand.Calls room entry) = name ≡ Some entry.member

-- the marks are of the room, the table and the viewer that an answer names
abbrev pub goes_on : Option Marks → ℕ → Answered → Bool
goes_on None room a = false
goes_on (Some m) room a = m.room == room && m.table == a.table && same_viewer m.viewer a.viewer

-- an answer shows a view that can be written, from where the marks are, and there the cursor is
pub record Follows (w : View) (a : Answered) (marks : Option Marks) (room : ℕ) (c : Cursor)
    : Type 0 where
  pub shows : Shows w a.from a
  pub within : a.from ≤ length w.items
  pub stream : (w.latest == 0) ≡ false → IsStream w
  pub from : a.from ≡ unwrap_or (marked_count marks room w) 0
  pub cursor : (count : ℕ) → marked_count marks room w ≡ Some count
      → Written w (first_of count w.items) c

-- lines were appended, and then the stream of the view; the cursor has written all its items
pub record Wrote (w : View) (lines : List (List ℕ)) (marks : Option Marks) (room : ℕ)
    (old new : List (List ℕ)) (c : Cursor) : Type 0 where
  pub texts : new ≡ old ++ (lines ++ stream marks room w)
  pub left : (w.latest == 0) ≡ false → Written w w.items c
