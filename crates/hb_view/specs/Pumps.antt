-- What does a call of `pump` say of the texts and of the cursor?
use Rattle.std.specs.Prelude.{◌≡◌, ◌≤◌, ℕ, List, ◌++◌, length}
use Rattle.hb_review.specs.Reviews.{first_of}
use Rattle.hb_club.specs.declared.answers.Answered.{Answered}
use Rattle.hb_club.specs.HallAnswers.{Shows}
use Rattle.hb_club.specs.Views.{View}
use Rattle.hb_talk.specs.Streams.{item_texts}
use Rattle.hb_view.specs.declared.cursors.Cursor.{Cursor}
use Rattle.hb_view.specs.Cursors.{Written}
use Rattle.hb_view.specs.StreamViews.{IsStream}

-- the texts of a view's items from a number on were appended, and the cursor has written all items
pub record Streams (w : View) (from : ℕ) (old new : List (List ℕ)) (c : Cursor) : Type 0 where
  pub texts : new ≡ old ++ item_texts w from
  pub left : Written w w.items c

-- it is so of each view that the answer shows, if the cursor has written the items before
abbrev pub Pumps : Answered → Cursor → Cursor → List (List ℕ) → List (List ℕ) → Type 0
Pumps a old_cursor new_cursor old new = (w : View) → IsStream w → Shows w a.from a
    → a.from ≤ length w.items → Written w (first_of a.from w.items) old_cursor
    → Streams w a.from old new new_cursor
