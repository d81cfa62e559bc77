-- Which texts are written of a room's answer, and where is the cursor then?
use Rattle.std.proofs.Common.{◌≡◌, ℕ, ◌-◌, Bool, true, false, List, [], ◌∷◌, ◌++◌, length, drop, refl, sym, ◌∙◌, ap, subst, arith, append_assoc, Some, None}
use Rattle.std.proofs.Math.Seq.{drop-length}
use Rattle.std.specs.Prelude.{Option, ◌&&◌, ◌==◌, if◌then◌else◌, unwrap_or}
use Rattle.hb_review.specs.Reviews.{first_of}
use Rattle.hb_club.specs.declared.answers.Answered.{Answered}
use Rattle.hb_club.specs.declared.items.Viewer.{Viewer}
use Rattle.hb_club.specs.Seating.{same_viewer}
use Rattle.hb_club.specs.Views.{View}
use Rattle.hb_view.specs.declared.cursors.Cursor.{Cursor}
use Rattle.hb_view.specs.Cursors.{Written}
use Rattle.hb_view.specs.Pumps.{Pumps}
use Rattle.hb_talk.specs.declared.sessions.Marks.{Marks}
use Rattle.hb_talk.specs.Streams.{item_texts, viewer_line}
use Rattle.hb_talk.specs.Turns.{marked_count, stream, stream_from, stream_when}
use Rattle.hb_desk.specs.AnswerSteps.{Follows, Wrote, goes_on}

-- the marks of an answer are those of the view that it shows
marked-by : (m : Marks) (room : ℕ) (w : View) (a : Answered) (b : Bool) → a.table ≡ w.latest → a.viewer ≡ w.viewer
    → goes_on (Some m) room a ≡ b → marked_count (Some m) room w ≡ (if b then Some m.count else None)
marked-by m room w a b table viewer is =
    let test : (m.room == room && m.table == w.latest && same_viewer m.viewer w.viewer) ≡ b =
    subst (λ (v : Viewer). (m.room == room && m.table == w.latest && same_viewer m.viewer v) ≡ b) viewer
    (subst (λ (n : ℕ). (m.room == room && m.table == n && same_viewer m.viewer a.viewer) ≡ b) table is) in
    ap (λ (t : Bool). if t then Some m.count else None) test

unmarked : (marks : Option Marks) (room : ℕ) (w : View) (a : Answered) → a.table ≡ w.latest → a.viewer ≡ w.viewer
    → goes_on marks room a ≡ false → marked_count marks room w ≡ None
unmarked None room w a table viewer is = refl
unmarked (Some m) room w a table viewer is = marked-by m room w a false table viewer is

opened : (w : View) (a : Answered) (b : Bool) → a.table ≡ w.latest → (a.table == 0) ≡ b → (w.latest == 0) ≡ b
opened w a b table is = subst (λ (n : ℕ). (n == 0) ≡ b) table is

-- what is new was written, behind marks of the room, table and viewer
pub wrote-on : (w : View) (a : Answered) (marks : Option Marks) (room : ℕ) (c d : Cursor) (old new : List (List ℕ))
    → goes_on marks room a ≡ true → (a.table == 0) ≡ false → Pumps a c d old new → Follows w a marks room c
    → Wrote w [] marks room old new d
wrote-on w a None room c d old new on some pumps follows = absurd cc
wrote-on w a (Some m) room c d old new on some pumps follows =
    let shows = follows.shows in
    let latest : (w.latest == 0) ≡ false = opened w a false shows.table some in
    let count : marked_count (Some m) room w ≡ Some m.count = marked-by m room w a true shows.table shows.viewer on in
    let from : a.from ≡ m.count = follows.from ∙ ap (λ o. unwrap_or o 0) count in
    let behind : Written w (first_of a.from w.items) c =
    subst (λ n. Written w (first_of n w.items) c) (sym from) (follows.cursor m.count count) in
    let wrote = pumps w (follows.stream latest) shows follows.within behind in
    let is : stream (Some m) room w ≡ item_texts w a.from =
    ap (λ b. stream_when b (Some m) room w) latest ∙ ap (λ o. stream_from o room w) count ∙ ap (item_texts w) (sym from) in
    record { texts = wrote.texts ∙ ap (λ l. old ++ l) (sym is); left = λ _. wrote.left }

first_of-zero : {A : Type 0} (xs : List A) → first_of 0 xs ≡ []
first_of-zero xs = let all : length xs - 0 ≡ length xs = omega arith in ap (λ n. drop n xs) all ∙ drop-length xs

-- a stream was begun anew
pub wrote-anew : (w : View) (a : Answered) (marks : Option Marks) (room : ℕ) (c begun d : Cursor) (old mid new : List (List ℕ))
    → goes_on marks room a ≡ false → (a.table == 0) ≡ false → mid ≡ old ++ viewer_line a.viewer room a.table ∷ []
    → ((v : View) → v.viewer ≡ a.viewer → Written v [] begun) → Pumps a begun d mid new → Follows w a marks room c
    → Wrote w [] marks room old new d
wrote-anew w a marks room c begun d old mid new off some line fresh pumps follows =
    let shows = follows.shows in
    let latest : (w.latest == 0) ≡ false = opened w a false shows.table some in
    let none : marked_count marks room w ≡ None = unmarked marks room w a shows.table shows.viewer off in
    let from : a.from ≡ 0 = follows.from ∙ ap (λ o. unwrap_or o 0) none in
    let first : first_of a.from w.items ≡ [] = ap (λ n. first_of n w.items) from ∙ first_of-zero w.items in
    let behind : Written w (first_of a.from w.items) begun = subst (λ l. Written w l begun) (sym first) (fresh w (sym shows.viewer)) in
    let wrote = pumps w (follows.stream latest) shows follows.within behind in
    let begins : viewer_line a.viewer room a.table ≡ viewer_line w.viewer room w.latest =
    ap (λ v. viewer_line v room a.table) shows.viewer ∙ ap (viewer_line w.viewer room) shows.table in
    let is : stream marks room w ≡ viewer_line w.viewer room w.latest ∷ item_texts w 0 =
    ap (λ b. stream_when b marks room w) latest ∙ ap (λ o. stream_from o room w) none in
    let items : item_texts w a.from ≡ item_texts w 0 = ap (item_texts w) from in
    record {
      texts = wrote.texts ∙ ap (λ l. l ++ item_texts w a.from) line
          ∙ append_assoc old (viewer_line a.viewer room a.table ∷ []) (item_texts w a.from)
          ∙ ap (λ l. old ++ l) (ap (λ l. l ∷ item_texts w a.from) begins ∙ ap (λ l. viewer_line w.viewer room w.latest ∷ l) items ∙ sym is);
      left = λ _. wrote.left;
    }

-- behind lines that were written before
pub wrote-behind : (w : View) (lines : List (List ℕ)) (marks : Option Marks) (room : ℕ) (old mid new : List (List ℕ)) (d : Cursor)
    → mid ≡ old ++ lines → Wrote w [] marks room mid new d → Wrote w lines marks room old new d
wrote-behind w lines marks room old mid new d before wrote = record {
  texts = wrote.texts ∙ ap (λ l. l ++ stream marks room w) before ∙ append_assoc old lines (stream marks room w);
  left = wrote.left;
}
