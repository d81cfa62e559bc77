-- Is the cursor of a session where the answer of its room begins? Yes, if it fitted the lists before.
use Rattle.std.proofs.Common.{◌≡◌, ℕ, ◌+◌, ◌-◌, ◌≤◌, List, ◌++◌, length, drop, refl, sym, ◌∙◌, ap, subst, arith, length-append, Some, None}
use Rattle.std.proofs.Math.Seq.{drop-append_seam}
use Rattle.std.specs.Prelude.{Option}
use Rattle.hb_review.specs.Reviews.{first_of}
use Rattle.hb_club.specs.declared.answers.Answered.{Answered}
use Rattle.hb_club.specs.declared.items.Item.{Item}
use Rattle.hb_club.specs.Fronts.{Fronts, GoesOn, House, site_of}
use Rattle.hb_club.specs.HallAnswers.{Shows, items_from, seen_from}
use Rattle.hb_club.specs.RoomEvents.{RoomEvent, Site}
use Rattle.hb_club.specs.Views.{View, view_at}
use Rattle.hb_club.specs.WholeGames.{BringWhole}
use Rattle.hb_club.proofs.RoomsLemmas.{items-go-on}
use Rattle.hb_house.proofs.GoesOnLemmas.{goes_on-trans}
use Rattle.hb_view.specs.declared.cursors.Cursor.{Cursor}
use Rattle.hb_view.specs.Cursors.{Written}
use Rattle.hb_view.proofs.StreamLawLemmas.{cursors-go-on, views-are-streams}
use Rattle.hb_talk.specs.declared.sessions.Marks.{Marks}
use Rattle.hb_talk.specs.Sessions.{seen_of}
use Rattle.hb_talk.specs.Turns.{marked_count, marks_of}
use Rattle.hb_desk.specs.AnswerSteps.{Follows}
use Rattle.hb_desk.specs.Desks.{CursorFits}
use Rattle.hb_desk.proofs.MarksLemmas.{marked_count-is, marks_of-say, seen_from-marks, seen_from-within}

-- what was written of an earlier list is so of the view of a longer one, of the same table and viewer
pub record IsBehind (w : View) (m : Marks) (c : Cursor) : Type 0 where
  pub within : m.count ≤ length w.items
  pub cursor : Written w (first_of m.count w.items) c

first_of-behind : (n : ℕ) (all more old : List Item) → all ≡ more ++ old → n ≡ length old → first_of n all ≡ old
first_of-behind n all more old is count =
    let rest : length (more ++ old) - n ≡ length more = omega (arith, count, length-append more old) in
    ap (first_of n) is ∙ ap (λ k. drop k (more ++ old)) rest ∙ drop-append_seam more old

written-later : (s : Site) (more older : List RoomEvent) (member : List ℕ) (m : Marks) (c : Cursor)
    → marks_of m.room (view_at s older member) ≡ Some m → Written (view_at s older member) (view_at s older member).items c
    → BringWhole (more ++ older) → m.table ≡ (view_at s (more ++ older) member).latest
    → m.viewer ≡ (view_at s (more ++ older) member).viewer → IsBehind (view_at s (more ++ older) member) m c
written-later s more older member m c marks wrote whole table viewer =
    let old : View = view_at s older member in
    let new : View = view_at s (more ++ older) member in
    let said = marks_of-say m.room old m marks in
    let latest : new.latest ≡ old.latest = sym table ∙ said.table in
    let seen : new.viewer ≡ old.viewer = sym viewer ∙ said.viewer in
    let grown = items-go-on s more older member latest in
    let first : first_of m.count new.items ≡ old.items = first_of-behind m.count new.items grown.more old.items grown.is said.count in
    record {
      within = omega (arith, said.count, ap (λ (l : List Item). length l) grown.is, length-append grown.more old.items);
      cursor = subst (λ l. Written new l c) (sym first) (cursors-go-on s more older member c whole latest seen wrote);
    }

-- so it is of the lists behind a call
pub written-behind : (h : House) (f g : Fronts) (member : List ℕ) (m : Marks) (c : Cursor)
    → CursorFits h f (Some member) (Some m) c → ((room : ℕ) → GoesOn (f.rooms room) (g.rooms room)) → BringWhole (g.rooms m.room)
    → m.table ≡ (view_at (site_of h m.room) (g.rooms m.room) member).latest
    → m.viewer ≡ (view_at (site_of h m.room) (g.rooms m.room) member).viewer
    → IsBehind (view_at (site_of h m.room) (g.rooms m.room) member) m c
written-behind h f g member m c fit on =
    let s = site_of h m.room in
    let all = goes_on-trans fit.goes_on (on m.room) in
    subst (λ (l : List RoomEvent). BringWhole l → m.table ≡ (view_at s l member).latest → m.viewer ≡ (view_at s l member).viewer
    → IsBehind (view_at s l member) m c) (sym all.is)
    (written-later s all.more fit.older member m c fit.marks fit.cursor)

-- also for marks that name the room in another way
pub written-at : (h : House) (f g : Fronts) (member : List ℕ) (m : Marks) (c : Cursor) (room : ℕ) → m.room ≡ room
    → CursorFits h f (Some member) (Some m) c → ((r : ℕ) → GoesOn (f.rooms r) (g.rooms r)) → BringWhole (g.rooms room)
    → m.table ≡ (view_at (site_of h room) (g.rooms room) member).latest
    → m.viewer ≡ (view_at (site_of h room) (g.rooms room) member).viewer
    → IsBehind (view_at (site_of h room) (g.rooms room) member) m c
written-at h f g member m c room at fit on =
    subst (λ (r : ℕ). BringWhole (g.rooms r) → m.table ≡ (view_at (site_of h r) (g.rooms r) member).latest
    → m.viewer ≡ (view_at (site_of h r) (g.rooms r) member).viewer → IsBehind (view_at (site_of h r) (g.rooms r) member) m c) at
    (written-behind h f g member m c fit on)

-- an answer begins where the marks are
from-marks : (h : House) (f g : Fronts) (member : List ℕ) (marks : Option Marks) (c : Cursor) (room : ℕ)
    → CursorFits h f (Some member) marks c → ((r : ℕ) → GoesOn (f.rooms r) (g.rooms r)) → BringWhole (g.rooms room) → (o : Option Marks)
    → marks ≡ o → (m : Marks) → o ≡ Some m → m.room ≡ room → m.table ≡ (view_at (site_of h room) (g.rooms room) member).latest
    → m.viewer ≡ (view_at (site_of h room) (g.rooms room) member).viewer
    → IsBehind (view_at (site_of h room) (g.rooms room) member) m c
from-marks h f g member marks c room fit on whole o same m is at table viewer =
    written-at h f g member m c room at (subst (λ (k : Option Marks). CursorFits h f (Some member) k c) (same ∙ is) fit) on whole
    table viewer

-- and there the cursor is
pub follows : (h : House) (f g : Fronts) (member : List ℕ) (marks : Option Marks)
    (c : Cursor) (room : ℕ) (a : Answered)
    → CursorFits h f (Some member) marks c → ((r : ℕ) → GoesOn (f.rooms r) (g.rooms r)) → BringWhole (g.rooms room)
    → (let w = view_at (site_of h room) (g.rooms room) member in Shows w (seen_from (seen_of marks room) w) a)
    → Follows (view_at (site_of h room) (g.rooms room) member) a marks room c
unfolding view_at
follows h f g member marks c room a fit on whole shows =
    let s = site_of h room in
    let w : View = view_at s (g.rooms room) member in
    let behind : (m : Marks) → marks ≡ Some m → m.room ≡ room → m.table ≡ w.latest → m.viewer ≡ w.viewer → IsBehind w m c =
    from-marks h f g member marks c room fit on whole marks refl in
    record {
      shows = record {
        table = shows.table;
        viewer = shows.viewer;
        head = shows.head;
        game = shows.game;
        first = refl;
        items = shows.items ∙ ap (λ n. items_from n w.items) (sym shows.first);
      };
      within = omega (arith, shows.first, seen_from-within (seen_of marks room) w);
      stream = λ some. views-are-streams s (g.rooms room) member whole some;
      from = shows.first ∙ seen_from-marks marks room w (λ m is at table viewer. (behind m is at table viewer).within);
      cursor = at_count marks refl;
    }
  where
    at_count : (o : Option Marks) → marks ≡ o → (count : ℕ)
        → marked_count o room (view_at (site_of h room) (g.rooms room) member) ≡ Some count
        → Written (view_at (site_of h room) (g.rooms room) member) (first_of count (view_at (site_of h room) (g.rooms room) member).items) c
    at_count None same count is = absurd cc
    at_count (Some m) same count is =
        let w : View = view_at (site_of h room) (g.rooms room) member in
        let are = marked_count-is m room w count is in
        subst (λ n. Written w (first_of n w.items) c) are.same_count
        (from-marks h f g member marks c room fit on whole (Some m) same m refl are.same_room are.same_table are.same_viewer).cursor
