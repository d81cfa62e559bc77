-- From which item does an answer go on behind marks, and what do marks say of a view?
use Rattle.std.proofs.Common.{◌≡◌, ℕ, ◌+◌, ◌≤◌, Bool, true, false, List, length, refl, sym, ap, arith, Some, None, length-take}
use Rattle.std.proofs.lemmas.Bool.{and_parts, eqb-true}
use Rattle.std.proofs.lemmas.Bool.Decides.{nat_tests}
use Rattle.std.proofs.lemmas.List.{length-reverse}
use Rattle.std.specs.Option.{option_eq}
use Rattle.std.specs.Prelude.{Option, ◌&&◌, ◌==◌, if◌then◌else◌, nat_le, nat_lt, unwrap_or}
use Rattle.hb_club.specs.declared.answers.Answered.{Answered}
use Rattle.hb_club.specs.declared.answers.Seen.{Seen}
use Rattle.hb_club.specs.declared.items.Item.{Item}
use Rattle.hb_club.specs.declared.items.Viewer.{Viewer}
use Rattle.hb_club.specs.declared.items.Viewer.TheVariants.{Seat, Watcher, Guest}
use Rattle.hb_club.specs.Fronts.{IsRoom, is_room}
use Rattle.hb_club.specs.HallAnswers.{Shows, items_from, seen_from}
use Rattle.hb_club.specs.Seating.{same_viewer}
use Rattle.hb_club.specs.Views.{View}
use Rattle.hb_talk.specs.declared.sessions.Marks.{Marks}
use Rattle.hb_talk.specs.Sessions.{marks_after, seen_of}
use Rattle.hb_talk.specs.Turns.{marked_count, marks_of}

same-shadow : (a b : Option ℕ) → option_eq ◌==◌ a b ≡ true → a ≡ b
same-shadow None None is = refl
same-shadow None (Some b) is = absurd cc
same-shadow (Some a) None is = absurd cc
same-shadow (Some a) (Some b) is = ap Some (eqb-true a b is)

-- viewers that are tested as the same are one
pub same_viewer-is : (a b : Viewer) → same_viewer a b ≡ true → a ≡ b
same_viewer-is (Seat s) (Seat t) is = ap Seat (eqb-true s t is)
same_viewer-is (Seat s) (Watcher b) is = absurd cc
same_viewer-is (Seat s) Guest is = absurd cc
same_viewer-is (Watcher a) (Seat t) is = absurd cc
same_viewer-is (Watcher a) (Watcher b) is = ap Watcher (same-shadow a b is)
same_viewer-is (Watcher a) Guest is = absurd cc
same_viewer-is Guest (Seat t) is = absurd cc
same_viewer-is Guest (Watcher b) is = absurd cc
same_viewer-is Guest Guest is = refl

-- what is so of marks from which a stream goes on
pub record AreMarked (m : Marks) (room : ℕ) (w : View) (count : ℕ) : Type 0 where
  pub same_room : m.room ≡ room
  pub same_table : m.table ≡ w.latest
  pub same_viewer : m.viewer ≡ w.viewer
  pub same_count : m.count ≡ count

-- a stream goes on only from marks of this room, table and viewer
pub marked_count-is : (m : Marks) (room : ℕ) (w : View) (count : ℕ) → marked_count (Some m) room w ≡ Some count → AreMarked m room w count
marked_count-is m room w count is = by (m.room == room && m.table == w.latest && same_viewer m.viewer w.viewer) refl is
  where
    by : (b : Bool) → (m.room == room && m.table == w.latest && same_viewer m.viewer w.viewer) ≡ b
        → ◌≡◌ {A = Option ℕ} (if b then Some m.count else None) (Some count) → AreMarked m room w count
    by false test is = absurd cc
    by true test is =
        let parts : ((m.room == room && m.table == w.latest) ≡ true) × (same_viewer m.viewer w.viewer ≡ true) = and_parts _ _ test in
        let both : ((m.room == room) ≡ true) × ((m.table == w.latest) ≡ true) = and_parts _ _ parts.0 in
        let same : m.count ≡ count = cc in record {
          same_room = eqb-true m.room room both.0;
          same_table = eqb-true m.table w.latest both.1;
          same_viewer = same_viewer-is m.viewer w.viewer parts.1;
          same_count = same;
        }

if-zero : (b : Bool) → ◌≡◌ {A = ℕ} (if b then 0 else 0) 0
if-zero true = refl
if-zero false = refl

-- an answer goes on from the marks' number, if the marks are of the room, table and viewer, and else from 0
pub seen_from-marks : (marks : Option Marks) (room : ℕ) (w : View)
    → ((m : Marks) → marks ≡ Some m → m.room ≡ room → m.table ≡ w.latest → m.viewer ≡ w.viewer → m.count ≤ length w.items)
    → seen_from (seen_of marks room) w ≡ unwrap_or (marked_count marks room w) 0
seen_from-marks None room w fits = if-zero _
seen_from-marks (Some m) room w fits = by (m.room == room) refl
  where
    by_viewer : (table viewer : Bool) → (m.table == w.latest) ≡ table → same_viewer m.viewer w.viewer ≡ viewer → (m.room == room) ≡ true
        → (if (m.table == w.latest && same_viewer m.viewer w.viewer && nat_le m.count (length w.items)) then m.count else 0)
        ≡ unwrap_or (if (m.table == w.latest && same_viewer m.viewer w.viewer) then Some m.count else None) 0
    by_viewer false viewer table_is viewer_is here = rw table_is refl
    by_viewer true false table_is viewer_is here = rw (table_is, viewer_is) refl
    by_viewer true true table_is viewer_is here =
        let within : m.count ≤ length w.items = fits m refl (eqb-true m.room room here) (eqb-true m.table w.latest table_is)
        (same_viewer-is m.viewer w.viewer viewer_is) in
        let small : nat_le m.count (length w.items) ≡ true = grind (arith, nat_tests) in
        rw (table_is, viewer_is, small) refl

    by : (b : Bool) → (m.room == room) ≡ b → seen_from (seen_of (Some m) room) w ≡ unwrap_or (marked_count (Some m) room w) 0
    by false is = rw is (if-zero _)
    by true is = rw is (by_viewer (m.table == w.latest) (same_viewer m.viewer w.viewer) refl refl is)

-- and never from behind the items that there are
pub seen_from-within : (seen : Seen) (w : View) → seen_from seen w ≤ length w.items
seen_from-within seen w =
    by (seen.table == w.latest && same_viewer seen.viewer w.viewer) (nat_le seen.count (length w.items)) refl refl
  where
    by : (a b : Bool) → (seen.table == w.latest && same_viewer seen.viewer w.viewer) ≡ a → nat_le seen.count (length w.items) ≡ b
        → seen_from seen w ≤ length w.items
    by false b is small = rw is (omega arith)
    by true false is small = rw (is, small) (omega arith)
    by true true is small = rw (is, small) (grind (arith, nat_tests))

-- the marks of a view say of it
pub record AreOf (m : Marks) (w : View) : Type 0 where
  pub table : m.table ≡ w.latest
  pub viewer : m.viewer ≡ w.viewer
  pub count : m.count ≡ length w.items

-- what marks say that are those of a view
pub marks_of-say : (room : ℕ) (w : View) (m : Marks) → marks_of room w ≡ Some m → AreOf m w
marks_of-say room w m is = by (w.latest == 0) refl
  where
    by : (b : Bool) → (w.latest == 0) ≡ b → AreOf m w
    by true none = let h : ◌≡◌ {A = Option Marks} None (Some m) = rw none at is in absurd cc
    by false some =
        let own : Marks = record { room = room; table = w.latest; viewer = w.viewer; count = length w.items } in
        let h : ◌≡◌ {A = Option Marks} (Some own) (Some m) = rw some at is in
        let e : own ≡ m = cc in record {
          table = sym (ap (λ (x : Marks). x.table) e);
          viewer = sym (ap (λ (x : Marks). x.viewer) e);
          count = sym (ap (λ (x : Marks). x.count) e);
        }

length-items_from : (from : ℕ) (items : List Item) → from ≤ length items → from + length (items_from from items) ≡ length items
length-items_from from items within = simp (length-reverse, length-take) (omega arith)

-- the marks that an answer leaves are those of the view that it shows
pub marks_after-shows : (room : ℕ) (w : View) (a : Answered) → Shows w a.from a → a.from ≤ length w.items
    → marks_after room a ≡ marks_of room w
marks_after-shows room w a shows within =
    let count : a.from + length a.items ≡ length w.items = rw shows.items (length-items_from a.from w.items within) in
    rw (shows.table, shows.viewer, count) refl

-- the test of a room's number passes exactly rooms
pub is_room-true : (count room : ℕ) → IsRoom count room → is_room count room ≡ true
is_room-true count room is =
    let low : nat_lt 0 room ≡ true = grind (arith, nat_tests) in
    let high : nat_le room count ≡ true = grind (arith, nat_tests) in
    rw (low, high) refl

-- and no other number
pub is_room-false : (count room : ℕ) → ¬ IsRoom count room → is_room count room ≡ false
is_room-false count room missing = by (nat_lt 0 room) (nat_le room count) refl refl
  where
    by : (a b : Bool) → nat_lt 0 room ≡ a → nat_le room count ≡ b → is_room count room ≡ false
    by false b low high = rw low refl
    by true false low high = rw (low, high) refl
    by true true low high = absurd (missing (grind (arith, nat_tests), grind (arith, nat_tests)))
