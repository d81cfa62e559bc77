-- Internal: no public clause cites this.
-- What does a room take memory for before it takes an entry, and what does its answer say then?
use Rattle.std.specs.Prelude.{◌≡◌, ℕ, ◌+◌, ◌<◌, ◌≤◌, ◌^◌, Bool, ◌&&◌, ◌||◌, ◌==◌, List, [], Option, Some, None, drop, if◌then◌else◌, is_some, length, nat_le}
use Rattle.std.specs.Vec.{vec_capacity}
use Rattle.hb_club.specs.declared.answers.Answered.{Answered}
use Rattle.hb_club.specs.declared.answers.Head.{Head}
use Rattle.hb_club.specs.declared.answers.Seen.{Seen}
use Rattle.hb_club.specs.declared.commands.Entry.{Entry}
use Rattle.hb_club.specs.declared.items.Viewer.{Viewer}
use Rattle.hb_club.specs.EndedReplays.{Finished}
use Rattle.hb_club.specs.Seating.{place_from, same_viewer, shadow_of, some_names, viewer_by}
use Rattle.hb_club.specs.TableFacts.{opening_by}
use Rattle.hb_table.specs.declared.answers.Spare.{Spare}
use Rattle.hb_table.specs.declared.room.Room.{Room}
use Rattle.hb_table.specs.Shown.{game_by}
use Rattle.hb_table.specs.Verdicts.{opens_in}

-- the name of the variant and the players of the game that was loaded, or started; before a start
-- of the one that would start
abbrev pub names_by : Option Finished → Room → List ℕ × List (List ℕ)
names_by (Some l) r = (l.name, l.players)
names_by None r = (r.name, r.seats.items)

-- a game was started or loaded
abbrev pub has_game : Room → Bool
has_game r = is_some r.loaded || is_some r.names

-- the head of the table, if this is its name, and these are the names of its game
abbrev pub head_with : Room → List ℕ → List ℕ × List (List ℕ) → Option Head
head_with r name names = if r.latest == 0 then None else Some (record {
  name = name;
  options = r.options;
  game = if has_game r then Some names else None;
})

abbrev pub head_in : Room → Option Head
head_in r = head_with r r.name (names_by r.loaded r)

-- the name of the table at which an entry leaves the room
abbrev pub name_after : Room → Entry → List ℕ
name_after r e = if opens_in r e then (opening_by e.command).0 else r.name

-- the texts of the head are there, and room for the items, two more among them
pub record IsSpare (e : Entry) (r : Room) (s : Spare) : Type 0 where
  pub name : s.name ≡ name_after r e
  pub names : s.names ≡ names_by r.loaded r
  pub items : s.items.items ≡ []
  pub room : length r.items.items + 2 ≤ vec_capacity s.items
  pub few : length r.items.items + 2 < 2 ^ 32

-- how a member sees the table
abbrev pub viewer_in : Room → List ℕ → Viewer
viewer_in r member =
    viewer_by (place_from 0 member (some_names r.names)) (shadow_of member r.watchers.items)

-- the number of the first item that is answered
abbrev pub first_in : Room → Viewer → Seen → ℕ
first_in r v seen =
    if seen.table == r.latest && same_viewer seen.viewer v
    && nat_le seen.count (length r.items.items) then seen.count else 0

-- an answer to a member has this head, and else the facts of the room
pub record HasFacts (member : List ℕ) (seen : Seen) (head : Option Head) (r : Room)
    (a : Answered) : Type 0 where
  pub table : a.table ≡ r.latest
  pub viewer : a.viewer ≡ viewer_in r member
  pub head_is : a.head ≡ head
  pub game : a.game ≡ game_by r.loaded r.game
  pub first : a.from ≡ first_in r (viewer_in r member) seen
  pub within : a.from ≤ length r.items.items
  pub items : a.items ≡ drop a.from r.items.items
