-- Of what is the reply to a member a function? Of the member's view and its own entries, by these
-- laws; and what a member sees of a table only grows.
use Rattle.std.specs.Prelude.{◌≡◌, ℕ, List, ◌∷◌, ◌++◌}
use Rattle.hb_club.specs.declared.clerks.ClerkNote.{ClerkNote}
use Rattle.hb_club.specs.declared.commands.Entry.{Entry}
use Rattle.hb_club.specs.ClerkCalls.{pending_load}
use Rattle.hb_club.specs.Fronts.{GoesOn}
use Rattle.hb_club.specs.OwnEntries.{OwnEntry}
use Rattle.hb_club.specs.RoomEvents.{Call, Replied, RoomEvent, Site, event_moment, note_event}
use Rattle.hb_club.specs.Rooms.{answer_to, past_of, table_at}
use Rattle.hb_club.specs.SeenTable.{answer}
use Rattle.hb_club.specs.Table.{Table}
use Rattle.hb_club.specs.TableInvariant.{IsApart, IsTable}
use Rattle.hb_club.specs.TableRecord.{IsRecord}
use Rattle.hb_club.specs.TableRefusals.{reply_on}
use Rattle.hb_club.specs.TimeFirst.{timed_table}
use Rattle.hb_club.specs.Views.{View, own_at, view_at, view_in_time, view_on}
use Rattle.hb_club.specs.WholeGames.{BringWhole, BringsWhole}

-- whatever happened in a room, its latest table is one, before time is applied and after it
abbrev pub TablesAreTables : Type 0
TablesAreTables = (s : Site) (events : List RoomEvent) → BringWhole events
    → IsTable s (table_at s events)
    × ((moment : ℕ) → IsTable s (timed_table s (past_of s events) moment))

-- and the items of that table are a record
abbrev pub ItemsAreRecords : Type 0
ItemsAreRecords = (s : Site) (events : List RoomEvent) → IsRecord (table_at s events).items

-- no load is pending at it where a game was started or loaded
abbrev pub LoadsAreApart : Type 0
LoadsAreApart = (s : Site) (events : List RoomEvent)
    → IsApart (table_at s events) (pending_load (table_at s events) (past_of s events))

-- the reply by the facts of a table is the answer that is read off the view of its member
abbrev pub RepliesSeeTheView : Type 0
RepliesSeeTheView = (s : Site) (t : Table) (own : List OwnEntry) (e : Entry) → IsTable s t
    → answer (view_on t e.member) own e ≡ reply_on t own e

-- the view of the member of an entry, when the entry comes
abbrev pub view_for : Site → List RoomEvent → Entry → View
view_for s events e = view_in_time s events (event_moment (Call e)) e.member

-- what a room replies to a member is the answer that is read off the member's view and own entries
abbrev pub AnswersSeeTheView : Type 0
AnswersSeeTheView = (s : Site) (events : List RoomEvent) (e : Entry) → BringWhole events
    → answer_to s (Call e ∷ events)
    ≡ Replied (answer (view_for s events e) (own_at s events e.member) e)

-- so a member to whom two rooms look alike, with the same entries in both, is answered alike,
-- whatever the decks are
abbrev pub AlikeAreAnsweredAlike : Type 0
AlikeAreAnsweredAlike = (s t : Site) (events others : List RoomEvent) (e : Entry)
    → BringWhole events → BringWhole others → view_for s events e ≡ view_for t others e
    → own_at s events e.member ≡ own_at t others e.member
    → answer_to s (Call e ∷ events) ≡ answer_to t (Call e ∷ others)

-- whatever text the clerk brings, the game that a room reads in it is whole
abbrev pub NotesBringWhole : Type 0
NotesBringWhole = (moment : ℕ) (n : ClerkNote) → BringsWhole (note_event moment n)

-- the items that a member sees of a table only grow
abbrev pub ItemsGoOn : Type 0
ItemsGoOn = (s : Site) (more events : List RoomEvent) (member : List ℕ)
    → (view_at s (more ++ events) member).latest ≡ (view_at s events member).latest
    → GoesOn (view_at s events member).items (view_at s (more ++ events) member).items
