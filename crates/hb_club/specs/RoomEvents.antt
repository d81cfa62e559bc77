-- What can happen to a room, and what is kept of each event?
use Rattle.std.specs.Prelude.{ℕ, List, Option, Some, None, min}
use Rattle.hb_rules.specs.declared.suits.Identity.{Identity}
use Rattle.hb_timer.specs.declared.timing.TheConstants.{MOMENT_LIMIT}
use Rattle.hb_club.specs.declared.clerks.ClerkNote.{ClerkNote}
use Rattle.hb_club.specs.declared.clerks.ClerkNote.TheVariants as note
use Rattle.hb_club.specs.declared.clerks.Noted.{Noted}
use Rattle.hb_club.specs.declared.clerks.Todo.{Todo}
use Rattle.hb_club.specs.declared.commands.Entry.{Entry}
use Rattle.hb_club.specs.declared.items.Item.{Item}
use Rattle.hb_club.specs.declared.replies.Reply.{Reply}
use Rattle.hb_club.specs.EndedReplays.{Finished, read_ended}

-- what a room was made with: its number, the seed and the written deck of its shoe, and the number
-- of the server's run
pub record Site : Type 0 where
  pub room : ℕ
  pub seed : List ℕ
  pub written : Option (List Identity)
  pub run : ℕ

-- what the clerk notes of a table: the id under which its game is kept, or the ended game that the
-- kept one with an id is, if it is one
pub data Notice : Type 0 where
  Saved : (table id : ℕ) → Notice
  Loaded : (table id : ℕ) (game : Option Finished) → Notice

-- an event of a room: the entry of a member, the clerk's question what there is to do, or a notice
-- of the clerk
pub data RoomEvent : Type 0 where
  Call : (entry : Entry) → RoomEvent
  AsksTodo : (moment : ℕ) → RoomEvent
  Notes : (moment : ℕ) (notice : Notice) → RoomEvent

abbrev pub read_text : Option (List ℕ) → Option Finished
read_text None = None
read_text (Some text) = read_ended text

-- of the text that a note brings, only the ended game matters that it says
abbrev pub notice_of : ClerkNote → Notice
notice_of (note.Saved table id) = Saved table id
notice_of (note.Loaded table id text) = Loaded table id (read_text text)

-- the event of a note of the clerk
abbrev pub note_event : ℕ → ClerkNote → RoomEvent
note_event moment n = Notes moment (notice_of n)

-- a moment above the greatest one counts as that
abbrev pub in_time : ℕ → ℕ
in_time moment = min moment MOMENT_LIMIT

-- the moment of an event
abbrev pub event_moment : RoomEvent → ℕ
event_moment (Call e) = in_time e.moment
event_moment (AsksTodo moment) = in_time moment
event_moment (Notes moment notice) = in_time moment

-- what an event is answered
pub data Outcome : Type 0 where
  Replied : (reply : Reply) → Outcome
  Due : (todo : Todo) → Outcome
  Added : (noted : Noted) → Outcome

-- what happened at an event: its answer, the items that it added, a timeout among them, and the
-- stamp if it was an accepted command
pub record Happening : Type 0 where
  pub event : RoomEvent
  pub answer : Outcome
  pub added : List Item
  pub stamp : Option ℕ
