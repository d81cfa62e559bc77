-- What does a room answer, by the list of all its events? Events, and what happened at them, stand
-- newest first.
use Rattle.std.specs.Prelude.{ℕ, List, [], ◌∷◌, ◌++◌, Some, None, if◌then◌else◌}
use Rattle.hb_club.specs.declared.commands.Entry.{Entry}
use Rattle.hb_club.specs.declared.items.Item.{Item}
use Rattle.hb_club.specs.declared.replies.Reply.TheVariants.{Done}
use Rattle.hb_club.specs.ClerkCalls.{noted_by, noted_item, notice_id, pending_load, todo_of}
use Rattle.hb_club.specs.NewItems.{entry_stamp, item_of, stamp_at, stamped_item}
use Rattle.hb_club.specs.RoomEvents.{Added, AsksTodo, Call, Due, Happening, Notes, Outcome, Replied, RoomEvent, Site, event_moment, in_time}
use Rattle.hb_club.specs.Table.{Table}
use Rattle.hb_club.specs.TableFacts.{own_entries, table_of}
use Rattle.hb_club.specs.TableRefusals.{is_accepted, reply_on}
use Rattle.hb_club.specs.TimeFirst.{timeout, with_items}

-- the item that an accepted entry adds
abbrev pub entry_item : Table → Entry → ℕ → List Item
entry_item t e stamp = stamped_item stamp (item_of t e.member e.command)

-- what happens at an event, by the facts of the latest table once time was applied; `late` is what
-- time added
abbrev pub happens : Site → List Happening → List Item → Table → RoomEvent → Happening
happens s past late t (Call e) = let own = own_entries t.latest e.member past in
    let stamp = entry_stamp t past e in record {
      event = Call e;
      answer = Replied (reply_on t own e);
      added = (if is_accepted t own e then entry_item t e stamp else []) ++ late;
      stamp = if is_accepted t own e then Some stamp else None;
    }
happens s past late t (AsksTodo moment) =
    record { event = AsksTodo moment; answer = Due (todo_of s t past); added = late; stamp = None }
happens s past late t (Notes moment notice) =
    let noted = noted_by t (pending_load t past) notice in
    let stamp = stamp_at t past (in_time moment) in record {
      event = Notes moment notice;
      answer = Added noted;
      added = stamped_item stamp (noted_item (notice_id notice) noted) ++ late;
      stamp = None;
    }

-- time comes first: it applies to every event, whatever the event is answered
abbrev pub happening : Site → List Happening → RoomEvent → Happening
happening s past e = let t = table_of s past in
    let late = timeout t t.game (event_moment e) in happens s past late (with_items late t) e

-- what happened so far, and at one event more. The list is an argument, so that what is computed on
-- this definition computes it once
abbrev pub past_with : Site → RoomEvent → List Happening → List Happening
past_with s e past = happening s past e ∷ past

-- what happened at each event of a room's list
abbrev pub past_of : Site → List RoomEvent → List Happening
past_of s [] = []
past_of s (e ∷ events) = past_with s e (past_of s events)

abbrev pub newest_answer : List Happening → Outcome
newest_answer [] = Replied Done
newest_answer (h ∷ past) = h.answer

-- the answer to the newest event
unfoldable pub answer_to : Site → List RoomEvent → Outcome
answer_to s events = newest_answer (past_of s events)

-- the facts of the latest table after these events
abbrev pub table_at : Site → List RoomEvent → Table
table_at s events = table_of s (past_of s events)
