-- What does a room reply to an entry, by its fields?
use Rattle.std.specs.Prelude.{ℕ, Bool, not, ◌&&◌, ◌==◌, List, Option, None, bytes_eq, if◌then◌else◌, is_some, length}
use Rattle.std.specs.List.{list_any}
use Rattle.std.specs.Option.{option_to_list}
use Rattle.hb_club.specs.declared.commands.Entry.{Entry}
use Rattle.hb_club.specs.declared.replies.Reply.{Reply}
use Rattle.hb_club.specs.CommandKinds.{asked_action}
use Rattle.hb_club.specs.Seating.{Watcher}
use Rattle.hb_club.specs.TableRefusals.{first_reply}
use Rattle.hb_club.specs.TableReview.{step_refusal}
use Rattle.hb_refusals.specs.declared.facts.Facts.{Facts}
use Rattle.hb_refusals.specs.FactRows.{opens_next_to, rows_on}
use Rattle.hb_refusals.specs.KeptReplies.{count_at, kept_at, reply_of}
use Rattle.hb_playing.specs.RoomClocks.{paused_by}
use Rattle.hb_playing.specs.Games.{cards_by, ended_by, players_by, rule_by}
use Rattle.hb_playing.specs.RoomReviews.{reviewed_by, steps_by}
use Rattle.hb_playing.specs.Seats.{seat_in}
use Rattle.hb_table.specs.declared.room.Room.{Room}

-- what the rows of the table of refusals read
abbrev pub facts_in : Room → List ℕ → Facts
facts_in r member = record {
  latest = r.latest;
  standing = r.standing;
  host = list_any (bytes_eq member) (option_to_list r.host);
  started = is_some r.names;
  loaded = is_some r.loaded;
  seated = list_any (bytes_eq member) r.seats.items;
  watching = list_any (λ (w : Watcher). bytes_eq member w.0) r.watchers.items;
  seats = length r.seats.items;
  watchers = length r.watchers.items;
  ended = ended_by r.game;
  saved = r.saved;
  loading = is_some r.load;
  timed = r.options.timed;
  paused = paused_by r.timer;
  cards = cards_by r.game;
  players = players_by r.game;
}

-- the reply of the entry's number, and for how many numbers one is kept, if it is made at the
-- latest table
abbrev pub known_in : Room → Entry → Option Reply
known_in r e = if e.table == r.latest
    then reply_of (kept_at r.kept e.member e.number) e.command else None

abbrev pub count_in : Room → Entry → ℕ
count_in r e = if e.table == r.latest then count_at r.kept e.member else 0

-- the first row that holds
abbrev pub verdict_in : Room → Entry → Option Reply
verdict_in r e = let c = e.command in
    first_reply (rows_on (facts_in r e.member) (known_in r e) (count_in r e)
    (rule_by r.game (seat_in r.names e.member) (asked_action c))
    (step_refusal (reviewed_by r.review) (steps_by r.review) c) e)

-- the entry opens the next table, and none is open
abbrev pub opens_in : Room → Entry → Bool
opens_in r e = opens_next_to r.latest e && not r.standing
