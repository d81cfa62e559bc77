-- For which lists does a room stand after an event, if it stood for the list before it?
use Rattle.std.specs.Prelude.{◌≡◌, ℕ, true, false, List, ◌∷◌, ◌++◌, Option, Some, None, max, option_map}
use Rattle.std.specs.Option.{option_to_list}
use Rattle.hb_rules.specs.declared.acts.Action.TheVariants as action
use Rattle.hb_rules.specs.declared.acts.EndHow.TheVariants.{Terminated}
use Rattle.hb_rules.specs.Setup.{by}
use Rattle.hb_review.specs.declared.steps.Step.{Step}
use Rattle.hb_review.specs.ReviewModel.{Walk}
use Rattle.hb_club.specs.declared.commands.Command.{Command}
use Rattle.hb_club.specs.declared.commands.Command.TheVariants as command
use Rattle.hb_club.specs.declared.commands.Entry.{Entry}
use Rattle.hb_club.specs.declared.items.What.{What}
use Rattle.hb_club.specs.declared.items.What.TheVariants as what
use Rattle.hb_club.specs.declared.replies.Reply.{Reply}
use Rattle.hb_club.specs.ClerkCalls.{note_by}
use Rattle.hb_club.specs.CommandKinds.{is_look}
use Rattle.hb_club.specs.RoomEvents.{Call, Outcome, Replied, RoomEvent, Site, event_moment, in_time}
use Rattle.hb_club.specs.NewItems.{step_item}
use Rattle.hb_club.specs.Rooms.{answer_to, past_of}
use Rattle.hb_club.specs.TableReview.{step_of}
use Rattle.hb_club.specs.WholeGames.{BringWhole}
use Rattle.hb_playing.specs.Games.{game_after}
use Rattle.hb_playing.specs.RoomReviews.{reviewed_by, steps_by, walk_of}
use Rattle.hb_playing.specs.Seats.{seat_in}
use Rattle.hb_table.specs.declared.room.Room.{Room}
use Rattle.hb_table.specs.State.{state_at}
use Rattle.hb_table.specs.StateMoves.{timed_state}
use Rattle.hb_table.specs.Keeps.{IsTimely, Keeps, StandsFor, site_in}
use Rattle.hb_table.specs.Changes.{AddsItem, Stamps, review_after}
use Rattle.hb_table.specs.Verdicts.{opens_in, verdict_in}

-- for each list for which the room stood: it stands for the list with the event, and the answer to
-- the event is this one
abbrev pub Answers : RoomEvent → Outcome → Room → Room → Type 0
Answers e outcome a b = (events : List RoomEvent) → StandsFor a events
    → StandsFor b (e ∷ events) × (answer_to (site_in a) (e ∷ events) ≡ outcome)

-- the event is an entry with this reply
abbrev pub Steps : Entry → Reply → Room → Room → Type 0
Steps e reply a b = Answers (Call e) (Replied reply) a b

-- time was applied at an event: the room has the facts that it then finds, and its moment is not
-- past the deadline
pub record Timed (e : RoomEvent) (a c : Room) : Type 0 where
  pub site : site_in c ≡ site_in a
  pub keeps : (s : Site) (events : List RoomEvent) → BringWhole events
      → Keeps (state_at s events) a → Keeps (timed_state s (past_of s events) e) c
  pub timely : (s : Site) (events : List RoomEvent) → BringWhole events
      → Keeps (state_at s events) a → c.standing ≡ true → IsTimely (event_moment e) c.timer

-- what a command does that no row refuses

-- the stamp of an event
abbrev pub stamp_for : Room → ℕ → ℕ
stamp_for r moment = max (in_time moment) r.stamp

-- the step of the review that a command takes
abbrev pub step_in : Room → Command → Option Step
step_in r c = step_of (reviewed_by r.review) (steps_by r.review) c

-- the review behind it
abbrev pub stepped : Room → Command → Option Walk
stepped r c = walk_of (reviewed_by r.review) (option_to_list (step_in r c) ++ steps_by r.review)

-- the item of a command that opens no table and starts no game
abbrev pub item_in : Room → List ℕ → Command → Option What
item_in r member command.Sit = Some (what.Sat member)
item_in r member command.Rise = Some (what.Rose member)
item_in r member (command.Act a) = Some (what.Acted (by (seat_in r.names member) a))
item_in r member command.Pause = Some (what.Paused member)
item_in r member command.Resume = Some (what.Resumed member)
item_in r member command.Terminate =
    Some (what.Acted (by (seat_in r.names member) (action.End Terminated)))
item_in r member (command.Watch shadow) = Some (what.Watching member shadow)
item_in r member command.Leave = Some (what.Left member)
item_in r member (command.Go turn) = option_map step_item (step_in r (command.Go turn))
item_in r member (command.Hypo a) = option_map step_item (step_in r (command.Hypo a))
item_in r member command.Undo = option_map step_item (step_in r command.Undo)
item_in r member command.Close = Some what.Closed
item_in r member _ = None

-- it adds its item, or none
abbrev pub Does : Option What → Entry → Room → Room → Type 0
Does None e a b = Stamps (stamp_for a e.moment) (option_to_list (note_by e.member e.command)) a b
Does (Some w) e a b = AddsItem (stamp_for a e.moment) w
    (review_after w (game_after w a.game) (stepped a e.command)) a b

-- the text that a command notes
abbrev pub asked_text : Command → Option (List ℕ)
asked_text (command.Note order text) = Some text
asked_text _ = None

-- what is known of the room at an entry that no row refuses; it opens no table, and starts a game
-- only where one was started
pub record IsTaken (e : Entry) (r : Room) : Type 0 where
  pub look : is_look e.command ≡ false
  pub shut : opens_in r e ≡ false
  pub none : verdict_in r e ≡ None

-- the room answers an entry so, whatever it was before time was applied
abbrev pub Accepts : Entry → Reply → Room → Room → Type 0
Accepts e reply c b = (a : Room) → Timed (Call e) a c → Steps e reply a b
