-- Which item does an accepted command add, and with which stamp?
use Rattle.std.specs.Prelude.{ℕ, ◌-◌, ◌==◌, List, [], ◌∷◌, ◌++◌, Option, Some, None, if◌then◌else◌, length, map, max, option_map, replicate, unwrap_or}
use Rattle.hb_rules.specs.declared.acts.Action.TheVariants as action
use Rattle.hb_rules.specs.declared.acts.EndHow.TheVariants.{Terminated}
use Rattle.hb_rules.specs.declared.limits.TheConstants.{MOST_PLAYERS}
use Rattle.hb_rules.specs.Setup.{by}
use Rattle.hb_review.specs.declared.steps.Step.{Step}
use Rattle.hb_club.specs.declared.commands.Command.{Command}
use Rattle.hb_club.specs.declared.commands.Command.TheVariants as command
use Rattle.hb_club.specs.declared.commands.Entry.{Entry}
use Rattle.hb_club.specs.declared.items.Item.{Item}
use Rattle.hb_club.specs.declared.items.What.{What}
use Rattle.hb_club.specs.declared.items.What.TheVariants as what
use Rattle.hb_club.specs.RoomEvents.{Happening, in_time}
use Rattle.hb_club.specs.Seating.{seated_names}
use Rattle.hb_club.specs.Table.{Table, seat_of}
use Rattle.hb_club.specs.TableItems.{has, is_opened, steps}
use Rattle.hb_club.specs.TableReview.{reviewed_game, step_of}

-- names by seat, with no name at the seats behind them
abbrev pub by_seat : List (List ℕ) → List (Option (List ℕ))
by_seat names =
    map (λ (name : List ℕ). Some name) names ++ replicate (MOST_PLAYERS - length names) None

abbrev pub step_item : Step → What
step_item step = what.Reviewed step.turn step.hypos step.action

-- the step of the table's review
abbrev pub review_item : Table → Command → Option What
review_item t c =
    option_map step_item (step_of (reviewed_game t.loaded t.game t.items) (steps t.items) c)

-- what a command adds: each adds an item, but a note, a load and a look
abbrev pub item_of : Table → List ℕ → Command → Option What
item_of t member (command.Open name options) = Some (what.Opened member)
item_of t member command.Sit = Some (what.Sat member)
item_of t member command.Rise = Some (what.Rose member)
item_of t member command.Start = Some (what.Started (by_seat (seated_names t.items)))
item_of t member (command.Act a) = Some (what.Acted (by (seat_of t member) a))
item_of t member (command.Note order text) = None
item_of t member command.Pause = Some (what.Paused member)
item_of t member command.Resume = Some (what.Resumed member)
item_of t member command.Terminate =
    Some (what.Acted (by (seat_of t member) (action.End Terminated)))
item_of t member (command.Watch shadow) = Some (what.Watching member shadow)
item_of t member command.Leave = Some (what.Left member)
item_of t member (command.Load id) = None
item_of t member (command.Go turn) = review_item t (command.Go turn)
item_of t member (command.Hypo a) = review_item t (command.Hypo a)
item_of t member command.Undo = review_item t command.Undo
item_of t member command.Close = Some what.Closed
item_of t member command.Look = None

-- the item with a stamp, if there is one
abbrev pub stamped_item : ℕ → Option What → List Item
stamped_item moment None = []
stamped_item moment (Some w) = record { moment = moment; what = w } ∷ []

-- the greatest stamp of these items
abbrev pub greatest_stamp : List Item → ℕ
greatest_stamp [] = 0
greatest_stamp (i ∷ items) = max i.moment (greatest_stamp items)

-- the greatest stamp of an accepted command of the latest table
abbrev pub command_stamp : List Happening → ℕ
command_stamp [] = 0
command_stamp (h ∷ past) =
    if has is_opened h.added then unwrap_or h.stamp 0
    else max (unwrap_or h.stamp 0) (command_stamp past)

-- a stamp at the latest table: the moment, but not below a stamp of that table
abbrev pub stamp_at : Table → List Happening → ℕ → ℕ
stamp_at t past moment = max moment (max (greatest_stamp t.items) (command_stamp past))

-- the stamp of an accepted command: what opens a table has no stamp before it
abbrev pub entry_stamp : Table → List Happening → Entry → ℕ
entry_stamp t past e =
    if e.table == t.latest then stamp_at t past (in_time e.moment) else in_time e.moment
