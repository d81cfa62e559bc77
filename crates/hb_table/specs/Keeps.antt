-- For which lists of events does a room stand? Each of its fields is what the list says.
use Rattle.std.specs.Prelude.{◌≡◌, ℕ, ◌≤◌, List, Option, Some, max, reverse}
use Rattle.std.specs.Option.{option_to_list}
use Rattle.hb_rules.specs.Setup.{Position}
use Rattle.hb_timer.specs.declared.timing.TheConstants.{MOMENT_LIMIT}
use Rattle.hb_timer.specs.Banks.{deadline, is_stopped}
use Rattle.hb_timer.specs.Timer.{History}
use Rattle.hb_review.specs.ReviewModel.{Walk}
use Rattle.hb_club.specs.NewItems.{greatest_stamp}
use Rattle.hb_club.specs.RoomEvents.{RoomEvent, Site}
use Rattle.hb_club.specs.Seating.{seated_names, watchers}
use Rattle.hb_club.specs.Table.{Table}
use Rattle.hb_club.specs.TableItems.{all_of, has, host_in, is_saved, is_standing, names_in, one_of, steps}
use Rattle.hb_club.specs.TableReview.{reviewed_game}
use Rattle.hb_club.specs.WholeGames.{BringWhole}
use Rattle.hb_refusals.specs.ReplyLaws.{StandsForOwn}
use Rattle.hb_playing.specs.Games.{ended_by}
use Rattle.hb_playing.specs.RoomReviews.{walk_of}
use Rattle.hb_table.specs.declared.room.Room.{Room}
use Rattle.hb_table.specs.State.{State, history_in, host_load, position_in, state_at}

-- what the room was made with
abbrev pub site_in : Room → Site
site_in r = record { room = r.room; seed = r.shoe.seed; written = r.shoe.written; run = r.run }

-- the review of a table: the game that is reviewed, and the steps that its items are
abbrev pub walk_in : Table → Option Walk
walk_in t = walk_of (reviewed_game t.loaded t.game t.items) (steps t.items)

-- no stamp is past the deadline of a timer that runs
abbrev pub IsTimely : ℕ → Option History → Type 0
IsTimely moment timer = (t : History) → timer ≡ Some t → (end : ℕ)
    → deadline t.timing t.calls ≡ Some end → moment ≤ end

-- a timer stands still for good exactly if the game has ended
abbrev pub HaltsAtEnd : Option Position → Option History → Type 0
HaltsAtEnd game timer = (t : History) → timer ≡ Some t → is_stopped t.calls ≡ ended_by game

-- the room has the facts of a state
pub record Keeps (x : State) (r : Room) : Type 0 where
  pub latest : r.latest ≡ x.table.latest
  pub name : r.name ≡ x.table.name
  pub options : r.options ≡ x.table.options
  pub items : r.items.items ≡ reverse x.table.items
  pub hosts : option_to_list r.host ≡ all_of host_in x.table.items
  pub standing : r.standing ≡ is_standing x.table.items
  pub seats : r.seats.items ≡ seated_names x.table.items
  pub watchers : r.watchers.items ≡ watchers x.table.items
  pub kept : (member : List ℕ) → StandsForOwn member r.kept (x.own member)
  pub load : r.load ≡ host_load x
  pub stamp : r.stamp ≡ max (greatest_stamp x.table.items) x.stamp
  pub names : r.names ≡ one_of names_in x.table.items
  pub game : r.game ≡ position_in x.table
  pub timer : r.timer ≡ history_in x.table
  pub saved : r.saved ≡ has is_saved x.table.items
  pub notes : r.notes.notes ≡ x.notes
  pub loaded : r.loaded ≡ x.table.loaded
  pub review : r.review ≡ walk_in x.table
  -- what is so at each list of events
  pub halts : HaltsAtEnd r.game r.timer
  pub on_time : IsTimely r.stamp r.timer
  pub in_range : r.stamp ≤ MOMENT_LIMIT

-- the room stands for a list of events, in which the games that the clerk brought are whole
pub record StandsFor (r : Room) (events : List RoomEvent) : Type 0 where
  pub keeps : Keeps (state_at (site_in r) events) r
  pub whole : BringWhole events
