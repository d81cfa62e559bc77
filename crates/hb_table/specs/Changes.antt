-- How does each part of a room's work change its fields?
use Rattle.std.specs.Prelude.{◌≡◌, ℕ, ◌+◌, ◌<◌, Bool, true, false, not, ◌&&◌, ◌||◌, ◌==◌, List, [], ◌∷◌, ◌++◌, Option, Some, None, if◌then◌else◌}
use Rattle.std.specs.Option.{option_or}
use Rattle.std.specs.Vec.{vec_len, vec_capacity}
use Rattle.hb_rules.specs.declared.acts.Action.TheVariants as action
use Rattle.hb_rules.specs.declared.acts.EndHow.TheVariants.{Timeout}
use Rattle.hb_rules.specs.declared.acts.Options.{Options}
use Rattle.hb_rules.specs.Setup.{Position, by}
use Rattle.hb_timer.specs.Timer.{History}
use Rattle.hb_review.specs.ReviewModel.{Walk}
use Rattle.hb_club.specs.declared.commands.Entry.{Entry}
use Rattle.hb_club.specs.declared.items.What.{What}
use Rattle.hb_club.specs.declared.items.What.TheVariants as what
use Rattle.hb_club.specs.declared.replies.Reply.{Reply}
use Rattle.hb_club.specs.ClerkCalls.{SetNote}
use Rattle.hb_club.specs.CommandKinds.{asked_id}
use Rattle.hb_club.specs.EndedReplays.{Finished}
use Rattle.hb_club.specs.OwnEntries.{is_done}
use Rattle.hb_club.specs.Seating.{seated_after, watchers_after}
use Rattle.hb_club.specs.TableItems.{ends_load, is_closed, is_saved}
use Rattle.hb_refusals.specs.declared.kept_replies.KeptReplies.{KeptReplies}
use Rattle.hb_refusals.specs.KeptReplies.{HasSpare, KeepsFirst, SameReplies, count_at, is_first, kept_at}
use Rattle.hb_playing.specs.declared.clocks.Lapse.{Lapse}
use Rattle.hb_playing.specs.RoomClocks.{due_by, timer_after}
use Rattle.hb_playing.specs.Games.{game_after}
use Rattle.hb_playing.specs.RoomReviews.{ended_game, walk_of}
use Rattle.hb_table.specs.declared.room.Room.{Room}
use Rattle.hb_table.specs.Keeps.{site_in}

-- the same facts in another room: how much memory it has, and in which order a map has its entries,
-- is no fact
pub record SameFacts (a b : Room) : Type 0 where
  pub site : site_in b ≡ site_in a
  pub latest : b.latest ≡ a.latest
  pub name : b.name ≡ a.name
  pub options : b.options ≡ a.options
  pub items : b.items.items ≡ a.items.items
  pub host : b.host ≡ a.host
  pub standing : b.standing ≡ a.standing
  pub seats : b.seats.items ≡ a.seats.items
  pub watchers : b.watchers.items ≡ a.watchers.items
  pub kept : SameReplies a.kept b.kept
  pub load : b.load ≡ a.load
  pub stamp : b.stamp ≡ a.stamp
  pub names : b.names ≡ a.names
  pub game : b.game ≡ a.game
  pub timer : b.timer ≡ a.timer
  pub saved : b.saved ≡ a.saved
  pub notes : b.notes.notes ≡ a.notes.notes
  pub loaded : b.loaded ≡ a.loaded
  pub review : b.review ≡ a.review

-- room

-- there is room for one item more
abbrev pub HasItem : Room → Type 0
HasItem r = vec_len r.items < vec_capacity r.items

-- for two
abbrev pub HasTwoItems : Room → Type 0
HasTwoItems r = vec_len r.items + 1 < vec_capacity r.items

-- for one item, seat, watcher, kept reply and note more
pub record HasRoom (r : Room) : Type 0 where
  pub items : HasItem r
  pub seats : vec_len r.seats < vec_capacity r.seats
  pub watchers : vec_len r.watchers < vec_capacity r.watchers
  pub kept : HasSpare r.kept
  pub notes : 0 < r.notes.spare

-- an item

-- the review after an item, by the game after it: an act may end the game. A step of the review was
-- taken before
abbrev pub review_after : What → Option Position → Option Walk → Option Walk
review_after (what.Acted act) game review = walk_of (ended_game game) []
review_after _ game review = review

-- one item more, with what it says of each fact, and this review
pub record AddsItem (moment : ℕ) (w : What) (walk : Option Walk) (a b : Room) : Type 0 where
  pub site : site_in b ≡ site_in a
  pub latest : b.latest ≡ a.latest
  pub name : b.name ≡ a.name
  pub options : b.options ≡ a.options
  pub items : b.items.items ≡ a.items.items ++ record { moment = moment; what = w } ∷ []
  pub host : b.host ≡ a.host
  pub standing : b.standing ≡ (a.standing && not (is_closed w))
  pub seats : b.seats.items ≡ seated_after w a.seats.items
  pub watchers : b.watchers.items ≡ watchers_after w a.watchers.items
  pub kept : b.kept ≡ a.kept
  pub load : b.load ≡ (if ends_load w then None else a.load)
  pub stamp : b.stamp ≡ moment
  pub names : b.names ≡ a.names
  pub game : b.game ≡ game_after w a.game
  pub timer : b.timer ≡ timer_after w moment (game_after w a.game) a.timer
  pub saved : b.saved ≡ (is_saved w || a.saved)
  pub notes : b.notes ≡ a.notes
  pub loaded : b.loaded ≡ a.loaded
  pub review : b.review ≡ walk

-- time

-- the time that is used up, if the table is open
abbrev pub due_in : Room → ℕ → Option Lapse
due_in r moment = if r.standing then due_by r.timer moment else None

abbrev pub timed_out : ℕ → What
timed_out seat = what.Acted (by seat (action.End Timeout))

-- time is applied
abbrev pub TimesOut : Option Lapse → Room → Room → Type 0
TimesOut None a b = b ≡ a
TimesOut (Some lapse) a b = let w = timed_out lapse.seat in
    AddsItem lapse.moment w (review_after w (game_after w a.game) a.review) a b

-- an entry

-- the command with its reply is the first that is kept for its number
abbrev pub keeps_in : Room → Entry → Reply → Bool
keeps_in a e reply = e.table == a.latest
    && is_first a.kept e.member e.number (record { command = e.command; reply = reply })

abbrev pub KeepsWhen : Bool → Entry → Reply → KeptReplies → KeptReplies → Type 0
KeepsWhen true e reply a b =
    KeepsFirst e.member e.number (record { command = e.command; reply = reply }) a b
KeepsWhen false e reply a b = SameReplies a b

-- an entry is kept with its reply if it is the first of its number, and a load that is done is
-- then pending
pub record KeepsEntry (e : Entry) (reply : Reply) (a b : Room) : Type 0 where
  pub site : site_in b ≡ site_in a
  pub latest : b.latest ≡ a.latest
  pub name : b.name ≡ a.name
  pub options : b.options ≡ a.options
  pub items : b.items.items ≡ a.items.items
  pub host : b.host ≡ a.host
  pub standing : b.standing ≡ a.standing
  pub seats : b.seats.items ≡ a.seats.items
  pub watchers : b.watchers.items ≡ a.watchers.items
  pub kept : KeepsWhen (e.table == a.latest) e reply a.kept b.kept
  pub load : b.load ≡ (if keeps_in a e reply && is_done reply
      then option_or (asked_id e.command) a.load else a.load)
  pub stamp : b.stamp ≡ a.stamp
  pub names : b.names ≡ a.names
  pub game : b.game ≡ a.game
  pub timer : b.timer ≡ a.timer
  pub saved : b.saved ≡ a.saved
  pub notes : b.notes.notes ≡ a.notes.notes
  pub loaded : b.loaded ≡ a.loaded
  pub review : b.review ≡ a.review

-- an accepted command adds no item: it has a stamp, and a note is set if it is one
pub record Stamps (moment : ℕ) (notes : List SetNote) (a b : Room) : Type 0 where
  pub site : site_in b ≡ site_in a
  pub latest : b.latest ≡ a.latest
  pub name : b.name ≡ a.name
  pub options : b.options ≡ a.options
  pub items : b.items ≡ a.items
  pub host : b.host ≡ a.host
  pub standing : b.standing ≡ a.standing
  pub seats : b.seats ≡ a.seats
  pub watchers : b.watchers ≡ a.watchers
  pub kept : b.kept ≡ a.kept
  pub load : b.load ≡ a.load
  pub stamp : b.stamp ≡ moment
  pub names : b.names ≡ a.names
  pub game : b.game ≡ a.game
  pub timer : b.timer ≡ a.timer
  pub saved : b.saved ≡ a.saved
  pub notes_are : b.notes.notes ≡ notes ++ a.notes.notes
  pub loaded : b.loaded ≡ a.loaded
  pub review : b.review ≡ a.review

-- a game starts, if one can be dealt
pub record StartsGame (moment : ℕ) (seats : List (Option (List ℕ))) (game : Option Position)
    (timer : Option History) (a b : Room) : Type 0 where
  pub site : site_in b ≡ site_in a
  pub latest : b.latest ≡ a.latest
  pub name : b.name ≡ a.name
  pub options : b.options ≡ a.options
  pub items : b.items.items
      ≡ a.items.items ++ record { moment = moment; what = what.Started seats } ∷ []
  pub host : b.host ≡ a.host
  pub standing : b.standing ≡ a.standing
  pub same_seats : b.seats.items ≡ a.seats.items
  pub watchers : b.watchers.items ≡ a.watchers.items
  pub kept : b.kept ≡ a.kept
  pub load : b.load ≡ a.load
  pub stamp : b.stamp ≡ moment
  pub names : b.names ≡ Some seats
  pub game_is : b.game ≡ game
  pub timer_is : b.timer ≡ timer
  pub saved : b.saved ≡ a.saved
  pub notes : b.notes ≡ a.notes
  pub loaded : b.loaded ≡ a.loaded
  pub review : b.review ≡ a.review

-- a new table, with its first item alone
pub record OpensTable (moment serial : ℕ) (host : List ℕ) (opened : List ℕ × Options)
    (a b : Room) : Type 0 where
  pub site : site_in b ≡ site_in a
  pub latest : b.latest ≡ serial
  pub name : b.name ≡ opened.0
  pub options : b.options ≡ opened.1
  pub items : b.items.items ≡ record { moment = moment; what = what.Opened host } ∷ []
  pub host_is : b.host ≡ Some host
  pub standing : b.standing ≡ true
  pub seats : b.seats.items ≡ []
  pub watchers : b.watchers.items ≡ []
  pub replies : (m : List ℕ) (n : ℕ) → kept_at b.kept m n ≡ None
  pub counts : (m : List ℕ) → count_at b.kept m ≡ 0
  pub load : b.load ≡ None
  pub stamp : b.stamp ≡ moment
  pub names : b.names ≡ None
  pub game : b.game ≡ None
  pub timer : b.timer ≡ None
  pub saved : b.saved ≡ false
  pub notes : b.notes.notes ≡ []
  pub loaded : b.loaded ≡ None
  pub review : b.review ≡ None

-- the game for which the table asked
pub record LoadsGame (moment id : ℕ) (game : Finished) (a b : Room) : Type 0 where
  pub site : site_in b ≡ site_in a
  pub latest : b.latest ≡ a.latest
  pub name : b.name ≡ a.name
  pub options : b.options ≡ a.options
  pub items : b.items.items
      ≡ a.items.items ++ record { moment = moment; what = what.Loaded id } ∷ []
  pub host : b.host ≡ a.host
  pub standing : b.standing ≡ a.standing
  pub seats : b.seats.items ≡ a.seats.items
  pub watchers : b.watchers.items ≡ a.watchers.items
  pub kept : b.kept ≡ a.kept
  pub load : b.load ≡ None
  pub stamp : b.stamp ≡ moment
  pub names : b.names ≡ a.names
  pub same_game : b.game ≡ a.game
  pub timer : b.timer ≡ a.timer
  pub saved : b.saved ≡ a.saved
  pub notes : b.notes ≡ a.notes
  pub loaded : b.loaded ≡ Some game
  pub review : b.review ≡ walk_of (Some game.game) []
