-- What does a call of a hall answer, at the lists for which the hall stands after it?
use Rattle.std.specs.Prelude.{◌≡◌, ◌-◌, ◌<◌, ◌^◌, ℕ, Bool, true, false, ◌&&◌, ◌==◌, ⊤, List, [], Option, Some, None, if◌then◌else◌, length, nat_le, reverse, take}
use Rattle.hb_rules.specs.Observed.{observed}
use Rattle.hb_rules.specs.Setup.{Position}
use Rattle.hb_seen.specs.Pieces.{pieces}
use Rattle.hb_suits.specs.VariantNames.{variant_of}
use Rattle.hb_keeper.specs.declared.rows.Key.{Key}
use Rattle.hb_keeper.specs.declared.rows.GameRow.{GameRow}
use Rattle.hb_club.specs.declared.answers.Answered.{Answered}
use Rattle.hb_club.specs.declared.answers.Head.{Head}
use Rattle.hb_club.specs.declared.answers.Seen.{Seen}
use Rattle.hb_club.specs.declared.clerks.Noted.{Noted}
use Rattle.hb_club.specs.declared.clerks.Todo.{Todo}
use Rattle.hb_club.specs.declared.commands.Entry.{Entry}
use Rattle.hb_club.specs.declared.items.Item.{Item}
use Rattle.hb_club.specs.declared.lobby.LobbyEntry.{LobbyEntry}
use Rattle.hb_club.specs.declared.lobby.LobbyReply.{LobbyReply}
use Rattle.hb_club.specs.Fronts.{Fronts, Takes, TakesLobby, Waits, WaitsLobby}
use Rattle.hb_club.specs.Lobby.{lobby_answer}
use Rattle.hb_club.specs.RoomEvents.{Added, Due, Replied, RoomEvent, Site}
use Rattle.hb_club.specs.Rooms.{answer_to}
use Rattle.hb_club.specs.Seating.{players, same_viewer}
use Rattle.hb_club.specs.TableItems.{is_started}
use Rattle.hb_club.specs.Views.{LoadedView, View, blind_of, view_at}
use Rattle.hb_club.specs.WholeGames.{BringWhole}

-- the view

-- the number from which items are answered: what was seen, if table and viewer are as seen
abbrev pub seen_from : Seen → View → ℕ
seen_from seen w =
    if seen.table == w.latest && same_viewer seen.viewer w.viewer
    && nat_le seen.count (length w.items) then seen.count else 0

-- the items from a number on, the oldest first
abbrev pub items_from : ℕ → List Item → List Item
items_from from items = reverse (take (length items - from) items)

abbrev pub played_head : Bool → View → Option (List ℕ × List (List ℕ))
played_head true w = Some (w.name, players w.items)
played_head false w = None

-- the variant name and the players of the game that was loaded or started
abbrev pub game_head : Option LoadedView → View → Option (List ℕ × List (List ℕ))
game_head (Some l) w = Some (l.name, l.players)
game_head None w = played_head (is_started w.items) w

-- the head of a view; none if no table was opened
abbrev pub head_of : View → Option Head
head_of w = if w.latest == 0 then None else
    Some (record { name = w.name; options = w.options; game = game_head w.loaded w })

-- of a game is observed what a view has observed of the loaded one
abbrev pub ShowsLoaded : LoadedView → Position → Type 0
ShowsLoaded l p = observed 0 p ≡ l.seen

-- a viewer is told of a game what a view tells of the one that was started
pub record ShowsPlayed (w : View) (p : Position) : Type 0 where
  pub variant : variant_of w.name ≡ Some p.setup.variant
  pub options : p.setup.options ≡ w.options
  pub count : p.setup.players ≡ length (players w.items)
  pub told : pieces (blind_of w.viewer p.setup.players) p.setup p.past ≡ w.pieces

-- a game is the one that a view shows, or there is none and the view shows none
abbrev pub ShowsGame : View → Option LoadedView → Option Position → Type 0
ShowsGame w (Some l) (Some p) = ShowsLoaded l p
ShowsGame w None (Some p) = ShowsPlayed w p
ShowsGame w loaded None = (w.pieces ≡ []) × (loaded ≡ None)

-- an answer shows a view, with its items from a number on
pub record Shows (w : View) (from : ℕ) (a : Answered) : Type 0 where
  pub table : a.table ≡ w.latest
  pub viewer : a.viewer ≡ w.viewer
  pub head : a.head ≡ head_of w
  pub game : ShowsGame w w.loaded a.game
  pub first : a.from ≡ from
  pub items : a.items ≡ items_from from w.items

-- the answers at a list

-- the reply to the newest event, and the view of its member; the games that the clerk brought are
-- whole
pub record IsRoomAnswer (s : Site) (e : Entry) (seen : Seen) (a : Answered)
    (events : List RoomEvent) : Type 0 where
  pub reply : answer_to s events ≡ Replied a.reply
  pub shows : let w = view_at s events e.member in Shows w (seen_from seen w) a
  pub whole : BringWhole events

abbrev pub IsTodo : Site → Todo → List RoomEvent → Type 0
IsTodo s todo events = answer_to s events ≡ Due todo

abbrev pub IsNoted : Site → Noted → List RoomEvent → Type 0
IsNoted s noted events = answer_to s events ≡ Added noted

abbrev pub IsLobbyAnswer : LobbyReply → List LobbyEntry → Type 0
IsLobbyAnswer reply entries = lobby_answer entries ≡ reply

-- the run of a key is one that a keeper gives
abbrev pub HasRun : Option (Key × GameRow) → Type 0
HasRun None = ⊤
HasRun (Some save) = save.0.run < 2 ^ 63

-- the lists after a call; `stands` says for which lists a hall stands

-- a call of a room with an event of its own: the hall stands for lists at which the answer holds
pub record RoomAnswers {S : Type 0} (stands : S → Fronts → Type 0) (alone : Bool) (hall : S)
    (room : ℕ) (event : RoomEvent) (IsAnswer : List RoomEvent → Type 0)
    (before : Fronts) : Type 0 where
  pub after : Fronts
  pub stands_for : stands hall after
  pub takes : Takes alone room event before after
  pub answer : IsAnswer (after.rooms room)

-- a call of a room with no event of its own
pub record NothingOwn {S : Type 0} (stands : S → Fronts → Type 0) (alone : Bool) (hall : S)
    (room : ℕ) (before : Fronts) : Type 0 where
  pub after : Fronts
  pub stands_for : stands hall after
  pub waits : Waits alone room before after

-- a call of the lobby with an entry of its own
pub record LobbyAnswers {S : Type 0} (stands : S → Fronts → Type 0) (alone : Bool) (hall : S)
    (entry : LobbyEntry) (IsAnswer : List LobbyEntry → Type 0) (before : Fronts) : Type 0 where
  pub after : Fronts
  pub stands_for : stands hall after
  pub takes : TakesLobby alone entry before after
  pub answer : IsAnswer after.lobby

-- a call of the lobby with no entry of its own
pub record NothingOwnLobby {S : Type 0} (stands : S → Fronts → Type 0) (alone : Bool) (hall : S)
    (before : Fronts) : Type 0 where
  pub after : Fronts
  pub stands_for : stands hall after
  pub waits : WaitsLobby alone before after
