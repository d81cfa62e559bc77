-- What does a view have of the game that is played at its table, and of the loaded one?
use Rattle.std.specs.Prelude.{◌≡◌, ◌≤◌, ℕ, ◌+◌, true, is_some, IsSome, IsTrue, ⊤, List, ◌++◌, Option, Some, None, length}
use Rattle.hb_rules.specs.declared.acts.Act.{Act}
use Rattle.hb_rules.specs.declared.acts.Action.{Action}
use Rattle.hb_rules.specs.declared.limits.TheConstants.{FEWEST_PLAYERS}
use Rattle.hb_rules.specs.declared.setups.Setup.{Setup}
use Rattle.hb_rules.specs.Events.{observation}
use Rattle.hb_rules.specs.Legality.{rule}
use Rattle.hb_rules.specs.Result.{ended}
use Rattle.hb_rules.specs.Setup.{Position, by}
use Rattle.hb_review.specs.Reviews.{first_of}
use Rattle.hb_seen.specs.Pieces.{piece_events, pieces}
use Rattle.hb_seen.specs.SeenSetup.{HasCards, can_tell}
use Rattle.hb_seen.specs.StandsAlike.{StandsAlike}
use Rattle.hb_club.specs.declared.items.Item.{Item}
use Rattle.hb_club.specs.declared.items.Viewer.{Viewer}
use Rattle.hb_club.specs.HallAnswers.{ShowsPlayed}
use Rattle.hb_club.specs.RoomEvents.{Site}
use Rattle.hb_club.specs.Seating.{players}
use Rattle.hb_club.specs.SeenTable.{seen_game, seen_table}
use Rattle.hb_club.specs.Table.{Table}
use Rattle.hb_club.specs.TableClock.{timer_calls}
use Rattle.hb_club.specs.TableInvariant.{IsTable}
use Rattle.hb_club.specs.TableItems.{acts, is_started}
use Rattle.hb_club.specs.TableReview.{reviewed_game}
use Rattle.hb_club.specs.TimeFirst.{timeout}
use Rattle.hb_club.specs.Views.{View, blind_of, view_as}

-- a blind set sees `h` of the game `g`, at the items of its table: the game stands in both alike,
-- at these items and at each earlier number of them
pub record GameIsSeen (blind : ℕ) (items : List Item) (h g : Setup) : Type 0 where
  pub started : is_started items ≡ true
  pub variant : h.variant ≡ g.variant
  pub options : h.options ≡ g.options
  pub count : h.players ≡ g.players
  pub size : length h.deck.items ≡ length g.deck.items
  pub stands : (more past : List Act) → more ++ past ≡ acts items → StandsAlike h g past
  pub clock : (more before : List Item) → more ++ before ≡ items
      → timer_calls h before ≡ timer_calls g before
  pub rules : (who : ℕ) (action : Action) → IsTrue (can_tell blind who action)
      → rule h (acts items) (by who action) ≡ rule g (acts items) (by who action)
  pub over : (more past : List Act) → more ++ past ≡ acts items → IsSome (ended g past) → h ≡ g

-- the same, if a game was started; else none is seen
abbrev pub IsSeenGame : ℕ → List Item → Option Setup → Option Setup → Type 0
IsSeenGame blind items (Some h) (Some g) = GameIsSeen blind items h g
IsSeenGame blind items None None = ⊤
IsSeenGame blind items (Some h) None = ⊥
IsSeenGame blind items None (Some g) = ⊥

-- a view has the game that is played
abbrev pub PlayedGamesAreSeen : Type 0
PlayedGamesAreSeen = (s : Site) (t : Table) (v : Viewer) → IsTable s t
    → IsSeenGame (blind_of v (length (players t.items))) t.items (seen_game (view_as v t)) t.game

-- and so it has the game of an answer that shows it
abbrev pub AnsweredGamesAreSeen : Type 0
AnsweredGamesAreSeen = (w : View) (p : Position) → ShowsPlayed w p → is_started w.items ≡ true
    → acts w.items ≡ p.past → HasCards p.setup → FEWEST_PLAYERS ≤ p.setup.players
    → IsSeenGame (blind_of w.viewer p.setup.players) w.items (seen_game w) (Some p.setup)

-- the acts of such a game are those of the items
abbrev pub AnsweredActsAreSeen : Type 0
AnsweredActsAreSeen = (s : Site) (t : Table) (v : Viewer) (p : Position) → IsTable s t
    → ShowsPlayed (view_as v t) p → is_some t.game ≡ true → acts t.items ≡ p.past

-- what a view tells of its first acts is what such a game tells of them
abbrev pub AnsweredPiecesAreSeen : Type 0
AnsweredPiecesAreSeen = (w : View) (p : Position) (more past : List Act) → ShowsPlayed w p
    → more ++ past ≡ p.past
    → first_of (length past + 1) w.pieces
    ≡ pieces (blind_of w.viewer p.setup.players) p.setup past

-- what a view tells up to an item is the observation of the acts up to it
abbrev pub PiecesAreObserved : Type 0
PiecesAreObserved = (t : Table) (v : Viewer) (g : Setup) (more before : List Item)
    → t.game ≡ Some g → more ++ before ≡ t.items
    → piece_events (first_of (length (acts before) + 1) (view_as v t).pieces)
    ≡ observation (blind_of v g.players) g (acts before)

-- the game that is reviewed is seen, at these items and at each earlier number of them
abbrev pub ReviewedGamesAreSeen : Type 0
ReviewedGamesAreSeen = (s : Site) (t : Table) (v : Viewer) (more before : List Item) → IsTable s t
    → more ++ before ≡ t.items
    → reviewed_game (seen_table (view_as v t)).loaded (seen_game (view_as v t)) before
    ≡ reviewed_game t.loaded t.game before

-- a view has the loaded game whole
abbrev pub LoadedGamesAreSeen : Type 0
LoadedGamesAreSeen = (s : Site) (t : Table) (v : Viewer) → IsTable s t
    → (seen_table (view_as v t)).loaded ≡ t.loaded

-- what time adds is seen
abbrev pub TimeIsSeen : Type 0
TimeIsSeen = (s : Site) (t : Table) (v : Viewer) (moment : ℕ) → IsTable s t
    → timeout (seen_table (view_as v t)) (seen_game (view_as v t)) moment
    ≡ timeout t t.game moment
