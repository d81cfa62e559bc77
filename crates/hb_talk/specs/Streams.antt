-- Which texts is a viewer written of the items of a table? They are a function of the viewer's
-- view.
use Rattle.std.specs.Prelude.{ℕ, ◌+◌, List, [], ◌∷◌, ◌++◌, Option, Some, None, if◌then◌else◌, length, map, nat_le}
use Rattle.std.specs.List.{range_with_len}
use Rattle.hb_rules.specs.declared.events.Event.{Event}
use Rattle.hb_rules.specs.declared.setups.Setup.{Setup}
use Rattle.hb_rules.specs.Observed.{Observed, observed}
use Rattle.hb_rules.specs.Setup.{Position}
use Rattle.hb_timer.specs.Banks.{bank, is_running, turn_seat}
use Rattle.hb_review.specs.declared.steps.Step.{Step}
use Rattle.hb_review.specs.Reviews.{first_of, reviewed}
use Rattle.hb_seen.specs.Pieces.{piece_events}
use Rattle.hb_wire.specs.declared.lines.Role.{Role}
use Rattle.hb_wire.specs.declared.lines.Role.TheVariants as role
use Rattle.hb_wire.specs.declared.lines.WireLine.TheVariants as wire
use Rattle.hb_wire.specs.Lines.{event_line, game_line, state_line}
use Rattle.hb_wire.specs.WireLine.{line_text}
use Rattle.hb_game_lines.specs.HandLines.{hand_line_of}
use Rattle.hb_game_lines.specs.Standing.{seen_state}
use Rattle.hb_club.specs.declared.items.Item.{Item}
use Rattle.hb_club.specs.declared.items.Viewer.{Viewer}
use Rattle.hb_club.specs.declared.items.Viewer.TheVariants as viewer
use Rattle.hb_club.specs.declared.items.What.{What}
use Rattle.hb_club.specs.declared.items.What.TheVariants as what
use Rattle.hb_club.specs.Seating.{players}
use Rattle.hb_club.specs.SeenTable.{seen_game, seen_table}
use Rattle.hb_club.specs.Table.{Table}
use Rattle.hb_club.specs.TableClock.{timer_calls, timing_of}
use Rattle.hb_club.specs.TableItems.{acts, steps}
use Rattle.hb_club.specs.TableReview.{reviewed_game}
use Rattle.hb_club.specs.Views.{LoadedView, View, blind_of}

-- the line with which a stream begins
abbrev pub role_of : Viewer → Role
role_of (viewer.Seat seat) = role.Seat seat
role_of (viewer.Watcher shadow) = role.Watcher shadow
role_of viewer.Guest = role.Guest

abbrev pub viewer_line : Viewer → ℕ → ℕ → List ℕ
viewer_line v room table = line_text (wire.Viewer (role_of v) room table)

-- how a game stands, as far as it is observed: its state, then the lines of a clock, and a line for
-- each hand, which shows of each card what the viewer together with the hand's seat can tell
abbrev pub standing_lines : Observed → List (List ℕ) → List (List ℕ)
standing_lines seen clock =
    state_line (seen_state seen) ∷ clock
    ++ map (hand_line_of seen) (range_with_len 0 seen.players)

-- the game that is played

-- the banks of all seats at a moment, and the seat whose time runs
abbrev pub clock_line : Setup → List Item → ℕ → List ℕ
clock_line g items moment = let timing = timing_of g items in
    let calls = timer_calls g items in
    let banks = map (λ seat. bank timing calls seat moment) (range_with_len 0 g.players) in
    line_text (wire.Clock (record { items = banks }) moment
    (if is_running calls then Some (turn_seat timing calls) else None))

-- the same, if the table is timed
abbrev pub clock_lines : Setup → List Item → ℕ → List (List ℕ)
clock_lines g items moment = if g.options.timed then clock_line g items moment ∷ [] else []

-- the pieces that a view tells up to these items, which are its first ones: that of the deal, and
-- one for each of their acts
abbrev pub pieces_at : View → List Item → List (List Event)
pieces_at w items = first_of (length (acts items) + 1) w.pieces

abbrev pub newest_piece : List (List Event) → List Event
newest_piece [] = []
newest_piece (piece ∷ older) = piece

-- what a view has observed up to these items of the game that is played, which has this setup
abbrev pub observed_at : View → Setup → List Item → Observed
observed_at w g items = record {
  blind = blind_of w.viewer g.players;
  variant = g.variant;
  options = g.options;
  players = g.players;
  events = piece_events (pieces_at w items);
}

-- what is told of the deal or of an act, and how the game then stands
abbrev pub game_lines : View → List Item → ℕ → Option Setup → List (List ℕ)
game_lines w items moment None = []
game_lines w items moment (Some g) =
    map event_line (newest_piece (pieces_at w items))
    ++ standing_lines (observed_at w g items) (clock_lines g items moment)

-- the clock when it is stopped, and when it runs again
abbrev pub stopped_clock : List Item → ℕ → Option Setup → List (List ℕ)
stopped_clock items moment None = []
stopped_clock items moment (Some g) = clock_line g items moment ∷ []

-- the games that all see

-- a loaded game: what its replay says of it, all its events, and its state
abbrev pub loaded_lines : Option LoadedView → List (List ℕ)
loaded_lines None = []
loaded_lines (Some l) =
    game_line l.name l.seen.options l.players ∷ map event_line l.seen.events
    ++ state_line (seen_state l.seen) ∷ []

-- how the reviewed game stands after these steps, for one who sees all cards that were drawn
abbrev pub review_lines : Option Position → List Step → List (List ℕ)
review_lines None taken = []
review_lines (Some game) taken = standing_lines (observed 0 (reviewed game taken)) []

-- the review of a table up to these items
abbrev pub table_review_lines : Table → List Item → List (List ℕ)
table_review_lines t items =
    review_lines (reviewed_game t.loaded t.game t.items) (steps items)

-- the items

-- the texts of the newest of these items, with its stamp
abbrev pub item_lines : View → What → ℕ → List Item → List (List ℕ)
item_lines w (what.Opened host) moment items =
    line_text (wire.Opened host w.name w.options) ∷ []
item_lines w (what.Sat name) moment items = line_text (wire.Sat name) ∷ []
item_lines w (what.Rose name) moment items = line_text (wire.Rose name) ∷ []
item_lines w (what.Watching name shadow) moment items =
    line_text (wire.Watching name shadow) ∷ []
item_lines w (what.Left name) moment items = line_text (wire.Left name) ∷ []
item_lines w (what.Started names) moment items =
    game_line w.name w.options (players items) ∷ game_lines w items moment (seen_game w)
item_lines w (what.Acted act) moment items = game_lines w items moment (seen_game w)
item_lines w (what.Paused by) moment items =
    line_text (wire.Paused by) ∷ stopped_clock items moment (seen_game w)
item_lines w (what.Resumed by) moment items =
    line_text (wire.Resumed by) ∷ stopped_clock items moment (seen_game w)
item_lines w (what.Saved id) moment items = line_text (wire.Saved id) ∷ []
item_lines w (what.Loaded id) moment items = line_text (wire.Loaded id) ∷ loaded_lines w.loaded
item_lines w (what.NoGame id) moment items = line_text (wire.NoGame id) ∷ []
item_lines w (what.Reviewed turn hypos action) moment items =
    line_text (wire.Review action hypos turn) ∷ table_review_lines (seen_table w) items
item_lines w what.Closed moment items = line_text wire.Closed ∷ []

-- the texts of those of these items that have this number or a greater one. Items are numbered from
-- 0, the oldest first
abbrev pub lines_from : View → ℕ → List Item → List (List ℕ)
lines_from w from [] = []
lines_from w from (i ∷ items) =
    lines_from w from items
    ++ (if nat_le from (length items) then item_lines w i.what i.moment (i ∷ items) else [])

-- the texts of a view's items from a number on
unfoldable pub item_texts : View → ℕ → List (List ℕ)
item_texts w from = lines_from w from w.items
