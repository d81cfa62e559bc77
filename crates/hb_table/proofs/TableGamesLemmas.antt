-- How do the game, the clock and the review of a table move by one more item, and what is read of them?
use Rattle.std.proofs.Common.{◌≡◌, ℕ, Bool, true, false, List, [], ◌∷◌, refl, ap, sym, ◌∙◌, Some, None, Option}
use Rattle.std.specs.Prelude.{is_some, option_map, if◌then◌else◌}
use Rattle.hb_rules.specs.declared.acts.Act.{Act}
use Rattle.hb_rules.specs.declared.acts.Action.{Action}
use Rattle.hb_rules.specs.declared.acts.Options.{Options}
use Rattle.hb_rules.specs.declared.setups.Setup.{Setup}
use Rattle.hb_rules.specs.Positions.{after, ended}
use Rattle.hb_rules.specs.Setup.{Position}
use Rattle.hb_timer.specs.declared.timing.TimerCall.{TimerCall}
use Rattle.hb_timer.specs.declared.timing.TimerCall.TheVariants.{TurnEnds, Pauses, Resumes, Stops}
use Rattle.hb_timer.specs.Banks.{deadline, turn_seat}
use Rattle.hb_timer.specs.Timer.{History}
use Rattle.hb_club.specs.declared.items.Item.{Item}
use Rattle.hb_club.specs.declared.items.What.{What}
use Rattle.hb_club.specs.declared.items.What.TheVariants as what
use Rattle.hb_club.specs.ClerkCalls.{is_due}
use Rattle.hb_club.specs.EndedReplays.{Finished}
use Rattle.hb_club.specs.RoomEvents.{Site}
use Rattle.hb_club.specs.Table.{Table, deck_size, has_ended, is_paused, player_count}
use Rattle.hb_club.specs.TableClock.{calls_after, timer_calls, timing_of}
use Rattle.hb_club.specs.TableItems.{act_in, acts, is_saved, is_standing, names_in}
use Rattle.hb_club.specs.TableRefusals.{act_rule}
use Rattle.hb_club.specs.TableReview.{game_when, played_game, reviewed_game}
use Rattle.hb_club.specs.TimeFirst.{timeout, timeout_at, with_items}
use Rattle.hb_playing.specs.Games.{cards_by, ended_by, players_by, rule_by}
use Rattle.hb_playing.specs.RoomClocks.{paused_by}
use Rattle.hb_table.specs.State.{history_in, position_in, reviewed_by}
use Rattle.hb_table.specs.StateMoves.{item_at, loaded_table, new_table, started_table}
use Rattle.hb_table.proofs.TableMovesLemmas.{acts-stay}

-- what refusals read, by the game and the clock

-- that it has ended
pub has_ended-by : (t : Table) → has_ended t ≡ ended_by (position_in t)
has_ended-by t = pick t.game refl
  where
    pick : (g : Option Setup) → t.game ≡ g → has_ended t ≡ ended_by (position_in t)
    pick None is = rw is refl
    pick (Some g) is = rw is refl

-- that the clock stands still, and can run again
pub is_paused-by : (t : Table) → is_paused t ≡ paused_by (history_in t)
is_paused-by t = pick t.options.timed t.game refl refl
  where
    pick : (b : Bool) (g : Option Setup) → t.options.timed ≡ b → t.game ≡ g → is_paused t ≡ paused_by (history_in t)
    pick false g timed is = rw timed refl
    pick true None timed is = rw (timed, is) refl
    pick true (Some g) timed is = rw (timed, is) refl

-- the rule that an action breaks
pub act_rule-by : (t : Table) (seat : ℕ) (a : Option Action) → act_rule t.game (acts t.items) seat a ≡ rule_by (position_in t) seat a
act_rule-by t seat a = pick t.game a refl
  where
    pick : (g : Option Setup) (o : Option Action) → t.game ≡ g → act_rule t.game (acts t.items) seat o ≡ rule_by (position_in t) seat o
    pick None o is = rw is refl
    pick (Some g) None is = rw is refl
    pick (Some g) (Some b) is = rw is refl

-- the number of its cards
pub deck_size-by : (t : Table) → deck_size t.game ≡ cards_by (position_in t)
deck_size-by t = pick t.game refl
  where
    pick : (g : Option Setup) → t.game ≡ g → deck_size t.game ≡ cards_by (position_in t)
    pick None is = rw is refl
    pick (Some g) is = rw is refl

-- and of its players
pub player_count-by : (t : Table) → player_count t.game ≡ players_by (position_in t)
player_count-by t = pick t.game refl
  where
    pick : (g : Option Setup) → t.game ≡ g → player_count t.game ≡ players_by (position_in t)
    pick None is = rw is refl
    pick (Some g) is = rw is refl

-- the game that is reviewed, by the loaded and the started one
pub reviewed_game-by : (t : Table) → reviewed_game t.loaded t.game t.items ≡ reviewed_by t.loaded (position_in t)
reviewed_game-by t = pick t.loaded t.game
  where
    pick : (l : Option Finished) (g : Option Setup) → reviewed_game l g t.items
        ≡ reviewed_by l (option_map (λ (h : Setup). played_game h t.items) g)
    pick (Some loaded) g = refl
    pick None (Some g) = refl
    pick None None = refl

-- the timeout that is due, by the clock
abbrev pub late_by : Option History → ℕ → List Item
late_by None moment = []
late_by (Some t) moment = timeout_at (turn_seat t.timing t.calls) moment (deadline t.timing t.calls)

-- what time adds, by the clock
pub timeout-by : (t : Table) (moment : ℕ)
    → timeout t t.game moment ≡ (if is_standing t.items then late_by (history_in t) moment else [])
timeout-by t moment = pick (is_standing t.items) t.options.timed t.game refl refl refl
  where
    pick : (b timed : Bool) (g : Option Setup) → is_standing t.items ≡ b → t.options.timed ≡ timed → t.game ≡ g
        → timeout t t.game moment ≡ (if is_standing t.items then late_by (history_in t) moment else [])
    pick false timed None stands times is = rw (is, stands) refl
    pick false timed (Some g) stands times is = rw (is, stands) refl
    pick true false None stands times is = rw (is, stands, times) refl
    pick true false (Some g) stands times is = rw (is, stands, times) refl
    pick true true None stands times is = rw (is, stands, times) refl
    pick true true (Some g) stands times is = rw (is, stands, times) refl

-- whether a game is to be kept stays, where an item is no act and saves nothing
pub is_due-stays : (t : Table) (i : Item) → act_in i.what ≡ None → is_saved i.what ≡ false → is_due (with_items (i ∷ []) t) ≡ is_due t
is_due-stays t i none unsaved = pick t.game refl
  where
    pick : (g : Option Setup) → t.game ≡ g → is_due (with_items (i ∷ []) t) ≡ is_due t
    pick None is = rw is refl
    pick (Some g) is = rw (is, unsaved, none) refl

-- how they move by one item

-- one act more
abbrev pub with_act : Act → Option Position → Option Position
with_act act None = None
with_act act (Some p) = Some (after p act)

-- one call more
abbrev pub with_call : TimerCall → Option History → Option History
with_call call None = None
with_call call (Some t) = Some (record { timing = t.timing; calls = call ∷ t.calls })

-- the call of an act that led to this game: it ends the turn, or stops time for good if it ended the game
abbrev pub call_of_act : Option Position → ℕ → TimerCall
call_of_act None moment = TurnEnds moment
call_of_act (Some p) moment = if is_some (ended p) then Stops moment else TurnEnds moment

-- an item that is no act leaves the game
pub position_in-stays : (t : Table) (i : Item) → act_in i.what ≡ None → position_in (with_items (i ∷ []) t) ≡ position_in t
position_in-stays t i none =
    ap (λ (past : List Act). option_map (λ (g : Setup). record { setup = g; past = past }) t.game) (acts-stay i t.items none)

-- an act is one act more
pub position_in-acted : (t : Table) (moment : ℕ) (act : Act)
    → position_in (with_items (item_at moment (what.Acted act) ∷ []) t) ≡ with_act act (position_in t)
position_in-acted t moment act = pick t.game refl
  where
    pick : (g : Option Setup) → t.game ≡ g
        → position_in (with_items (item_at moment (what.Acted act) ∷ []) t) ≡ with_act act (position_in t)
    pick None is = rw is refl
    pick (Some g) is = rw is refl

-- and its call one call more
pub history_in-acted : (t : Table) (moment : ℕ) (act : Act) → history_in (with_items (item_at moment (what.Acted act) ∷ []) t)
    ≡ with_call (call_of_act (with_act act (position_in t)) moment) (history_in t)
history_in-acted t moment act = pick t.options.timed t.game refl refl
  where
    pick : (b : Bool) (g : Option Setup) → t.options.timed ≡ b → t.game ≡ g
        → history_in (with_items (item_at moment (what.Acted act) ∷ []) t)
        ≡ with_call (call_of_act (with_act act (position_in t)) moment) (history_in t)
    pick false g timed is = rw timed refl
    pick true None timed is = rw (timed, is) refl
    pick true (Some g) timed is = rw (timed, is) refl

-- so is a pause
pub history_in-paused : (t : Table) (moment : ℕ) (name : List ℕ)
    → history_in (with_items (item_at moment (what.Paused name) ∷ []) t) ≡ with_call (Pauses moment) (history_in t)
history_in-paused t moment name = pick t.options.timed t.game refl refl
  where
    pick : (b : Bool) (g : Option Setup) → t.options.timed ≡ b → t.game ≡ g
        → history_in (with_items (item_at moment (what.Paused name) ∷ []) t) ≡ with_call (Pauses moment) (history_in t)
    pick false g timed is = rw timed refl
    pick true None timed is = rw (timed, is) refl
    pick true (Some g) timed is = rw (timed, is) refl

-- and its end
pub history_in-resumed : (t : Table) (moment : ℕ) (name : List ℕ)
    → history_in (with_items (item_at moment (what.Resumed name) ∷ []) t) ≡ with_call (Resumes moment) (history_in t)
history_in-resumed t moment name = pick t.options.timed t.game refl refl
  where
    pick : (b : Bool) (g : Option Setup) → t.options.timed ≡ b → t.game ≡ g
        → history_in (with_items (item_at moment (what.Resumed name) ∷ []) t) ≡ with_call (Resumes moment) (history_in t)
    pick false g timed is = rw timed refl
    pick true None timed is = rw (timed, is) refl
    pick true (Some g) timed is = rw (timed, is) refl

timing_of-stays : (g : Setup) (i : Item) (items : List Item) → names_in i.what ≡ None → timing_of g (i ∷ items) ≡ timing_of g items
timing_of-stays g i items none = rw none refl

-- what is no act, no pause, no resumption and no start leaves the clock
pub record IsUntimed (w : What) : Type 0 where
  pub names : names_in w ≡ None
  pub calls : (g : Setup) (past : List Act) (moment : ℕ) (before : List TimerCall) → calls_after g past moment w before ≡ before

-- as each such item does
pub history_in-stays : (t : Table) (i : Item) → IsUntimed i.what → history_in (with_items (i ∷ []) t) ≡ history_in t
history_in-stays t i untimed = pick t.options.timed t.game refl refl
  where
    pick : (b : Bool) (g : Option Setup) → t.options.timed ≡ b → t.game ≡ g → history_in (with_items (i ∷ []) t) ≡ history_in t
    pick false g timed is = rw timed refl
    pick true None timed is = rw (timed, is) refl
    pick true (Some g) timed is =
        rw (timed, is, timing_of-stays g i t.items untimed.names, untimed.calls g (acts t.items) i.moment (timer_calls g t.items)) refl

-- what an item makes of the game and of the clock of a table

-- the game behind an item
abbrev pub game_with : What → Option Position → Option Position
game_with (what.Acted act) p = with_act act p
game_with _ p = p

-- the clock behind an item that led to this game
abbrev pub clock_with : What → ℕ → Option Position → Option History → Option History
clock_with (what.Acted act) moment p c = with_call (call_of_act p moment) c
clock_with (what.Paused name) moment p c = with_call (Pauses moment) c
clock_with (what.Resumed name) moment p c = with_call (Resumes moment) c
clock_with _ moment p c = c

-- it is so of each item
pub position_in-item : (t : Table) (moment : ℕ) (w : What)
    → position_in (with_items (item_at moment w ∷ []) t) ≡ game_with w (position_in t)
position_in-item t moment (what.Acted act) = position_in-acted t moment act
position_in-item t moment (what.Opened host) = position_in-stays t (item_at moment (what.Opened host)) refl
position_in-item t moment (what.Sat name) = position_in-stays t (item_at moment (what.Sat name)) refl
position_in-item t moment (what.Rose name) = position_in-stays t (item_at moment (what.Rose name)) refl
position_in-item t moment (what.Watching name shadow) = position_in-stays t (item_at moment (what.Watching name shadow)) refl
position_in-item t moment (what.Left name) = position_in-stays t (item_at moment (what.Left name)) refl
position_in-item t moment (what.Started names) = position_in-stays t (item_at moment (what.Started names)) refl
position_in-item t moment (what.Paused name) = position_in-stays t (item_at moment (what.Paused name)) refl
position_in-item t moment (what.Resumed name) = position_in-stays t (item_at moment (what.Resumed name)) refl
position_in-item t moment (what.Saved id) = position_in-stays t (item_at moment (what.Saved id)) refl
position_in-item t moment (what.Loaded id) = position_in-stays t (item_at moment (what.Loaded id)) refl
position_in-item t moment (what.NoGame id) = position_in-stays t (item_at moment (what.NoGame id)) refl
position_in-item t moment (what.Reviewed turn hypos action) = position_in-stays t (item_at moment (what.Reviewed turn hypos action)) refl
position_in-item t moment what.Closed = position_in-stays t (item_at moment what.Closed) refl

untimed-stays : (t : Table) (moment : ℕ) (w : What) → names_in w ≡ None
    → ((g : Setup) (past : List Act) (m : ℕ) (before : List TimerCall) → calls_after g past m w before ≡ before)
    → history_in (with_items (item_at moment w ∷ []) t) ≡ history_in t
untimed-stays t moment w names calls = history_in-stays t (item_at moment w) (record { names = names; calls = calls })

-- and of each that starts no game
pub history_in-item : (t : Table) (moment : ℕ) (w : What) → names_in w ≡ None
    → history_in (with_items (item_at moment w ∷ []) t) ≡ clock_with w moment (game_with w (position_in t)) (history_in t)
history_in-item t moment (what.Acted act) none = history_in-acted t moment act
history_in-item t moment (what.Paused name) none = history_in-paused t moment name
history_in-item t moment (what.Resumed name) none = history_in-resumed t moment name
history_in-item t moment (what.Started names) none = cc
history_in-item t moment (what.Opened host) none = untimed-stays t moment (what.Opened host) refl (λ g past m before. refl)
history_in-item t moment (what.Sat name) none = untimed-stays t moment (what.Sat name) refl (λ g past m before. refl)
history_in-item t moment (what.Rose name) none = untimed-stays t moment (what.Rose name) refl (λ g past m before. refl)
history_in-item t moment (what.Watching name shadow) none =
    untimed-stays t moment (what.Watching name shadow) refl (λ g past m before. refl)
history_in-item t moment (what.Left name) none = untimed-stays t moment (what.Left name) refl (λ g past m before. refl)
history_in-item t moment (what.Saved id) none = untimed-stays t moment (what.Saved id) refl (λ g past m before. refl)
history_in-item t moment (what.Loaded id) none = untimed-stays t moment (what.Loaded id) refl (λ g past m before. refl)
history_in-item t moment (what.NoGame id) none = untimed-stays t moment (what.NoGame id) refl (λ g past m before. refl)
history_in-item t moment (what.Reviewed turn hypos action) none =
    untimed-stays t moment (what.Reviewed turn hypos action) refl (λ g past m before. refl)
history_in-item t moment what.Closed none = untimed-stays t moment what.Closed refl (λ g past m before. refl)

-- the review of a table behind one item: by the game behind it
pub reviewed_game-item : (t : Table) (moment : ℕ) (w : What)
    → reviewed_game t.loaded t.game (item_at moment w ∷ t.items) ≡ reviewed_by t.loaded (game_with w (position_in t))
reviewed_game-item t moment w =
    reviewed_game-by (with_items (item_at moment w ∷ []) t) ∙ ap (reviewed_by t.loaded) (position_in-item t moment w)

-- an item that is no act leaves it
pub reviewed_game-stays : (t : Table) (i : Item) → act_in i.what ≡ None
    → reviewed_game t.loaded t.game (i ∷ t.items) ≡ reviewed_game t.loaded t.game t.items
reviewed_game-stays t i none =
    reviewed_game-by (with_items (i ∷ []) t) ∙ ap (reviewed_by t.loaded) (position_in-stays t i none) ∙ sym (reviewed_game-by t)

-- at an act it becomes the game behind the act, if that has ended and none was loaded
pub reviewed_game-acted : (t : Table) (p : Position) (moment : ℕ) (act : Act) → t.loaded ≡ None → position_in t ≡ Some p
    → reviewed_game t.loaded t.game (item_at moment (what.Acted act) ∷ t.items) ≡ game_when (is_some (ended (after p act))) (after p act)
reviewed_game-acted t p moment act unloaded game = reviewed_game-item t moment (what.Acted act) ∙ rw (unloaded, game) refl

-- a game that starts is not reviewed while it runs
pub reviewed_game-started : (s : Site) (moment : ℕ) (names : List (List ℕ)) (t : Table) (p : Position) → t.loaded ≡ None
    → position_in (started_table s moment names t) ≡ Some p → is_some (ended p) ≡ false
    → reviewed_game t.loaded (started_table s moment names t).game (started_table s moment names t).items ≡ None
reviewed_game-started s moment names t p unloaded game runs =
    reviewed_game-by (started_table s moment names t) ∙ rw (unloaded, game, runs) refl

-- a game that is loaded is reviewed
pub reviewed_game-loaded : (moment id : ℕ) (r : Finished) (t : Table)
    → reviewed_game (loaded_table moment id (Some r) t).loaded (loaded_table moment id (Some r) t).game
    (loaded_table moment id (Some r) t).items ≡ Some r.game
reviewed_game-loaded moment id r t = refl

-- and at a new table none is
pub reviewed_game-new : (serial : ℕ) (name : List ℕ) (options : Options) (i : Item)
    → reviewed_game (new_table serial name options i).loaded (new_table serial name options i).game
    (new_table serial name options i).items ≡ None
reviewed_game-new serial name options i = refl
