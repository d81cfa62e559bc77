-- What holds of the latest table, whatever happened in a room?
use Rattle.std.proofs.Common.{◌≡◌, ℕ, ◌≤◌, Bool, true, false, List, [], ◌∷◌, ◌++◌, refl, ap, sym, subst, ◌∙◌, length, Some, None, Option}
use Rattle.std.specs.Prelude.{option_map}
use Rattle.hb_rules.specs.declared.limits.TheConstants.{FEWEST_PLAYERS}
use Rattle.hb_rules.specs.declared.setups.Setup.{Setup}
use Rattle.hb_rules.specs.declared.variants.Variant.{Variant}
use Rattle.hb_suits.specs.VariantNames.{variant_of}
use Rattle.hb_club.specs.declared.items.Item.{Item}
use Rattle.hb_club.specs.declared.items.What.{What}
use Rattle.hb_club.specs.declared.items.What.TheVariants as what
use Rattle.hb_club.specs.RoomEvents.{Happening, RoomEvent, Site, event_moment}
use Rattle.hb_club.specs.Rooms.{past_of}
use Rattle.hb_club.specs.Seating.{players}
use Rattle.hb_club.specs.Table.{Table}
use Rattle.hb_club.specs.TableClock.{timer_calls}
use Rattle.hb_club.specs.TableFacts.{setup_for, setup_when, table_of}
use Rattle.hb_club.specs.TableInvariant.{IsTable}
use Rattle.hb_club.specs.TableItems.{acts, is_started}
use Rattle.hb_club.specs.TableRecord.{AreInOrder, StandsOn}
use Rattle.hb_club.specs.TimeFirst.{timeout}
use Rattle.hb_club.proofs.TableRecordLemmas.{latest_items-record}
use Rattle.hb_table.specs.State.{state_at}
use Rattle.hb_table.specs.StateMoves.{item_at, timed_state}
use Rattle.hb_table.proofs.PendingStateLemmas.{is_started-late}

-- a table has a game only if one was started
pub unstarted-game : (s : Site) (past : List Happening) → is_started (table_of s past).items ≡ false → (table_of s past).game ≡ None
unstarted-game s past off = rw off refl

-- a game has two players or more
pub game-players : (s : Site) (t : Table) (g : Setup) → IsTable s t → t.game ≡ Some g → FEWEST_PLAYERS ≤ g.players
game-players s t g is game = pick (is_started t.items) refl (sym is.game ∙ game)
  where
    count : ℕ
    count = length (players t.items)

    named : (o : Option Variant) → is_started t.items ≡ true
        → option_map (setup_for s t.latest t.options count) o ≡ Some g → FEWEST_PLAYERS ≤ g.players
    named None on made = cc
    named (Some v) on made =
        let same : setup_for s t.latest t.options count v ≡ g = cc in
        subst (λ (h : Setup). FEWEST_PLAYERS ≤ h.players) same (is.two on)

    pick : (b : Bool) → is_started t.items ≡ b → setup_when b s t.latest (t.name, t.options) count ≡ Some g → FEWEST_PLAYERS ≤ g.players
    pick true on made = named (variant_of t.name) on made
    pick false off made = cc

-- no act and no call of a clock stands among these items
pub record AreIdle (items : List Item) : Type 0 where
  pub acts : acts items ≡ []
  pub calls : (g : Setup) → timer_calls g items ≡ []

idle-more : (w : What) (moment : ℕ) (items : List Item) → StandsOn items w → is_started (item_at moment w ∷ items) ≡ false
    → (is_started items ≡ false → AreIdle items) → AreIdle (item_at moment w ∷ items)
idle-more (what.Started names) moment items stands off idle = cc
idle-more (what.Acted act) moment items stands off idle = let never : true ≡ false = sym stands ∙ off in cc
idle-more (what.Paused name) moment items stands off idle = let never : true ≡ false = sym stands ∙ off in cc
idle-more (what.Resumed name) moment items stands off idle = let never : true ≡ false = sym stands ∙ off in cc
idle-more (what.Opened host) moment items stands off idle = record { acts = (idle off).acts; calls = (idle off).calls }
idle-more (what.Sat name) moment items stands off idle = record { acts = (idle off).acts; calls = (idle off).calls }
idle-more (what.Rose name) moment items stands off idle = record { acts = (idle off).acts; calls = (idle off).calls }
idle-more (what.Watching name shadow) moment items stands off idle = record { acts = (idle off).acts; calls = (idle off).calls }
idle-more (what.Left name) moment items stands off idle = record { acts = (idle off).acts; calls = (idle off).calls }
idle-more (what.Saved id) moment items stands off idle = record { acts = (idle off).acts; calls = (idle off).calls }
idle-more (what.Loaded id) moment items stands off idle = record { acts = (idle off).acts; calls = (idle off).calls }
idle-more (what.NoGame id) moment items stands off idle = record { acts = (idle off).acts; calls = (idle off).calls }
idle-more (what.Reviewed turn hypos action) moment items stands off idle = record { acts = (idle off).acts; calls = (idle off).calls }
idle-more what.Closed moment items stands off idle = record { acts = (idle off).acts; calls = (idle off).calls }

unstarted-idle : (items : List Item) → AreInOrder items → is_started items ≡ false → AreIdle items
unstarted-idle [] order off = record { acts = refl; calls = λ g. refl }
unstarted-idle (i ∷ items) order off = idle-more i.what i.moment items order.0 off (unstarted-idle items order.1)

-- none stands there before a start
pub state_at-idle : (s : Site) (events : List RoomEvent) → is_started (state_at s events).table.items ≡ false
    → AreIdle (state_at s events).table.items
state_at-idle s events off = unstarted-idle (state_at s events).table.items (latest_items-record s events).order off

-- nor when time was applied
pub timed_state-idle : (s : Site) (events : List RoomEvent) (e : RoomEvent)
    → is_started (timed_state s (past_of s events) e).table.items ≡ false → AreIdle (timed_state s (past_of s events) e).table.items
timed_state-idle s events e off =
    let t : Table = table_of s (past_of s events) in
    let before : is_started t.items ≡ false = sym (is_started-late t t.game (event_moment e) t.items) ∙ off in
    let none : timeout t t.game (event_moment e) ≡ [] =
    ap (λ (g : Option Setup). timeout t g (event_moment e)) (unstarted-game s (past_of s events) before) in
    subst (λ (late : List Item). AreIdle (late ++ t.items)) (sym none) (state_at-idle s events before)
