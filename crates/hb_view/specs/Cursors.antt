-- What does a cursor keep of the first items of a view, which it has written?
use Rattle.std.specs.Prelude.{◌≡◌, true, false, List, [], ◌∷◌, Option, Some, None}
use Rattle.hb_rules.specs.declared.acts.Act.{Act}
use Rattle.hb_rules.specs.declared.setups.Setup.{Setup}
use Rattle.hb_rules.specs.Setup.{Position}
use Rattle.hb_timer.specs.declared.timing.Timing.{Timing}
use Rattle.hb_timer.specs.declared.timing.TimerCall.{TimerCall}
use Rattle.hb_review.specs.declared.steps.Step.{Step}
use Rattle.hb_review.specs.Reviews.{reviewed}
use Rattle.hb_club.specs.declared.items.Item.{Item}
use Rattle.hb_club.specs.SeenTable.{seen_game}
use Rattle.hb_club.specs.TableClock.{timer_calls, timing_of}
use Rattle.hb_club.specs.TableItems.{acts, is_started, steps}
use Rattle.hb_club.specs.Views.{View}
use Rattle.hb_view.specs.declared.clocks.Clock.{Clock}
use Rattle.hb_view.specs.declared.cursors.Cursor.{Cursor}
use Rattle.hb_view.specs.StreamClocks.{IsClock}
use Rattle.hb_view.specs.StreamViews.{view_review}

-- a game stands after these acts, with the variant, the options and the players of a setup. Which
-- cards it has is not said, since a view does not show them all
pub record IsKept (g : Setup) (past : List Act) (p : Position) : Type 0 where
  pub acts : p.past ≡ past
  pub variant : p.setup.variant ≡ g.variant
  pub options : p.setup.options ≡ g.options
  pub players : p.setup.players ≡ g.players

abbrev pub IsKeptGame : Setup → List Act → Option Position → Type 0
IsKeptGame g past None = ⊥
IsKeptGame g past (Some p) = IsKept g past p

-- the clock after these calls
abbrev pub IsKeptClock : Timing → List TimerCall → Option Clock → Type 0
IsKeptClock of calls None = ⊥
IsKeptClock of calls (Some c) = IsClock of calls c

-- the reviewed game after these steps; none before the first
abbrev pub shown_game : Position → List Step → Option Position
shown_game game [] = None
shown_game game (step ∷ taken) = Some (reviewed game (step ∷ taken))

-- a cursor that has written these items, which are the first ones of the view
pub record Written (w : View) (items : List Item) (c : Cursor) : Type 0 where
  pub viewer : c.viewer ≡ w.viewer
  pub game : (g : Setup) → seen_game w ≡ Some g → is_started items ≡ true
      → IsKeptGame g (acts items) c.game
  pub clock : (g : Setup) → seen_game w ≡ Some g → is_started items ≡ true
      → IsKeptClock (timing_of g items) (timer_calls g items) c.clock
  pub unstarted : is_started items ≡ false → (c.game ≡ None) × (c.clock ≡ None)
  pub review : (game : Position) → view_review w ≡ Some game
      → c.shown ≡ shown_game game (steps items)
  pub unreviewed : steps items ≡ [] → c.shown ≡ None
