-- What does a room know of its latest table when it replies to an entry?
use Rattle.std.specs.Prelude.{ℕ, Bool, ◌&&◌, List, [], Option, Some, None, is_some, length, unwrap_or}
use Rattle.hb_rules.specs.declared.acts.Options.{Options}
use Rattle.hb_rules.specs.declared.limits.TheConstants.{MOST_PLAYERS}
use Rattle.hb_rules.specs.declared.setups.Setup.{Setup}
use Rattle.hb_timer.specs.declared.timing.TimerCall.{TimerCall}
use Rattle.hb_club.specs.declared.items.Item.{Item}
use Rattle.hb_club.specs.EndedReplays.{Finished}
use Rattle.hb_club.specs.Seating.{place_from, players}
use Rattle.hb_club.specs.TableClock.{is_halted, timer_calls}
use Rattle.hb_club.specs.TableReview.{game_end}

-- the facts of the latest table; of these, only the cards of `game` are hidden from anybody
pub record Table : Type 0 where
  -- its serial; 0 if no table was opened
  pub latest : ℕ
  -- the variant name and the options that it was opened with
  pub name : List ℕ
  pub options : Options
  -- its items, the newest first
  pub items : List Item
  -- the setup of the game that was started
  pub game : Option Setup
  -- the game that was loaded
  pub loaded : Option Finished

-- the game that was started has ended
abbrev pub has_ended : Table → Bool
has_ended t = is_some (game_end t.game t.items)

abbrev pub game_calls : Option Setup → List Item → List TimerCall
game_calls None items = []
game_calls (Some g) items = timer_calls g items

-- the clock stands still, and can run again
abbrev pub is_paused : Table → Bool
is_paused t = t.options.timed && is_halted (game_calls t.game t.items)

abbrev pub deck_size : Option Setup → ℕ
deck_size None = 0
deck_size (Some g) = length g.deck.items

abbrev pub player_count : Option Setup → ℕ
player_count None = 0
player_count (Some g) = g.players

-- the seat of a player; of anybody else a number that is no seat
abbrev pub seat_of : Table → List ℕ → ℕ
seat_of t member = unwrap_or (place_from 0 member (players t.items)) MOST_PLAYERS
