-- How does the clock of a timed table stand? By the stamps of its items: they are the calls of a
-- timer. Items and calls stand newest first.
use Rattle.std.specs.Prelude.{ℕ, ◌*◌, Bool, not, ◌&&◌, List, [], ◌∷◌, Option, Some, None, filter_map, if◌then◌else◌, is_some, unwrap_or}
use Rattle.hb_rules.specs.declared.acts.Act.{Act}
use Rattle.hb_rules.specs.declared.setups.Setup.{Setup}
use Rattle.hb_rules.specs.Result.{ended}
use Rattle.hb_timer.specs.declared.timing.Timing.{Timing}
use Rattle.hb_timer.specs.declared.timing.TimerCall.{TimerCall}
use Rattle.hb_timer.specs.declared.timing.TimerCall.TheVariants.{TurnEnds, Pauses, Resumes, Stops}
use Rattle.hb_timer.specs.Banks.{is_running, is_stopped}
use Rattle.hb_club.specs.declared.items.Item.{Item}
use Rattle.hb_club.specs.declared.items.What.{What}
use Rattle.hb_club.specs.declared.items.What.TheVariants.{Acted, Paused, Resumed}
use Rattle.hb_club.specs.TableItems.{acts, first_of_all, names_in}

-- the call of an act: it ends its turn, or stops the timer if it ends the game
abbrev pub act_call : Setup → List Act → ℕ → TimerCall
act_call g past moment = if is_some (ended g past) then Stops moment else TurnEnds moment

-- the calls after an item
abbrev pub calls_after : Setup → List Act → ℕ → What → List TimerCall → List TimerCall
calls_after g before moment (Acted act) calls = act_call g (act ∷ before) moment ∷ calls
calls_after g before moment (Paused by) calls = Pauses moment ∷ calls
calls_after g before moment (Resumed by) calls = Resumes moment ∷ calls
calls_after g before moment _ calls = calls

abbrev pub timer_calls : Setup → List Item → List TimerCall
timer_calls g [] = []
timer_calls g (i ∷ items) = calls_after g (acts items) i.moment i.what (timer_calls g items)

-- the stamp of the start
abbrev pub start_in : Item → Option ℕ
start_in i = if is_some (names_in i.what) then Some i.moment else None

-- what the timer is made with: times in milliseconds, and the moment of the start
abbrev pub timing_of : Setup → List Item → Timing
timing_of g items = record {
  base = g.options.base_s * 1000;
  per_turn = g.options.per_turn_s * 1000;
  seats = g.players;
  first = g.options.starting;
  start = unwrap_or (first_of_all (filter_map start_in items)) 0;
}

-- time stands still, and can run again
abbrev pub is_halted : List TimerCall → Bool
is_halted calls = not (is_running calls) && not (is_stopped calls)
