-- What does a room read of the clock of its table, and what does an item do to it? A call that the
-- timer does not take changes nothing.
use Rattle.std.specs.Prelude.{ℕ, ◌*◌, Bool, true, false, not, ◌&&◌, List, [], ◌∷◌, Option, Some, None, if◌then◌else◌, nat_le}
use Rattle.hb_rules.specs.declared.acts.Action.TheVariants as action
use Rattle.hb_rules.specs.declared.acts.EndHow.TheVariants.{Timeout}
use Rattle.hb_rules.specs.Setup.{Position, by}
use Rattle.hb_timer.specs.declared.timing.TheConstants.{MOMENT_LIMIT}
use Rattle.hb_timer.specs.declared.timing.TimerCall.{TimerCall}
use Rattle.hb_timer.specs.declared.timing.TimerCall.TheVariants.{TurnEnds, Pauses, Resumes, Stops}
use Rattle.hb_timer.specs.Banks.{deadline, is_running, is_stopped, turn_seat}
use Rattle.hb_timer.specs.Timer.{History}
use Rattle.hb_club.specs.declared.items.Item.{Item}
use Rattle.hb_club.specs.declared.items.What.{What}
use Rattle.hb_club.specs.declared.items.What.TheVariants as what
use Rattle.hb_club.specs.TableClock.{is_halted}
use Rattle.hb_club.specs.TimeFirst.{timeout_at}
use Rattle.hb_playing.specs.declared.clocks.Lapse.{Lapse}
use Rattle.hb_playing.specs.Games.{ended_by}

-- it stands still, and can run again
abbrev pub paused_by : Option History → Bool
paused_by None = false
paused_by (Some t) = is_halted t.calls

-- the timer of a game that starts
abbrev pub new_timer : ℕ → Position → History
new_timer moment p = record {
  timing = record {
    base = p.setup.options.base_s * 1000;
    per_turn = p.setup.options.per_turn_s * 1000;
    seats = p.setup.players;
    first = p.setup.options.starting;
    start = moment;
  };
  calls = [];
}

-- a timed game has one
abbrev pub timer_of : Bool → ℕ → Position → Option History
timer_of timed moment p = if timed then Some (new_timer moment p) else None

-- the time of a seat that is used up

-- the seat, and the deadline if the moment has come to it
abbrev pub due_at : ℕ → ℕ → Option ℕ → Option Lapse
due_at seat moment None = None
due_at seat moment (Some end) =
    if nat_le end moment then Some (record { seat = seat; moment = end }) else None

abbrev pub due_by : Option History → ℕ → Option Lapse
due_by None moment = None
due_by (Some t) moment =
    due_at (turn_seat t.timing t.calls) moment (deadline t.timing t.calls)

-- what time adds to a table with this timer
abbrev pub late_by : Option History → ℕ → List Item
late_by None moment = []
late_by (Some t) moment =
    timeout_at (turn_seat t.timing t.calls) moment (deadline t.timing t.calls)

-- the item of a lapse: the seat ends the game by Timeout
abbrev pub lapse_items : Option Lapse → List Item
lapse_items None = []
lapse_items (Some l) =
    record { moment = l.moment; what = what.Acted (by l.seat (action.End Timeout)) } ∷ []

-- the calls of a timer

-- a moment that is not past the deadline
abbrev pub is_by : ℕ → Option ℕ → Bool
is_by moment None = true
is_by moment (Some end) = nat_le moment end

abbrev pub is_timely : ℕ → History → Bool
is_timely moment t = is_by moment (deadline t.timing t.calls) && nat_le moment MOMENT_LIMIT

-- one more call
abbrev pub called : TimerCall → History → History
called call t = record t { calls = call ∷ t.calls }

-- the end of a turn, or of the game
abbrev pub turned : Bool → ℕ → History → History
turned true moment t =
    if is_timely moment t && not (is_stopped t.calls) then called (Stops moment) t else t
turned false moment t =
    if is_timely moment t && is_running t.calls then called (TurnEnds moment) t else t

abbrev pub turned_by : Bool → ℕ → Option History → Option History
turned_by over moment None = None
turned_by over moment (Some t) = Some (turned over moment t)

-- a pause
abbrev pub halted : ℕ → History → History
halted moment t =
    if is_timely moment t && is_running t.calls then called (Pauses moment) t else t

abbrev pub halted_by : ℕ → Option History → Option History
halted_by moment None = None
halted_by moment (Some t) = Some (halted moment t)

-- the end of a pause
abbrev pub resumed : ℕ → History → History
resumed moment t =
    if nat_le moment MOMENT_LIMIT && is_halted t.calls then called (Resumes moment) t else t

abbrev pub resumed_by : ℕ → Option History → Option History
resumed_by moment None = None
resumed_by moment (Some t) = Some (resumed moment t)

-- the timer after an item, by the game after it: an act ends a turn, or the game
abbrev pub timer_after : What → ℕ → Option Position → Option History → Option History
timer_after (what.Acted act) moment p t = turned_by (ended_by p) moment t
timer_after (what.Paused by) moment p t = halted_by moment t
timer_after (what.Resumed by) moment p t = resumed_by moment t
timer_after _ moment p t = t
