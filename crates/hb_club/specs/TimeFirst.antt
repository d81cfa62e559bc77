-- What does time do to a table before an event is answered? If the table is open and its game is
-- timed and runs, the seat whose time runs ends it by Timeout from the deadline on.
use Rattle.std.specs.Prelude.{ℕ, Bool, true, false, ◌&&◌, List, [], ◌∷◌, ◌++◌, Option, Some, None, if◌then◌else◌, nat_le}
use Rattle.hb_rules.specs.declared.acts.Action.TheVariants as action
use Rattle.hb_rules.specs.declared.acts.EndHow.TheVariants.{Timeout}
use Rattle.hb_rules.specs.declared.setups.Setup.{Setup}
use Rattle.hb_rules.specs.Setup.{by}
use Rattle.hb_timer.specs.Banks.{deadline, turn_seat}
use Rattle.hb_club.specs.declared.items.Item.{Item}
use Rattle.hb_club.specs.declared.items.What.TheVariants as what
use Rattle.hb_club.specs.RoomEvents.{Happening, Site}
use Rattle.hb_club.specs.Table.{Table}
use Rattle.hb_club.specs.TableClock.{timer_calls, timing_of}
use Rattle.hb_club.specs.TableFacts.{table_of}
use Rattle.hb_club.specs.TableItems.{is_standing}

-- the end of a seat, stamped with the deadline, if there is one and the moment has come to it
abbrev pub timeout_at : ℕ → ℕ → Option ℕ → List Item
timeout_at seat moment None = []
timeout_at seat moment (Some end) =
    if nat_le end moment
    then record { moment = end; what = what.Acted (by seat (action.End Timeout)) } ∷ [] else []

abbrev pub timeout_when : Bool → Setup → List Item → ℕ → List Item
timeout_when true g items moment =
    let timing = timing_of g items in let calls = timer_calls g items in
    timeout_at (turn_seat timing calls) moment (deadline timing calls)
timeout_when false g items moment = []

-- what time adds to a table up to a moment
abbrev pub timeout : Table → Option Setup → ℕ → List Item
timeout t None moment = []
timeout t (Some g) moment =
    timeout_when (is_standing t.items && t.options.timed) g t.items moment

-- the table with more items
abbrev pub with_items : List Item → Table → Table
with_items more t = record t { items = more ++ t.items }

-- the latest table once time was applied
abbrev pub timed_table : Site → List Happening → ℕ → Table
timed_table s past moment = let t = table_of s past in with_items (timeout t t.game moment) t
