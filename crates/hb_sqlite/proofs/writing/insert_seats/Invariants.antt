use Rattle.std.proofs.Common.{◌≡◌, ◌++◌, List, take, Ok}
use Rattle.sqlite_value.specs.Order.{Row}
use Rattle.sqlite.specs.Held.{state}
use Rattle.hb_keeper.specs.declared.rows.Key.{Key}
use Rattle.hb_keeper.specs.declared.rows.GameRow.{GameRow}
use Rattle.hb_sqlite.specs.StoreTables.{seats_from}
use Rattle.hb_sqlite.specs.Within.{Placing, DoesWithin}
use Rattle.hb_sqlite.specs.declared.errors.Failure.{Failure}
use Rattle.hb_sqlite.proofs.writing.insert_seats.Given as goal

abbrev pub invariant-loop-place : goal.invariant-loop-place
invariant-loop-place g l =
    (l.tx.conn.ghost_name ≡ l.initial.tx.conn.ghost_name)
    × ((games : List (Key × GameRow)) (seats : List Row)
    → DoesWithin {E = Failure} (state g.S.Store l.initial.tx.conn.now) (state g.S.Store l.tx.conn.now)
    (λ content. Placing (state g.S.Store l.initial.tx.conn.now) content.last_run games seats)
    (λ content _. Placing (state g.S.Store l.tx.conn.now) content.last_run games (seats
    ++ seats_from l.game 0 (take l.place l.names))) (Ok (tt {0})))
