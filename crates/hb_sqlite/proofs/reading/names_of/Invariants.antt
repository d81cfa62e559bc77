use Rattle.std.proofs.Common.{◌≡◌, take, Ok}
use Rattle.sqlite.specs.Held.{state}
use Rattle.hb_keeper.specs.KeptGames.{row_of_id}
use Rattle.hb_sqlite.specs.StoreTables.{names_in}
use Rattle.hb_sqlite.specs.StoreSteps.{Reads}
use Rattle.hb_sqlite.specs.declared.errors.Failure.{Failure}
use Rattle.hb_sqlite.proofs.reading.names_of.Given as goal

abbrev pub invariant-loop-seat : goal.invariant-loop-seat
invariant-loop-seat g l =
    Reads {E = Failure} (state g.S.Store l.initial.conn) (state g.S.Store l.conn) (λ content names. names ≡ take l.seat
    (names_in (row_of_id content l.game))) (Ok l.names)
