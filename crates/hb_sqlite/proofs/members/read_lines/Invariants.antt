use Rattle.std.proofs.Common.{◌≡◌, take, Ok}
use Rattle.sqlite.specs.Held.{state}
use Rattle.hb_sqlite.specs.SeatIds.{lines_at}
use Rattle.hb_sqlite.specs.StoreSteps.{Reads}
use Rattle.hb_sqlite.specs.declared.errors.Failure.{Failure}
use Rattle.hb_sqlite.proofs.members.read_lines.Given as goal

abbrev pub invariant-loop-place : goal.invariant-loop-place
invariant-loop-place g l = Reads {E = Failure} (state g.S.Store l.initial.conn) (state g.S.Store l.conn)
    (λ content lines. lines ≡ lines_at content (take l.place l.ids)) (Ok l.lines)
