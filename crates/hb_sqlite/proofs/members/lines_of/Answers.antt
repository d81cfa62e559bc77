use Rattle.sqlite.specs.Held.{state}
use Rattle.hb_sqlite.proofs.LineLemmas.{member_lines}
use Rattle.hb_sqlite.proofs.members.lines_of.Goals as goal

pub returns : goal.returns
returns g c =
    member_lines (λ rows. rows.items) (state g.S.Store c.args.conn.now) (state g.S.Store c.member_rows.new.conn) (state g.S.Store
    c.read_lines.new.conn) c.args.name.now c.in_ok-rows.rows c.in_ok-ids.ids.items c.read_lines.result
    c.in_ok-rows.ensures (λ all same. c.in_ok-ids.ensures all (rw c.deref.ensures.value same)) (rw c.deref-2.ensures.value at
    c.read_lines.ensures)
