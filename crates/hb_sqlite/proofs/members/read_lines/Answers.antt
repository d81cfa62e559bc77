use Rattle.std.proofs.lemmas.Option.{slice_get-get_or}
use Rattle.sqlite.specs.Held.{state}
use Rattle.hb_sqlite.proofs.LineLemmas.{more_lines}
use Rattle.hb_sqlite.proofs.members.read_lines.Goals as goal

pub loop-place-preserved : goal.loop-place-preserved
loop-place-preserved g c =
    let here = slice_get-get_or c.args.ids.now c.loop-place.place 0 c.loop-place-test.true in
    more_lines (state g.S.Store c.args.conn.now) (state g.S.Store c.loop-place.conn) (state g.S.Store c.line_of.new.conn)
    c.loop-place.place c.args.ids.now c.loop-place.lines c.push.new.self _ c.in_ok-line.line
    here c.loop-place.invariant c.in_ok-line.ensures c.in_ok-push.ensures.ok
