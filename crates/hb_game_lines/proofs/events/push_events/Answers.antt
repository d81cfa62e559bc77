use Rattle.std.proofs.Common.{◌≡◌, ◌-◌, arith, length}
use Rattle.hb_game_lines.proofs.events.push_events.Goals as goal

pub returns-clause-written : goal.returns-clause-written
returns-clause-written c =
    let none : length c.args.game.now.past - c.loop-i.i ≡ 0 = omega (arith, c.act_count-i-end.ensures.count) in
    rw none at c.loop-i.invariant.written
