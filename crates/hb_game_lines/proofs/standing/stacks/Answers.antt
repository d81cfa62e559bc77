use Rattle.std.proofs.Common.{arith, sym}
use Rattle.std.proofs.lemmas.List.FromFn.{map-range_with_len_more}
use Rattle.hb_rules.specs.Positions.{height}
use Rattle.hb_game_lines.proofs.standing.stacks.Goals as goal

pub loop-suit-preserved : goal.loop-suit-preserved
loop-suit-preserved c = record {
  items = rw (c.push.ensures.items, c.loop-suit.invariant.items, c.stack.ensures.height)
      (sym (map-range_with_len_more (height c.args.game.now) 0 c.loop-suit.suit c.loop-suit.suit (omega arith)));
  few = omega (arith, c.push.ensures.len, c.loop-suit.invariant.few);
}
