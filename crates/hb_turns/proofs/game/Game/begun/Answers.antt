use Rattle.std.proofs.Common.{◌∙◌, arith, []}
use Rattle.hb_turns.proofs.EndLemmas.{end-is}
use Rattle.hb_turns.proofs.game.Game.begun.Goals as goal

pub start-table-requires-clause-dealt : goal.start-table-requires-clause-dealt
start-table-requires-clause-dealt c = omega (arith, c.requires.fair.dealt, c.requires.fair.long)

pub start-table-requires-clause-seats : goal.start-table-requires-clause-seats
start-table-requires-clause-seats c = c.requires.fair.six

pub invariant_of-result : goal.invariant_of-result
invariant_of-result c = rw c.new.ensures (record {
  fair = c.requires.fair;
  legal = tt;
  table = c.start-table.ensures;
  masks = c.requires.masks;
  ended = c.end-ended.ensures ∙ end-is c.args.setup [] c.start-table.result c.requires.fair c.start-table.ensures;
})
