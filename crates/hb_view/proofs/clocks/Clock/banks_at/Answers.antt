use Rattle.std.proofs.Common.{arith, sym}
use Rattle.hb_view.specs.StreamClocks.{bank_at}
use Rattle.hb_view.proofs.TextListLemmas.{map-below_more}
use Rattle.hb_view.proofs.clocks.Clock.banks_at.Goals as goal

pub loop-seat-preserved : goal.loop-seat-preserved
loop-seat-preserved c = (
  rw (c.push.ensures.items, c.loop-seat.invariant.0, c.bank_at.ensures) (sym (map-below_more
      (λ seat. bank_at c.args.self.now seat c.args.moment) c.loop-seat.seat)),
  omega (arith, c.push.ensures.len, c.loop-seat.invariant.1),
)
