use Rattle.std.specs.Prelude.{◌==◌}
use Rattle.hb_sets.specs.Sets.{bit}
use Rattle.hb_sets.proofs.Bits.{bit-lt}
use Rattle.hb_turns.proofs.HandBits.{bit-xor}
use Rattle.hb_turns.proofs.Narrow.{alike-touched, alike-other}
use Rattle.hb_turns.proofs.ViewsLemmas.{iff-test}
use Rattle.hb_turns.proofs.table.marks.narrowed.Goals as goal
use Rattle.hb_turns.proofs.table.marks.narrowed.Goals.{then-has, else-has}

pub returns : goal.returns
returns c = elim c.if-has.branch [
  | then-has w ↦ λ n.
      alike-touched (bit c.meet.result n) (bit c.args.mark n) (bit c.args.all n) (bit c.args.touched n)
      (bit c.args.touched c.args.number == 1)
      (rw w.alike-is at (c.meet.ensures n)) (bit-lt c.args.mark n) (bit-lt c.args.all n) (c.requires.within n)
      (rw w.if-has.true at (iff-test c.has.result (bit c.args.touched c.args.number) c.has.ensures (bit-lt c.args.touched c.args.number)))
  | else-has w ↦ λ n.
      alike-other (bit c.meet.result n) (bit c.args.mark n) (bit c.args.all n) (bit c.args.touched n) _
      (bit c.args.touched c.args.number == 1)
      (rw w.alike-is at (c.meet.ensures n)) (bit-xor c.args.all c.args.touched n) (bit-lt c.args.mark n)
      (bit-lt c.args.all n) (c.requires.within n)
      (rw w.if-has.false at (iff-test c.has.result (bit c.args.touched c.args.number) c.has.ensures (bit-lt c.args.touched c.args.number)))
]
