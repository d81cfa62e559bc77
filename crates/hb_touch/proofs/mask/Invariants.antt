use Rattle.std.specs.Prelude.{◌&&◌}
use Rattle.hb_rules.specs.Cards.{identity, has_number}
use Rattle.hb_rules.specs.Touch.{touches}
use Rattle.hb_rules.specs.Marks.{same}
use Rattle.hb_touch.proofs.Masks.{Holds}
use Rattle.hb_touch.proofs.mask.Given as goal

abbrev pub invariant-loop-number : goal.invariant-loop-number
invariant-loop-number l = Holds (λ n. has_number l.variant n && same l.touched (touches l.variant l.clue (identity n))) l.number l.set
