use Rattle.std.proofs.Common.{◌≡◌, take}
use Rattle.hb_view.proofs.pumps.same_cards.Given as goal

abbrev pub invariant-loop-i : goal.invariant-loop-i
invariant-loop-i l = take l.i l.a ≡ take l.i l.b
