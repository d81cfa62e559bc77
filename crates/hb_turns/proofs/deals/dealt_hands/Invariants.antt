use Rattle.std.proofs.Common.{◌≡◌, length}
use Rattle.hb_turns.specs.Dealt.{AreDealt}
use Rattle.hb_turns.proofs.deals.dealt_hands.Given as goal

abbrev pub invariant-loop-order : goal.invariant-loop-order
invariant-loop-order l = record { many : length l.hands ≡ 6; all : AreDealt l.setup l.order l.hands }
