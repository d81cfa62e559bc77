use Rattle.std.proofs.Common.{◌≡◌, take}
use Rattle.std.specs.Prelude.{filter}
use Rattle.hb_rules.specs.Setup.{card}
use Rattle.hb_rules.specs.Touch.{touches}
use Rattle.hb_rules.specs.Events.{bits}
use Rattle.hb_turns.proofs.game.Game.touched.Given as goal

abbrev pub invariant-loop-order : goal.invariant-loop-order
invariant-loop-order l =
    l.word
    ≡ bits
    (filter (λ order. touches l.self.setup.variant l.fn.clue (card l.self.setup order))
    (take l.order-index l.order-items))
