use Rattle.std.proofs.Common.{refl}
use Rattle.hb_turns.proofs.StartLemmas.{none-held}
use Rattle.hb_turns.proofs.deals.dealt_hands.Goals as goal

pub loop-order-init : goal.loop-order-init
loop-order-init c = record { many = refl; all = λ s k low. none-held c.args.setup.now s k }
