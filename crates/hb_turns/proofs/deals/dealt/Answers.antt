use Rattle.std.proofs.Common.{◌/◌, refl}
use Rattle.hb_rules.specs.Setup.{hand_size}
use Rattle.hb_turns.proofs.StartLemmas.{none-dealt}
use Rattle.hb_turns.proofs.deals.dealt.Goals as goal

pub loop-order-init : goal.loop-order-init
loop-order-init c = record { many = refl; all = λ k low. none-dealt 60 k (k / hand_size c.args.setup.now) }
