use Rattle.std.proofs.Common.{arith, refl, ◌<◌}
use Rattle.std.proofs.lemmas.Nat.{one_shl}
use Rattle.hb_view.proofs.acted.blind_all.Goals as goal

pub returns : goal.returns
returns c = let below : c.args.players < 8 = omega arith in rw (one_shl c.args.players 8 below) refl
