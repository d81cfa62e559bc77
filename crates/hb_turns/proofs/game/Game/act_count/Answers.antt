use Rattle.std.proofs.Common.{◌≡◌, ap, arith, length, reverse}
use Rattle.std.proofs.lemmas.List.{length-reverse}
use Rattle.hb_rules.specs.Setup.{Position}
use Rattle.hb_turns.proofs.game.Game.act_count.Goals as goal

pub returns : goal.returns
returns c =
    let long : length (reverse c.self.inside.acts.items) ≡ length c.args.self.now.past =
    ap (λ (p : Position). length p.past) c.self.view_is in
    record {
      count = omega (arith, length-reverse c.self.inside.acts.items, c.len.ensures);
      few = omega (arith, length-reverse c.self.inside.acts.items, c.len.ensures);
      played = rw (← c.self.view_is) (record { fair = c.self.invariant.fair; legal = c.self.invariant.legal });
    }
