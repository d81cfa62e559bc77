use Rattle.std.proofs.Common.{refl}
use Rattle.hb_sight.proofs.acts.draw_event.Goals as goal

pub returns-in-Some : goal.returns-in-Some
returns-in-Some c = rw (← (c.in-Some.ensures c.args.who), c.card.ensures) refl

pub returns-in-None : goal.returns-in-None
returns-in-None c = rw (← (c.in-None.ensures c.args.who)) refl
