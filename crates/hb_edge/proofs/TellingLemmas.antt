-- How do two calls one after another change what is told?
use Rattle.std.proofs.Common.{refl}
use Rattle.std.specs.declared.option.Option.{Option}
use Rattle.std.specs.declared.option.Option.TheVariants.{None, Some}
use Rattle.hb_edge.specs.Telling.{Tells}

-- one change and then another
pub Tells-then : {X : Type 0} (first second third : Option X) (change more : X → X) → Tells first second change
    → Tells second third more → Tells first third (λ x. more (change x))
Tells-then first second None change more changed again = tt
Tells-then None None (Some z) change more changed again = absurd again
Tells-then (Some x) None (Some z) change more changed again = absurd again
Tells-then None (Some y) (Some z) change more changed again = absurd changed
Tells-then (Some x) (Some y) (Some z) change more changed again = rw (again, changed) refl
