use Rattle.std.proofs.Common.{ℕ, arith, refl, length-append}
use Rattle.std.proofs.KnownBytes.{Consumes-trans, Consumes-kept}
use Rattle.hb_io.proofs.read.read_all.Goals as goal

pub returns-in_default-clause-front : goal.returns-in_default-clause-front
returns-in_default-clause-front g c = (
  c.loop-count.bytes,
  Consumes-kept _ _ _ _ c.loop-count.invariant.taken c.in_default.ensures.bytes,
  (λ same. (cc), λ long. absurd (omega arith)),
)

pub returns-then-count-eq0-clause-front : goal.returns-then-count-eq0-clause-front
returns-then-count-eq0-clause-front g c = (
  _,
  Consumes-trans _ _ _ _ _ c.loop-count.invariant.taken c.in-Ok.ensures.bytes.0,
  (λ same. (cc), λ long. absurd (omega (arith, length-append {A = ℕ}, c.in-Ok.ensures.bound))),
)

pub returns-then-count-limit-clause-front : goal.returns-then-count-limit-clause-front
returns-then-count-limit-clause-front g c = (
  _,
  Consumes-trans _ _ _ _ _ c.loop-count.invariant.taken c.in-Ok.ensures.bytes.0,
  (λ same. omega (arith, length-append {A = ℕ}, c.in-Ok.ensures.bound), λ long. refl),
)

pub returns-then-is_err-clause-front : goal.returns-then-is_err-clause-front
returns-then-is_err-clause-front g c = (
  _,
  Consumes-trans _ _ _ _ _ c.loop-count.invariant.taken c.in-Ok.ensures.bytes.0,
  (λ same. (cc), λ long. absurd (omega (arith, length-append {A = ℕ}, c.in-Ok.ensures.bound))),
)
