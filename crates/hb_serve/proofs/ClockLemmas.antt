-- Which answers does a clock give behind some of its answers, and which does a clone of it give?
use Rattle.std.proofs.Common.{◌≡◌, ℕ, ◌+◌, suc, List, [], ◌∷◌, length, min, Option, Some, None, IfSome, ap, sym, ◌∙◌, zero-add, arith}
use Rattle.hb_timer.specs.declared.timing.TheConstants.{MOMENT_LIMIT}
use Rattle.hb_edge.specs.Telling.{GoesOn}
use Rattle.hb_session.specs.Conversations.{AreAtMoments, Took}
use Rattle.hb_serve.specs.Comings.{IsFrom, SameAnswers}

-- behind one answer
pub from-ticks : (from clock clock' : Option (ℕ → ℕ)) (answer : ℕ) → IsFrom from clock → GoesOn clock clock' answer
    → IsFrom from clock'
from-ticks None clock clock' answer is ticks = tt
from-ticks (Some answers) None clock' answer is ticks = absurd is
from-ticks (Some answers) (Some later) None answer is ticks = absurd ticks
from-ticks (Some answers) (Some later) (Some next) answer is ticks = let place = is.0 in (
  place + 1,
  λ k. let e : place + suc k ≡ place + 1 + k = omega arith in ticks.1 k ∙ (is.1 (suc k) ∙ ap answers e),
)

-- of a clone
pub from-same : (from clock clone : Option (ℕ → ℕ)) → IsFrom from clock → SameAnswers clock clone → IsFrom from clone
from-same None clock clone is same = tt
from-same (Some answers) None clone is same = absurd is
from-same (Some answers) (Some later) None is same = absurd same
from-same (Some answers) (Some later) (Some copy) is same = (is.0, λ k. same k ∙ is.1 k)

-- before the first answer
pub from-first : (clock : Option (ℕ → ℕ)) → IsFrom clock clock
from-first None = tt
from-first (Some answers) = (0, λ k. ap answers (sym (zero-add k)))

at-place : (answers later : ℕ → ℕ) (place : ℕ) (turns : List Took) → ((k : ℕ) → later k ≡ answers (place + k))
    → AreAtMoments later 0 turns → AreAtMoments answers place turns
at-place answers later place [] is at = tt
at-place answers later place (t ∷ turns) is at =
    let k : 0 + length turns ≡ length turns = zero-add (length turns) in
    (at.0 ∙ ap (λ m. min m MOMENT_LIMIT) (ap later k ∙ is (length turns)), at-place answers later place turns is at.1)

-- the turns of a session at such a clock are at the first one's answers, from one place on
pub moments-from : (from clock : Option (ℕ → ℕ)) (turns : List Took) → IsFrom from clock
    → IfSome clock (λ answers. AreAtMoments answers 0 turns)
    → IfSome from (λ answers. (place : ℕ) × AreAtMoments answers place turns)
moments-from None clock turns is at = tt
moments-from (Some answers) None turns is at = absurd is
moments-from (Some answers) (Some later) turns is at = (is.0, at-place answers later is.0 turns is.1 at)
