-- What is a turnstile with a pass for it, and what do a call, a split and a join do to it?
use Rattle.std.specs.Prelude.{◌≡◌, false, Option, Some, None}
use Rattle.hb_turnstile.specs.Known.{Calls, IsSplitOff, Joins, Known, with_mark}

-- the machine that the turnstile began with, and what the pass knows
pub record Place (M C R : Type 0) : Type 0 where
  pub start : M
  pub pass : Known C R

-- a call was answered at its place in the one history, and its pass was not worn; or no ticket was
-- left, and the pass has the mark worn
abbrev pub CallsAt : {M C R : Type 0} → (turns : M → C → R → M → Type 0)
    → (old : Place M C R) → C → Option R → (new : Place M C R) → Type 0
CallsAt turns old c (Some r) new =
    (new.start ≡ old.start) × Calls turns old.start old.pass c r new.pass
    × (old.pass.worn ≡ false)
CallsAt turns old c None new = new ≡ record { start = old.start; pass = with_mark old.pass }

-- a place is a further one at the same turnstile, which has seen as much
abbrev pub SplitsAt : {M C R : Type 0} → (old new : Place M C R) → Type 0
SplitsAt old new = (new.start ≡ old.start) × IsSplitOff old.pass new.pass

-- a place took in another one at the same turnstile
abbrev pub JoinsAt : {M C R : Type 0} → (turns : M → C → R → M → Type 0)
    → (old other new : Place M C R) → Type 0
JoinsAt turns old other new =
    (new.start ≡ old.start) × Joins turns old.start old.pass other.pass new.pass
