-- What comes of the sessions for which was waited?
use Rattle.std.specs.Prelude.{◌≡◌, ℕ, Bool, false, List, ◌++◌, Option, length}
use Rattle.hb_club.specs.Fronts.{AllGoOn, Fronts, House}
use Rattle.hb_edge.specs.Talk.{Talk}
use Rattle.hb_edge.specs.Telling.{Tells}
use Rattle.hb_serve.specs.Explanations.{AreExplained}

-- For so many sessions was waited: the lists of their halls begin those for which the hall stands,
-- and their stubs were given back, in the order in which was waited. What is told of each stub is
-- explained, unless a turn was refused
pub record Waited {S : Type 0} (Stands : Fronts → Type 0) (talk : S → Option Talk)
    (faults : S → ℕ) (h : House) (n : ℕ) (start : Option (ℕ → ℕ)) (first : Fronts) (jobs : ℕ)
    (refused : Bool) (before now : Option (List S)) : Type 0 where
  pub lists : Fronts
  pub stands_for : Stands lists
  pub on : AllGoOn first lists
  pub stubs : List S
  pub given_back : Tells before now (λ old. old ++ stubs)
  pub counted : length stubs ≡ jobs
  pub explained : refused ≡ false → AreExplained talk faults h n lists start stubs
