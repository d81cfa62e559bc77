-- Which steps did a review take, as a list?
use Rattle.std.specs.Prelude.{List, [], ◌∷◌}
use Rattle.hb_review.specs.declared.steps.Step.{Step}
use Rattle.hb_review.specs.declared.steps.Newest.{Newest}
use Rattle.hb_review.specs.declared.steps.Newest.TheVariants.{None, Taken}

-- the newest step, and then those before it
abbrev pub steps_of : Newest → List Step
steps_of None = []
steps_of (Taken step before) = step ∷ before.value
