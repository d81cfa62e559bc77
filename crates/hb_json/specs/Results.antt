-- How do steps go on up to the first fault?
use Rattle.std.specs.Prelude.{Result, Option, None, Some, Bool, true, false}
use Rattle.std.specs.declared.result.Result.TheVariants.{Ok, Err}

-- what is found first, and then what follows from it
infixl 10 ◌>>=◌
abbrev pub ◌>>=◌ : {A B E : Type 0} → Result A E → (A → Result B E) → Result B E
(Ok x) >>= f = f x
(Err e) >>= f = Err e

-- the value that is there, or this fault
abbrev pub found_or : {A E : Type 0} → E → Option A → Result A E
found_or e None = Err e
found_or e (Some x) = Ok x

-- the default if nothing is there, and else what is found of it
abbrev pub absent_or : {A X E : Type 0} → X → (A → Result X E) → Option A → Result X E
absent_or default f None = Ok default
absent_or default f (Some d) = f d

-- what must hold, or this fault
abbrev pub must : {E : Type 0} → E → Bool → Result (Unit {0}) E
must e true = Ok tt
must e false = Err e
