-- What does an object tell of its content, before and after a call?
use Rattle.std.specs.Prelude.{◌≡◌, ℕ, suc, ◌<◌, ◌≤◌, ⊤, List, length, IfSome}
use Rattle.std.specs.declared.option.Option.{Option}
use Rattle.std.specs.declared.option.Option.TheVariants.{None, Some}

-- what is told after a call is this change of what was told before: an object may stop telling, and
-- never begins to
abbrev pub Tells : {X : Type 0} → Option X → Option X → (X → X) → Type 0
Tells before None change = ⊤
Tells None (Some after) change = ⊥
Tells (Some before) (Some after) change = after ≡ change before

-- what is told is as before
abbrev pub Keeps : {X : Type 0} → Option X → Option X → Type 0
Keeps before after = Tells before after (λ x. x)

-- the moments that a clock will answer, by the number of the answer from 0, before and after this
-- answer: a clock that tells them goes on telling
abbrev pub GoesOn : Option (ℕ → ℕ) → Option (ℕ → ℕ) → ℕ → Type 0
GoesOn None after answer = ⊤
GoesOn (Some moments) None answer = ⊥
GoesOn (Some moments) (Some later) answer =
    (answer ≡ moments 0) × ((k : ℕ) → later k ≡ moments (suc k))

-- if both are told, no more stubs were given back than links were given
abbrev pub NoMoreBack : {S : Type 0} → Option ℕ → Option (List S) → Type 0
NoMoreBack given back = IfSome given (λ links. IfSome back (λ stubs. length stubs ≤ links))

-- if both are told, fewer stubs were given back than links were given
abbrev pub FewerBack : {S : Type 0} → Option ℕ → Option (List S) → Type 0
FewerBack given back = IfSome given (λ links. IfSome back (λ stubs. length stubs < links))
