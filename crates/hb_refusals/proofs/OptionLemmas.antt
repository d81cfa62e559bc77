-- What is the first of several options?
use Rattle.std.proofs.Common.{◌≡◌, true, false, refl, Option, Some, None}
use Rattle.std.specs.Option.{option_or}
use Rattle.std.specs.Prelude.{is_none, is_some, not}

-- with nothing behind it an option stays
pub option_or-none : {A : Type 0} (o : Option A) → option_or o None ≡ o
option_or-none None = refl
option_or-none (Some x) = refl

-- where something is, what stands behind it does not count
pub option_or-some : {A : Type 0} (o other : Option A) → is_none o ≡ false → option_or o other ≡ o
option_or-some None other none = cc
option_or-some (Some x) other some = refl

-- the first of three
pub option_or-assoc : {A : Type 0} (a b c : Option A) → option_or (option_or a b) c ≡ option_or a (option_or b c)
option_or-assoc None b c = refl
option_or-assoc (Some x) b c = refl

-- none is not some
pub is_none-not : {A : Type 0} (o : Option A) → is_none o ≡ not (is_some o)
is_none-not None = refl
is_none-not (Some x) = refl

-- what is none is None
pub none-same : {A : Type 0} (o : Option A) → is_none o ≡ true → o ≡ None
none-same None none = refl
none-same (Some x) none = cc
