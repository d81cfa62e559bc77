-- What is left of bytes to which a text was to be appended, if memory ran out on the way?
use Rattle.std.specs.Prelude.{◌≡◌, ℕ, List, ◌++◌}

-- the bytes begin with these
pub record BeginsWith (bytes start : List ℕ) : Type 0 where
  pub rest : List ℕ
  pub is : bytes ≡ start ++ rest
