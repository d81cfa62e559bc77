-- How is a name spelled, and how does a `Name` hold one?
use Rattle.std.specs.Prelude.{◌≡◌, ℕ, ◌-◌, ◌<◌, ◌≤◌, ◌⊎◌, List, ◌++◌, length, take, replicate, All, Contains, codes}
use Rattle.std.specs.Char.{IsAsciiAlphanumeric}
use Rattle.hb_io.specs.declared.names.TheConstants.{NAME_LIMIT}

-- a byte that a name may have: an ASCII letter or digit, `_` or `-`
abbrev pub IsNameByte : ℕ → Type 0
IsNameByte b = IsAsciiAlphanumeric b ⊎ Contains (codes "_-") b

-- a text that is a name: 1 to 16 such bytes
pub record IsName (text : List ℕ) : Type 0 where
  pub not_empty : 0 < length text
  pub fits : length text ≤ NAME_LIMIT
  pub bytes : All IsNameByte text

-- a text, and zeros behind it up to the most bytes of a name
abbrev pub padded : List ℕ → List ℕ
padded text = text ++ replicate (NAME_LIMIT - length text) 0

-- the array begins with a name of this length, and has zeros behind it
pub record HoldsName (bytes : List ℕ) (len : ℕ) : Type 0 where
  pub name : IsName (take len bytes)
  pub within : len ≤ length bytes
  pub zeros : bytes ≡ padded (take len bytes)
