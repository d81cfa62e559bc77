-- Which words do not begin with `-`?
use Rattle.std.specs.Prelude.{◌≢◌, ℕ, List, Some, slice_get}
use Rattle.std.specs.Str.{byte}

abbrev pub IsPlain : List ℕ → Type 0
IsPlain word = slice_get word 0 ≢ Some (byte "-")
