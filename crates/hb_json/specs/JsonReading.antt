-- Is something there in a JSON value, and which whole number is it?
use Rattle.std.specs.Prelude.{ℕ, nat_lt, if◌then◌else◌, Option, None, Some, option_and_then}
use Rattle.serde_json.specs.Data.{Data, null, boolean, number, string, array, object}
use Rattle.serde_json.specs.Find.{as_number, as_u64}

-- what is there; null counts as absent
abbrev pub present : Option Data → Option Data
present None = None
present (Some null) = None
present (Some (boolean b)) = Some (boolean b)
present (Some (number n)) = Some (number n)
present (Some (string s)) = Some (string s)
present (Some (array ds)) = Some (array ds)
present (Some (object ms)) = Some (object ms)

-- a whole number: one that is written without fraction, exponent or minus sign, and is below 2^64
abbrev pub whole_of : Data → Option ℕ
whole_of d = option_and_then as_u64 (as_number d)

-- a whole number below n
abbrev pub below_of : ℕ → Data → Option ℕ
below_of n d = option_and_then (λ x. if nat_lt x n then Some x else None) (whole_of d)
