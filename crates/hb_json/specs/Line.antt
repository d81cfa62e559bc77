-- What is a line of a word and a value?
use Rattle.std.specs.Prelude.{ℕ, List, ◌∷◌, ◌++◌}
use Rattle.serde_json.specs.Data.{Data}
use Rattle.serde_json.specs.Written.{compact_text}

-- the word, one space and compact JSON
unfoldable pub line : List ℕ → Data → List ℕ
line word d = word ++ 32 ∷ compact_text d
