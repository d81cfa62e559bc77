-- Internal: no public clause cites this.
-- Which words have these parts?
use Rattle.std.specs.Prelude.{ℕ, List, [], ◌∷◌, Option, option_map}
use Rattle.std.specs.Borrow.{Bor}
use Rattle.std.specs.Option.{option_to_list}
use Rattle.hb_words.specs.declared.parts.Parts.{Parts}
use Rattle.hb_words.specs.declared.parts.Values.{Values}
use Rattle.hb_words.specs.declared.parts.Values.TheVariants.{Zero, One, Two}

-- the text that is there, if there is one
abbrev pub texts_in : Option (Bor (List ℕ)) → List (List ℕ)
texts_in value = option_to_list (option_map (λ v. v.now) value)

abbrev pub values_of : Values → List (List ℕ)
values_of Zero = []
values_of (One first) = first.now ∷ []
values_of (Two first second) = first.now ∷ second.now ∷ []

abbrev pub parts_of : Parts → List (List ℕ)
parts_of p = p.name.now ∷ values_of p.values
