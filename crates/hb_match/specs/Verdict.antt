-- What does `assign` answer?
use Rattle.std.specs.Prelude.{ℕ, List}
use Rattle.hb_match.specs.declared.Verdict.{Verdict}
use Rattle.hb_match.specs.declared.Verdict.TheVariants.{Given, Blocked}
use Rattle.hb_match.specs.Matching.{IsAssignment, NoAssignment, IsObstruction}

-- an assignment, or an obstruction if there is none
abbrev pub Decides : List ℕ → List ℕ → Verdict → Type 0
Decides masks left (Given chosen) = IsAssignment masks left chosen.items
Decides masks left (Blocked cards ids) =
    IsObstruction masks left cards ids × NoAssignment masks left
