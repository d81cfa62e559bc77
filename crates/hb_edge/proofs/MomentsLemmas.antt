-- What does a clock in memory answer next?
use Rattle.std.proofs.Common.{◌≡◌, ℕ, suc, ◌+◌, ◌<◌, List, [], ◌∷◌, length, drop, get_or, refl, arith}
use Rattle.std.proofs.lemmas.List.{drop_more}
use Rattle.hb_edge.specs.Memory.{moment_at}

-- the first answer is the front of what is left
moment_at-front : (moment : ℕ) (later : List ℕ) → moment_at (moment ∷ later) 0 ≡ moment
moment_at-front moment [] = refl
moment_at-front moment (next ∷ later) = refl

-- with one more moment behind it, a clock answers its moment and goes on to the next
pub moments-go_on : (moments : List ℕ) (i answer : ℕ) → i + 1 < length moments → answer ≡ get_or moments i answer
    → (answer ≡ moment_at (drop i moments) 0)
    × ((k : ℕ) → moment_at (drop (i + 1) moments) k ≡ moment_at (drop i moments) (suc k))
moments-go_on moments i answer more same =
    let here : drop i moments ≡ get_or moments i answer ∷ drop (i + 1) moments = drop_more moments i answer (omega arith) in
    let next : drop (i + 1) moments ≡ get_or moments (i + 1) 0 ∷ drop (i + 1 + 1) moments = drop_more moments (i + 1) 0 more in (
      rw (here, moment_at-front (get_or moments i answer) (drop (i + 1) moments)) same,
      λ k. rw (here, next) refl,
    )
