-- What has a link in memory given after one more receive?
use Rattle.std.proofs.Common.{◌≡◌, ℕ, ◌+◌, ◌<◌, List, [], ◌∷◌, ◌++◌, length, take, get_or, refl, ap, append-nil}
use Rattle.std.proofs.lemmas.List.{take_more}
use Rattle.hb_io.specs.declared.got.Got.{Got}
use Rattle.hb_edge.specs.Talk.{Talk}

-- the talk of a link that gave and was sent this
abbrev pub talk_of : List (List ℕ) → List Got → Talk
talk_of sent gave = record { gave = gave; sent = sent }

-- one more of a list
take-one_more : (gots : List Got) (i : ℕ) (got : Got) → i < length gots → got ≡ get_or gots i got
    → take (i + 1) gots ++ [] ≡ (take i gots ++ []) ++ got ∷ []
take-one_more gots i got here same =
    rw (append-nil (take (i + 1) gots), append-nil (take i gots), take_more gots i got here, ← same) refl

-- the talk of a link that gives the next of its list, before it has answered Closed behind that
pub talk_of-one_more : (gots : List Got) (i : ℕ) (got : Got) (sent : List (List ℕ)) → i < length gots
    → got ≡ get_or gots i got
    → talk_of sent (take (i + 1) gots ++ []) ≡ talk_of sent ((take i gots ++ []) ++ got ∷ [])
talk_of-one_more gots i got sent here same = ap (talk_of sent) (take-one_more gots i got here same)
