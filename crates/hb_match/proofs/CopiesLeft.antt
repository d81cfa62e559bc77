-- Copies that are left: a chosen identity has some, and the loop of `left_over` takes the chosen ones away.
use Rattle.std.proofs.Common.{◌≡◌, ◌≢◌, ℕ, ◌+◌, ◌-◌, ◌<◌, ⊎_elim, List, length, get_or, set, take, get_or-set_same, get_or-set_other, sym, arith}
use Rattle.std.proofs.lemmas.Bool.{cases_eq, cases_lt}
use Rattle.std.proofs.lemmas.List.{get_or_past}
use Rattle.hb_match.specs.Matching.{IsEnough}
use Rattle.hb_match.specs.Placing.{one, IsLeftOver}
use Rattle.hb_match.proofs.Uses.{uses-has, uses-take_more, uses-take-le, one-same, one-other}

-- a chosen identity is one of those that copies are counted for
pub chosen-lt : (left chosen : List ℕ) (k : ℕ) → IsEnough left chosen → k < length chosen → get_or chosen k 0 < length left
chosen-lt left chosen k enough h = ⊎_elim (λ l. l)
    (λ past. absurd (omega (arith, uses-has chosen k h, enough (get_or chosen k 0), get_or_past left (get_or chosen k 0) 0 past)))
    (cases_lt (get_or chosen k 0) (length left))

-- of an identity that is still to be taken away, a copy is there
pub over-pos : (left chosen over : List ℕ) (k : ℕ) → IsEnough left chosen → IsLeftOver left (take k chosen) over → k < length chosen
    → 0 < get_or over (get_or chosen k 0) 0
over-pos left chosen over k enough is h =
    let id : ℕ = get_or chosen k 0 in
    omega (arith, is id, enough id, uses-take_more chosen k id h, uses-take-le chosen (k + 1) id, one-same id)

-- one copy of an identity is taken
pub copy_taken : (over : List ℕ) (taken : ℕ) → 0 < get_or over taken 0
    → (id : ℕ) → get_or (set over taken (get_or over taken 0 - 1)) id 0 + one taken id ≡ get_or over id 0
copy_taken over taken some id =
    let within : taken < length over =
    ⊎_elim (λ l. l) (λ past. absurd (omega (arith, get_or_past over taken 0 past)))
    (cases_lt taken (length over)) in
    ⊎_elim
    (λ (e : id ≡ taken). rw e (rw get_or-set_same (omega (arith, one-same taken))))
    (λ (ne : id ≢ taken). rw get_or-set_other (omega (arith, one-other taken id (λ e. ne (sym e)))))
    (cases_eq id taken)

-- one more chosen card takes one copy of its identity
pub over_less : (left chosen over : List ℕ) (k : ℕ) → IsEnough left chosen → IsLeftOver left (take k chosen) over → k < length chosen
    → IsLeftOver left (take (k + 1) chosen) (set over (get_or chosen k 0) (get_or over (get_or chosen k 0) 0 - 1))
over_less left chosen over k enough is h id =
    let taken : ℕ = get_or chosen k 0 in
    omega (
      arith,
      is id,
      uses-take_more chosen k id h,
      copy_taken over taken (over-pos left chosen over k enough is h) id,
    )
