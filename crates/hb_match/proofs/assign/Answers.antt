use Rattle.std.proofs.Common.{ℕ, ◌<◌, List, length, slice_index, arith, ap, ◌∙◌, subst}
use Rattle.hb_sets.specs.Sets.{Has}
use Rattle.hb_match.specs.Matching.{uses, IsObstruction}
use Rattle.hb_match.specs.Placing.{Gathers}
use Rattle.hb_match.proofs.Uses.{uses-nil}
use Rattle.hb_match.proofs.Hall.{gathers-blocked, obstruction-excludes}
use Rattle.hb_match.proofs.assign.Goals as goal

pub loop-init : goal.loop-init
loop-init c = record {
  so_far = ap length c.new-chosen.ensures;
  holds = λ k h. absurd (omega (arith, ap length c.new-chosen.ensures));
  over = λ id. omega (arith, ap (λ xs. uses xs id) c.new-chosen.ensures, uses-nil id);
  spare = c.with_copies-spare.ensures;
}

pub returns-in-Err : goal.returns-in-Err
returns-in-Err c =
    let masks : List ℕ = c.args.masks.now in
    let left : List ℕ = c.args.left.now in
    let chosen : List ℕ = c.loop.chosen.items in
    let cards : ℕ = c.obstruction-cards.result.0 in
    let ids : ℕ = c.obstruction-cards.result.1 in
    let same = c.as_slice.ensures.value ∙ c.in-Err.ensures.0 in
    let gathers : Gathers masks chosen c.in-Err.closed (length chosen) cards ids =
    let P : List ℕ → Type 0 = λ xs. Gathers masks xs c.in-Err.closed (length xs) cards ids in subst P same c.obstruction-cards.ensures in
    let spare : (id : ℕ) → uses chosen id < slice_index left id → Has c.loop.spare id =
    λ id lt. (c.loop.invariant.spare id).1 (omega (arith, c.loop.invariant.over id)) in
    let obstruction : IsObstruction masks left cards ids =
    gathers-blocked masks left chosen c.loop.spare c.in-Err.closed cards ids
    (omega (arith, c.loop.invariant.so_far)) spare c.in-Err.ensures.1 gathers in
    (obstruction, obstruction-excludes masks left cards ids obstruction)
