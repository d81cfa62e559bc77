-- A card that is placed at once, and a card that moves on.
use Rattle.std.proofs.Common.{◌≡◌, ◌≢◌, ℕ, ◌<◌, List, [], ◌∷◌, ◌++◌, length, slice_index, slice_set, get_or-set_other, sym, ◌∙◌, ap, subst, drop, ◌≤◌, arith}
use Rattle.std.proofs.lemmas.Grind.{common_steps}
use Rattle.std.proofs.lemmas.List.{take-append-le, take_all}
use Rattle.std.proofs.Math.ListN.{length-set}
use Rattle.std.specs.List.{refill}
use Rattle.hb_sets.specs.Sets.{bit, Has}
use Rattle.hb_match.specs.Placing.{one, Holds, CanMove, Places}
use Rattle.hb_match.proofs.Uses.{uses-push, uses-set}

-- a card is placed at once where a copy that it can have is free
pub placed_now : (masks old : List ℕ) (free id : ℕ) → Holds masks old
    → Has (slice_index masks (length old)) id → Has free id → id < 64 → Places masks old (old ++ id ∷ []) free id
placed_now masks old free id holds in_mask inside small = record {
  longer = grind (arith, common_steps);
  holds = λ k h. grind (arith, common_steps, holds k);
  inside = inside;
  small = small;
  stays = λ k h p. grind (arith, common_steps);
  same_uses = λ j. uses-push old id j;
}

-- `mid` placed `held` once more in a set that has it, and now the card that holds it moves to `to`
pub placed_moved : (masks old mid : List ℕ) (free wider card held to : ℕ) → CanMove masks old free card to
    → Places masks old mid wider held → held ≡ slice_index old card → Has wider held
    → ((j : ℕ) → j ≢ held → bit wider j ≡ bit free j) → Places masks old (slice_set mid card to) free to
placed_moved masks old mid free wider card held to can placed is put rest =
    let below : card < length mid = omega (arith, placed.longer, can.in_range) in
    let held_still : slice_index mid card ≡ held =
    placed.stays card can.in_range (let P : ℕ → Type 0 = λ x. Has wider x in subst P is put) ∙ sym is in
    let stays : (k : ℕ) → k < length old → Has free (slice_index old k) → slice_index (slice_set mid card to) k ≡ slice_index old k =
    λ k h p.
    let other : k ≢ card = λ e. can.outside (let P : ℕ → Type 0 = λ x. Has free (slice_index old x) in subst P e p) in
    let apart : slice_index old k ≢ held = λ e. can.outside (let P : ℕ → Type 0 = λ x. Has free x in subst P (e ∙ is) p) in
    let in_wider : Has wider (slice_index old k) = rest (slice_index old k) apart ∙ p in
    rw get_or-set_other (placed.stays k h in_wider) in
    record {
      longer = simp length-set (placed.longer);
      holds = λ k h. grind (arith, common_steps, placed.holds k, can.in_mask, can.small);
      inside = can.inside;
      small = can.small;
      stays = stays;
      same_uses = λ id. omega (arith, uses-set mid card to id below, placed.same_uses id, ap (λ x. one x id) held_still);
    }

-- a write to one place of a vector, as the code makes it
pub refill-set : (xs ys : List ℕ) (i v : ℕ) → ys ≡ xs → refill (length xs) xs (slice_set ys i v) ≡ slice_set xs i v
refill-set xs ys i v e = rw e (
    let same : length (slice_set xs i v) ≡ length xs = length-set xs i v in
    let all : length (slice_set xs i v) ≤ length xs = omega arith in
    let enough : length xs ≤ length (slice_set xs i v) = omega arith in
    rw (take-append-le (length xs) (slice_set xs i v) (drop (length (slice_set xs i v)) xs) enough)
    (take_all (length xs) (slice_set xs i v) all))
