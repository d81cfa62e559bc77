-- What a source in memory gives.
use Rattle.std.proofs.Common.{◌≡◌, ℕ, ◌+◌, ◌-◌, ◌<◌, ◌++◌, min, List, [], length, take, drop, refl, arith, length-take, length-append, length-drop}
use Rattle.std.proofs.lemmas.List.{take_rest, take_at, take-append-drop, drop-drop}
use Rattle.std.proofs.Math.ListN.{drop_of_length-le}

-- a buffer that got the next n bytes, as many as are left, a piece has and the buffer holds
pub read_front : (bytes copied buf : List ℕ) (at piece_len n : ℕ) → 0 < piece_len
    → n ≡ min (min (length (take (length bytes - at) (drop at bytes))) piece_len) (length buf)
    → copied ≡ take n (take (length bytes - at) (drop at bytes))
    → (drop at bytes ≡ take n (copied ++ drop n buf) ++ drop (at + n) bytes)
    × (n ≡ 0 → 0 < length (copied ++ drop n buf) → drop (at + n) bytes ≡ [])
read_front bytes copied buf at piece_len n some count same =
    let least = rw take_rest at count in
    let front = rw take_rest at same in
    let long : length copied ≡ n = rw front (omega (arith, length-take {A = ℕ})) in (
      rw (take_at copied (drop n buf) n long, front, ← drop-drop n at bytes, take-append-drop n (drop at bytes)) refl,
      λ none room. drop_of_length-le bytes (omega (arith, length-append {A = ℕ}, length-drop {A = ℕ})),
    )
