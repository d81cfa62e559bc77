-- The orders in each hand, as bits, after a card leaves a hand and the next one comes into it.
use Rattle.std.proofs.Common.{◌≡◌, ◌≢◌, ℕ, ◌+◌, ◌%◌, ◌^◌, ◌<◌, ⊎_elim, max, Bool, true, false, List, sym, ◌∙◌, arith, length, Some, None, Option}
use Rattle.std.specs.Prelude.{◌==◌, ◌&&◌, if◌then◌else◌, slice_index, slice_set}
use Rattle.std.specs.Int.Bits.{bit_xor}
use Rattle.std.proofs.lemmas.Bool.{cases_eq}
use Rattle.std.proofs.lemmas.List.{get_or-set_same, get_or-set_other}
use Rattle.std.proofs.lemmas.Nat.Bits.{bit_at_xor, bit_at-pow_same, bit_at-pow_other}
use Rattle.hb_rules.specs.declared.acts.Act.{Act}
use Rattle.hb_rules.specs.declared.setups.Setup.{Setup}
use Rattle.hb_rules.specs.Hands.{holder, is_at}
use Rattle.hb_sets.specs.Sets.{bit}
use Rattle.hb_sets.proofs.Bits.{bit-or, bit-lt}
use Rattle.hb_turns.specs.TableSteps.{moved_hand}

-- the bits of the words of either
pub bit-xor : (a b k : ℕ) → bit (bit_xor a b) k ≡ (bit a k + bit b k) % 2
unfolding bit
bit-xor a b k = bit_at_xor a b k

bit-power : (order k : ℕ) → bit (2 ^ order) k ≡ (if order == k then 1 else 0)
unfolding bit
bit-power order k = ⊎_elim
    (λ (e : order ≡ k). rw (sym e) (rw bit_at-pow_same (grind arith)))
    (λ (ne : order ≢ k). let other : k ≢ order = λ e. ne (sym e) in rw (bit_at-pow_other order k other) (grind arith))
    (cases_eq order k)

moved-bit : (a x y order next k : ℕ) (draws : Bool) → a < 2 → (order ≡ k → a ≡ 1)
    → x ≡ (if order == k then 1 else 0) → y ≡ (if next == k then 1 else 0) → (draws ≡ true → order ≢ next)
    → ((if draws then max ((a + x) % 2) y else (a + x) % 2) == 1)
    ≡ (if order == k then false else (if draws && next == k then true else a == 1))
moved-bit a x y order next k true low has ex ey other = grind (arith, other)
moved-bit a x y order next k false low has ex ey other = grind arith

-- the orders of a hand that has changed
moved_hand-bit : (hand order next k : ℕ) (draws : Bool) → bit hand order ≡ 1 → (draws ≡ true → order ≢ next)
    → (bit (moved_hand hand order next draws) k == 1)
    ≡ (if order == k then false else (if draws && next == k then true else bit hand k == 1))
moved_hand-bit hand order next k true has other =
    rw (bit-or, bit-xor)
    (moved-bit (bit hand k) (bit (2 ^ order) k) (bit (2 ^ next) k) order next k true (bit-lt hand k)
    (λ e. rw (← e) has) (bit-power order k) (bit-power next k) other)
moved_hand-bit hand order next k false has other =
    rw bit-xor
    (moved-bit (bit hand k) (bit (2 ^ order) k) (bit (2 ^ next) k) order next k false (bit-lt hand k)
    (λ e. rw (← e) has) (bit-power order k) (bit-power next k) other)

same-seat : (order next k who : ℕ) (draws had : Bool) (o : Option ℕ) → had ≡ is_at o who
    → (if order == k then false else (if draws && next == k then true else had))
    ≡ is_at (if order == k then None else (if (if draws then next == k else false) then Some who else o)) who
same-seat order next k who true had o is = grind arith
same-seat order next k who false had o is = grind arith

other-seat : (order next k who s : ℕ) (draws had : Bool) (o : Option ℕ) → s ≢ who → had ≡ is_at o s
    → (order ≡ k → o ≡ Some who) → (draws ≡ true → next ≡ k → o ≡ None)
    → had ≡ is_at (if order == k then None else (if (if draws then next == k else false) then Some who else o)) s
other-seat order next k who s true had o other is held free = grind (arith, held, free)
other-seat order next k who s false had o other is held free = grind (arith, held, free)

-- the hands after a turn in which an order leaves a hand
pub hands-more : (hands : List ℕ) (g : Setup) (past : List Act) (who order next s k : ℕ) (draws : Bool) → length hands ≡ 6 → who < 6
    → holder g past order ≡ Some who → (draws ≡ true → holder g past next ≡ None)
    → ((s k : ℕ) → s < 6 → (bit (slice_index hands s) k == 1) ≡ is_at (holder g past k) s) → s < 6
    → (bit (slice_index (slice_set hands who (moved_hand (slice_index hands who) order next draws)) s) k == 1)
    ≡ is_at (if order == k then None else (if (if draws then next == k else false) then Some who else holder g past k)) s
hands-more hands g past who order next s k draws long who_low held free before low = let inside : who < length hands = omega arith in ⊎_elim
    (λ (e : s ≡ who). rw e (rw get_or-set_same (
    moved_hand-bit (slice_index hands who) order next k draws has other
    ∙ same-seat order next k who draws (bit (slice_index hands who) k == 1) (holder g past k)
    (before who k who_low))))
    (λ (ne : s ≢ who). rw get_or-set_other (
    other-seat order next k who s draws (bit (slice_index hands s) k == 1) (holder g past k) ne (before s k low)
    (λ e. rw (← e) held) (λ d e. rw (← e) (free d))))
    (cases_eq s who)
  where
    has : bit (slice_index hands who) order ≡ 1
    has = let b : (bit (slice_index hands who) order == 1) ≡ is_at (holder g past order) who = before who order who_low in
        let h : holder g past order ≡ Some who = held in grind arith

    other : draws ≡ true → order ≢ next
    other d e = let n : holder g past next ≡ None = free d in
        let h : holder g past next ≡ Some who = rw (← e) held in cc
