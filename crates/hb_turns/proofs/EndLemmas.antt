-- The end that a table says is that of the acts.
use Rattle.std.proofs.Common.{◌-◌, ◌≡◌, ℕ, ◌+◌, ◌*◌, ◌<◌, ◌≤◌, Bool, List, refl, ap, arith, zero, suc}
use Rattle.std.specs.Prelude.{◌==◌, ◌||◌, nat_le, slice_index}
use Rattle.std.specs.List.{list_all, range_with_len}
use Rattle.hb_rules.specs.declared.acts.Act.{Act}
use Rattle.hb_rules.specs.declared.suits.Identity.{Identity}
use Rattle.hb_rules.specs.declared.setups.Setup.{Setup}
use Rattle.hb_rules.specs.Cards.{copies, suit_count}
use Rattle.hb_rules.specs.Result.{height, is_stuck, ended}
use Rattle.hb_rules.proofs.Heights.{height-le}
use Rattle.hb_turns.specs.GameInvariant.{IsFair, IsTable}
use Rattle.hb_turns.specs.TableSteps.{table_end, is_stuck as is_stuck_on}
use Rattle.hb_turns.proofs.Fair.{rank-le}
use Rattle.hb_turns.specs.declared.table.Table.{Table}
use Rattle.hb_rules.proofs.SuitCount.{suit_count-few}

-- two tests that agree below a bound
list_all-same : (p q : ℕ → Bool) (a n bound : ℕ) → a + n ≤ bound → ((k : ℕ) → k < bound → p k ≡ q k)
    → list_all p (range_with_len a n) ≡ list_all q (range_with_len a n)
list_all-same p q a zero bound low same = refl
list_all-same p q a (suc n) bound low same =
    let here : p a ≡ q a = same a (omega arith) in
    let ih : list_all p (range_with_len (a + 1) n) ≡ list_all q (range_with_len (a + 1) n) =
    list_all-same p q (a + 1) n bound (omega arith) same in
    rw (here, ih) refl

stuck-same : (h h' : ℕ) (x y : Bool) → h ≡ h' → h' ≤ 5 → (h' < 5 → x ≡ y) → (nat_le 5 h || x) ≡ (h' == 5 || y)
stuck-same h h' x y e low is = grind (arith, is)

-- a suit is stuck by the table where it is by the acts
stuck-is : (g : Setup) (past : List Act) (t : Table) → IsFair g → IsTable g past t → (s : ℕ) → s < 6 → is_stuck_on g t s ≡ is_stuck g past s
stuck-is g past t fair kept s low =
    let e : slice_index t.stacks s ≡ height g past s = kept.stacks s low in
    let most : height g past s ≤ 5 = height-le g 5 (rank-le g fair) past s in
    let next : Identity = record { suit = s; rank = height g past s + 1 } in
    let index : s * 5 + (height g past s + 1 - 1) ≡ s * 5 + height g past s = omega arith in
    rw (e, index) (stuck-same (height g past s) (height g past s) _ _ refl most
    (λ few. ap (λ n. n == copies g.variant (record { suit = s; rank = height g past s + 1 })) (kept.lost s (height g past s) low few)))

-- the end of the table is that of the acts
pub end-is : (g : Setup) (past : List Act) (t : Table) → IsFair g → IsTable g past t → table_end g t ≡ ended g past
unfolding ended
end-is g past t fair kept =
    let stuck : list_all (is_stuck_on g t) (range_with_len 0 (suit_count g.variant))
    ≡ list_all (is_stuck g past) (range_with_len 0 (suit_count g.variant)) =
    list_all-same (is_stuck_on g t) (is_stuck g past) 0 (suit_count g.variant) 6
    (omega (arith, suit_count-few g.variant)) (λ s low. stuck-is g past t fair kept s low) in
    rw (kept.called, kept.strikes, kept.emptied, kept.turns, stuck) refl
