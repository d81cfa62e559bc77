-- Which seats hold cards.
use Rattle.std.proofs.Common.{zero, suc, ◌≡◌, ℕ, ◌*◌, ◌/◌, ◌<◌, ◌≤◌, Bool, true, false, List, [], ◌∷◌, arith, Some, None, Option}
use Rattle.std.specs.Prelude.{◌==◌, nat_lt, if◌then◌else◌}
use Rattle.std.proofs.Math.Nat.{div-lt_iff_lt-mul}
use Rattle.hb_sets.specs.Sets.{bit}
use Rattle.hb_sets.proofs.Bits.{bit-zero}
use Rattle.hb_rules.specs.declared.acts.Act.{Act}
use Rattle.hb_rules.specs.declared.acts.Action.{Action}
use Rattle.hb_rules.specs.declared.acts.Action.TheVariants as action
use Rattle.hb_rules.specs.declared.setups.Setup.{Setup}
use Rattle.hb_rules.specs.Setup.{hand_size}
use Rattle.hb_rules.specs.Hands.{receiver, holder, is_at}
use Rattle.hb_rules.specs.Result.{current}
use Rattle.hb_rules.specs.Legality.{Legal, rule}
use Rattle.hb_rules.proofs.Rules.{may_play, may_discard}
use Rattle.hb_turns.specs.GameInvariant.{IsFair}

-- the seat whose turn it is, is one
pub current-lt : (g : Setup) (past : List Act) (who : ℕ) → 2 ≤ g.players → (who == current g past) ≡ true → who < g.players
current-lt g past who two turn = let e : who ≡ current g past = grind arith in omega arith

-- a quotient by the size of a hand
pub dealt-seat : (n h k : ℕ) → k < n * h → k / h < n
dealt-seat n zero k low = absurd (omega arith)
dealt-seat n (suc h) k low = (div-lt_iff_lt-mul (omega arith)).1 low

dealt-low : (n h k s : ℕ) → is_at (if nat_lt k (n * h) then Some (k / h) else None) s ≡ true → s < n
dealt-low n h k s here =
    let low : k < n * h = grind arith in
    let is : k / h ≡ s = grind arith in
    let d : k / h < n = dealt-seat n h k low in omega arith

joined-low : (n who k s : ℕ) (b : Bool) (o : Option ℕ) → who < n → (is_at o s ≡ true → s < n)
    → is_at (if b then Some who else o) s ≡ true → s < n
joined-low n who k s true o low before here = let e : who ≡ s = grind arith in omega arith
joined-low n who k s false o low before here = before here

-- who was dealt or drew an order is a seat
receiver-lt : (g : Setup) (past : List Act) → 2 ≤ g.players → Legal g past → (k s : ℕ) → is_at (receiver g past k) s ≡ true → s < g.players
receiver-lt g [] two legal k s here = dealt-low g.players (hand_size g) k s here
receiver-lt g (act ∷ past) two legal k s here = step act.action legal.0 (receiver-lt g past two legal.1 k s) here
  where
    step : (a : Action) → rule g past (record { who = act.who; action = a }) ≡ None → (is_at (receiver g past k) s ≡ true → s < g.players)
        → is_at (receiver g (record { who = act.who; action = a } ∷ past) k) s ≡ true → s < g.players
    step (action.Play order) may ih now =
        joined-low g.players act.who k s _ (receiver g past k)
        (current-lt g past act.who two (may_play g past act.who order may).turn) ih now
    step (action.Discard order) may ih now =
        joined-low g.players act.who k s _ (receiver g past k)
        (current-lt g past act.who two (may_discard g past act.who order may).turn) ih now
    step (action.Clue to clue) may ih now = ih now
    step (action.End how) may ih now = ih now

-- who holds an order is a seat
pub holder-lt : (g : Setup) (past : List Act) → 2 ≤ g.players → Legal g past → (k s : ℕ) → is_at (holder g past k) s ≡ true → s < g.players
holder-lt g past two legal k s here =
    let r : is_at (receiver g past k) s ≡ true → s < g.players = receiver-lt g past two legal k s in
    grind (arith, r)

-- nobody past the last seat holds an order
pub holder-none : (g : Setup) (past : List Act) → IsFair g → Legal g past → (k s : ℕ) → 6 ≤ s → is_at (holder g past k) s ≡ false
holder-none g past fair legal k s far = let r : is_at (holder g past k) s ≡ true → s < g.players = holder-lt g past fair.two legal k s in
    let six : g.players ≤ 6 = fair.six in grind (arith, r)

-- and so the empty set is what such a seat holds
pub bit-holder_none : (g : Setup) (past : List Act) → IsFair g → Legal g past → (s : ℕ) → 6 ≤ s → (k : ℕ)
    → (bit 0 k == 1) ≡ is_at (holder g past k) s
bit-holder_none g past fair legal s far k =
    let none : is_at (holder g past k) s ≡ false = holder-none g past fair legal k s far in
    let zeros : bit 0 k ≡ 0 = bit-zero k in rw (none, zeros) (grind arith)
