-- A game before its first act.
use Rattle.std.proofs.Common.{ap, ◌∙◌, ◌≡◌, ℕ, ◌+◌, ◌<◌, ◌≤◌, Bool, true, List, refl, arith, length, Some, None, Option, zero, suc, replicate, reverse}
use Rattle.std.specs.Bool.{then_some}
use Rattle.std.specs.Prelude.{◌-◌, ◌==◌, slice_index, slice_index_or, nat_lt, nat_le, ◌&&◌, if◌then◌else◌}
use Rattle.hb_rules.specs.declared.suits.Identity.{Identity}
use Rattle.hb_rules.specs.declared.setups.Setup.{Setup}
use Rattle.hb_rules.specs.Setup.{card}
use Rattle.hb_rules.specs.declared.acts.Act.{Act}
use Rattle.hb_rules.specs.declared.acts.EndHow.{EndHow}
use Rattle.hb_turns.specs.declared.masks.ClueMasks.{ClueMasks}
use Rattle.hb_turns.specs.declared.table.Table.{Table}
use Rattle.hb_rules.specs.Start.{CanStart}
use Rattle.hb_rules.proofs.DeckSize.{deck-few, deck-many, deal-few, deck-card}
use Rattle.hb_sets.specs.Sets.{bit}
use Rattle.hb_sets.proofs.Bits.{bit-zero}
use Rattle.hb_rules.specs.Hands.{is_at}
use Rattle.hb_turns.specs.Dealt.{dealt_to}
use Rattle.hb_turns.specs.GameInvariant.{IsFair, IsGame}

get_or-replicate_none : (n k : ℕ) → slice_index_or {A = Option ℕ} (replicate n None) k None ≡ None
get_or-replicate_none zero k = refl
get_or-replicate_none (suc n) zero = refl
get_or-replicate_none (suc n) (suc k) = get_or-replicate_none n k

-- nothing is dealt at first
pub none-dealt : (n k x : ℕ) → slice_index_or {A = Option ℕ} (replicate n None) k None ≡ (if nat_lt k 0 then Some x else None)
none-dealt n k x = let e : slice_index_or {A = Option ℕ} (replicate n None) k None ≡ None = get_or-replicate_none n k in grind (arith, e)

-- each place of a list of zeros
pub slice_index-replicate : (n k : ℕ) → slice_index (replicate n 0) k ≡ 0
slice_index-replicate zero k = refl
slice_index-replicate (suc n) zero = refl
slice_index-replicate (suc n) (suc k) = slice_index-replicate n k

-- at first no seat holds anything
pub none-held : (g : Setup) (s k : ℕ) → (bit (slice_index (replicate 6 0) s) k == 1) ≡ is_at (dealt_to g 0 k) s
none-held g s k = let e : bit 0 k ≡ 0 = bit-zero k in rw slice_index-replicate (grind arith)

-- each place of a list of one number
pub same-all : (w n k : ℕ) → k < n → slice_index (replicate n w) k ≡ w
same-all w zero k low = absurd (omega arith)
same-all w (suc n) zero low = refl
same-all w (suc n) (suc k) low = same-all w n k (omega arith)

-- before any clue each card may be any identity of the variant
pub all-marked : (w : ℕ) (has : ℕ → Bool) → ((n : ℕ) → (bit w n == 1) ≡ has n) → (k n : ℕ) → k < 60
    → (bit (slice_index (replicate 60 w) k) n == 1) ≡ (has n && true)
all-marked w has is k n low =
    let e : (bit (slice_index (replicate 60 w) k) n == 1) ≡ has n =
    ap (λ x. bit x n == 1) (same-all w 60 k low) ∙ is n in
    grind (arith, e)

-- a deal of all cards empties the deck
pub start-emptied : (count dealt : ℕ) → then_some {T = ℕ} (nat_le count dealt) 0 ≡ (if count - (dealt + 0) == 0 then Some 0 else None)
start-emptied count dealt = grind arith

in-range-parts : (id : Identity) → (nat_lt id.suit 6 && nat_le 1 id.rank && nat_lt id.rank 6) ≡ true
    → (id.suit < 6) × (1 ≤ id.rank) × (id.rank < 6)
in-range-parts id ok = (grind arith, grind arith, grind arith)

-- what a game may start with is fair
pub fair-start : (g : Setup) → CanStart g.variant g.options g.players g.deck.items → IsFair g
fair-start g can =
    let players = can.players in
    let options = can.options in
    let in_range : (k : ℕ) → k < length g.deck.items → ((card g k).suit < 6) × (1 ≤ (card g k).rank) × ((card g k).rank < 6) =
    λ k low. in-range-parts (card g k) (deck-card g.variant g.deck.items can.full k (record { suit = 0; rank = 0 }) low) in
    record {
      can = can;
      full = can.full;
      two = grind arith;
      six = grind arith;
      long = deck-few g.variant g.deck.items can.full;
      dealt = omega (arith, deal-few g can.players can.options, deck-many g.variant g.deck.items can.full);
      seat = grind arith;
      suits = λ k low. (in_range k low).0;
      ranks = λ k low. ((in_range k low).1, (in_range k low).2);
    }

-- a copy keeps what the game keeps
pub same-kept : (g h : Setup) (items copy : List Act) (t : Table) (masks : ClueMasks) (end : Option EndHow)
    → h ≡ g → copy ≡ items → IsGame g (reverse items) t masks end → IsGame h (reverse copy) t masks end
same-kept g h items copy t masks end e f kept = rw (e, f) kept
