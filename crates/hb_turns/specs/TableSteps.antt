-- Internal: no public clause cites this.
-- How does each act change the table that a game keeps, and which end has a table come to?
use Rattle.std.specs.Prelude.{◌≡◌, ℕ, ◌+◌, ◌-◌, ◌<◌, ◌≤◌, ◌^◌, Bool, true, ◌==◌, ◌&&◌, ◌||◌, List, Option, Some, None, length, slice_index, slice_set, if◌then◌else◌, nat_lt, nat_le, bit_or}
use Rattle.std.specs.Int.Bits.{bit_xor}
use Rattle.std.specs.Option.{option_or}
use Rattle.std.specs.List.{list_any, list_all, range_with_len}
use Rattle.hb_rules.specs.declared.acts.EndHow.{EndHow}
use Rattle.hb_rules.specs.declared.acts.EndHow.TheVariants.{Normal, Strikeout}
use Rattle.hb_rules.specs.declared.suits.Identity.{Identity}
use Rattle.hb_rules.specs.declared.limits.TheConstants.{FULL_TOKENS, HIGHEST_RANK, MOST_CARDS, STRIKES_TO_LOSE}
use Rattle.hb_rules.specs.declared.setups.Setup.{Setup}
use Rattle.hb_rules.specs.Cards.{number, copies, in_range, suit_count}
use Rattle.hb_rules.specs.Setup.{card, deal_size}
use Rattle.hb_rules.specs.Result.{is_last_round_over}
use Rattle.hb_rules.specs.Marks.{same}
use Rattle.hb_sets.specs.Sets.{bit}
use Rattle.hb_turns.specs.declared.table.Table.{Table}

-- the counts of a table are below this, which is far from the end of their type
abbrev pub count_limit : ℕ
count_limit = 200

-- no count is near the end of its type
pub record HasRoom (t : Table) : Type 0 where
  pub removed : t.removed < count_limit
  pub turns : t.turns < count_limit
  pub tokens : t.tokens < count_limit
  pub strikes : t.strikes < count_limit
  pub stacks : (s : ℕ) → slice_index t.stacks s < count_limit
  pub lost : (n : ℕ) → slice_index t.lost n < count_limit
  pub gone : (n : ℕ) → slice_index t.gone n < count_limit

-- the order is one of the deck's, and its card an identity of some variant
pub record IsCard (g : Setup) (order : ℕ) : Type 0 where
  pub long : length g.deck.items ≤ MOST_CARDS
  pub below : order < length g.deck.items
  pub id : in_range (card g order) ≡ true

-- the order is in the list
abbrev pub is_among : List ℕ → ℕ → Bool
is_among orders k = list_any (λ order. order == k) orders

-- the identity with a number is one of all, and touched as the card with an order is
abbrev pub is_alike : Setup → ℕ → ℕ → ℕ → ℕ → Bool
is_alike g all touched k n =
    (bit all n == 1) && same (bit touched (number (card g k)) == 1) (bit touched n == 1)

-- the marks after a clue to a seat with this hand: each of its cards keeps the identities that the
-- clue tells alike with it
pub record IsNarrowed (g : Setup) (hand : List ℕ) (all touched : ℕ)
    (old new : List ℕ) : Type 0 where
  pub long : length new ≡ length old
  pub bits : (k n : ℕ) → (bit (slice_index new k) n == 1)
      ≡ ((bit (slice_index old k) n == 1)
      && (if is_among hand k then is_alike g all touched k n else true))

-- one more card of an identity
abbrev pub one_more : List ℕ → Identity → List ℕ
one_more counts id = slice_set counts (number id) (slice_index counts (number id) + 1)

-- the card is the next of its suit
abbrev pub is_next : Table → Identity → Bool
is_next t id = id.rank == slice_index t.stacks id.suit + 1

-- a card goes on its stack
abbrev pub stacked : Table → Identity → Table
stacked t id = record t {
  stacks = slice_set t.stacks id.suit (slice_index t.stacks id.suit + 1);
  tokens = if id.rank == HIGHEST_RANK && nat_lt t.tokens FULL_TOKENS then t.tokens + 1
      else t.tokens;
}

-- a card goes to the discards
abbrev pub lost_card : Table → Identity → Table
lost_card t id = record t { lost = one_more t.lost id }

-- a hand, as bits by order, without one of its orders, and with the next one if it is drawn
abbrev pub moved_hand : ℕ → ℕ → ℕ → Bool → ℕ
moved_hand hand order next draws = let kept = bit_xor hand (2 ^ order) in
    if draws then bit_or kept (2 ^ next) else kept

-- a turn in which a card leaves a hand, and the next one comes into it while the deck has one
abbrev pub moved : Setup → Table → ℕ → ℕ → Table
moved g t who order = let next = deal_size g + t.removed in record t {
  holders = slice_set (if nat_lt next (length g.deck.items) then slice_set t.holders next (Some who)
      else t.holders) order None;
  hands = slice_set t.hands who
      (moved_hand (slice_index t.hands who) order next (nat_lt next (length g.deck.items)));
  gone = one_more t.gone (card g order);
  removed = t.removed + 1;
  turns = t.turns + 1;
  emptied = if next + 1 == length g.deck.items then Some (t.turns + 1) else t.emptied;
}

-- a card is played
abbrev pub play_table : Setup → Table → ℕ → ℕ → Table
play_table g t who order = moved g (if is_next t (card g order) then stacked t (card g order)
    else record (lost_card t (card g order)) { strikes = t.strikes + 1 }) who order

-- a card is discarded
abbrev pub discard_table : Setup → Table → ℕ → ℕ → Table
discard_table g t who order =
    moved g (record (lost_card t (card g order)) { tokens = t.tokens + 1 }) who order

-- a clue is given, except for the marks
abbrev pub clue_table : Table → Table
clue_table t = record t { tokens = t.tokens - 1; turns = t.turns + 1 }

-- the suit is complete, or all copies of its next card are on the discards
abbrev pub is_stuck : Setup → Table → ℕ → Bool
is_stuck g t suit = let height = slice_index t.stacks suit in
    let next : Identity = record { suit = suit; rank = height + 1 } in
    nat_le HIGHEST_RANK height || slice_index t.lost (number next) == copies g.variant next

-- the end that the game has come to
abbrev pub table_end : Setup → Table → Option EndHow
table_end g t = option_or t.called (if t.strikes == STRIKES_TO_LOSE then Some Strikeout
    else (if is_last_round_over g t.emptied t.turns
    || list_all (is_stuck g t) (range_with_len 0 (suit_count g.variant)) then Some Normal
    else None))
