-- What an act that breaks no rule needs, and what it leaves.
use Rattle.std.proofs.Common.{Bool, ◌≡◌, ℕ, ◌+◌, ◌<◌, ◌≤◌, List, [], ◌∷◌, ◌++◌, length, Option, Some, None, true, false, ◌∙◌, arith, reverse}
use Rattle.std.specs.Prelude.{All, is_some, nat_lt, nat_le, ◌&&◌, ◌==◌}
use Rattle.std.specs.List.{range_with_len}
use Rattle.std.proofs.lemmas.List.Elements.{All-filter, All-from_get_or}
use Rattle.std.proofs.lemmas.List.FromFn.{get_or-range_with_len, length-range_with_len}
use Rattle.std.proofs.lemmas.List.{reverse-append}
use Rattle.hb_rules.specs.declared.acts.Act.{Act}
use Rattle.hb_rules.specs.declared.acts.Action.{Action}
use Rattle.hb_rules.specs.declared.acts.Action.TheVariants as action
use Rattle.hb_rules.specs.declared.acts.Clue.{Clue}
use Rattle.hb_rules.specs.declared.acts.EndHow.{EndHow}
use Rattle.hb_rules.specs.declared.setups.Setup.{Setup}
use Rattle.hb_rules.specs.Setup.{card}
use Rattle.hb_rules.specs.Cards.{identity, has_number}
use Rattle.hb_rules.specs.Touch.{touches}
use Rattle.hb_rules.specs.declared.variants.Variant.{Variant}
use Rattle.hb_rules.specs.Hands.{holder, hand, is_at}
use Rattle.hb_rules.specs.Result.{ended, called}
use Rattle.hb_rules.specs.Legality.{rule, Legal}
use Rattle.hb_rules.proofs.Rules.{MayPlay, MayDiscard, may_play, may_discard, may_runs}
use Rattle.hb_sets.specs.Sets.{bit}
use Rattle.hb_sets.proofs.Bits.{bit-lt}
use Rattle.hb_turns.specs.declared.masks.ClueMasks.{ClueMasks}
use Rattle.hb_turns.specs.declared.table.Table.{Table}
use Rattle.hb_turns.specs.GameInvariant.{IsFair, IsTable, IsGame}
use Rattle.hb_turns.specs.ClueMasks.{AreClueMasks, IsMask}
use Rattle.hb_turns.specs.TableSteps.{HasRoom, IsCard, IsNarrowed, play_table, discard_table, clue_table, table_end}
use Rattle.hb_turns.proofs.Fair.{held-below}
use Rattle.hb_turns.proofs.SeatsLemmas.{current-lt}
use Rattle.hb_turns.proofs.EndLemmas.{end-is}
use Rattle.hb_turns.proofs.Bounds.{has-room, few-acts, not-called}
use Rattle.hb_turns.proofs.PlayTable.{table-play, table-discard}
use Rattle.hb_turns.proofs.ClueTable.{table-clue, table-end}
use Rattle.hb_rules.proofs.HandsLemmas.{is_at-true}

-- room for one more act and for one more of each count, and no end was called
pub record IsReady (past : List Act) (t : Table) : Type 0 where
  pub acts : length past < 160
  pub counts : HasRoom t
  pub uncalled : called past ≡ None

-- an act that breaks no rule finds the room that it needs
pub is-ready : (g : Setup) (past : List Act) (t : Table) (masks : ClueMasks) (end : Option EndHow) (who : ℕ)
    (act : Action)
    → IsGame g past t masks end → rule g past (record { who = who; action = act }) ≡ None → IsReady past t
is-ready g past t masks end who act game may =
    let runs : is_some (ended g past) ≡ false = may_runs g past who act may in
    let few : length past < 160 = few-acts g past game.fair game.legal runs in
    record { acts = few; counts = has-room g past t game.fair game.table (omega arith); uncalled = (not-called g past runs).0 }

in-range : (suit rank : ℕ) → suit < 6 → 1 ≤ rank → rank < 6 → (nat_lt suit 6 && nat_le 1 rank && nat_lt rank 6) ≡ true
in-range suit rank a b c = grind arith

-- an order of the deck
pub deck-order : (g : Setup) (order : ℕ) → IsFair g → order < length g.deck.items → IsCard g order
deck-order g order fair below =
    record {
      long = fair.long;
      below = below;
      id = in-range (card g order).suit (card g order).rank (fair.suits order below) (fair.ranks order below).0
          (fair.ranks order below).1;
    }

-- an order that a seat holds is a card of the deck
held-card : (g : Setup) (past : List Act) (who order : ℕ) → IsFair g → is_at (holder g past order) who ≡ true → IsCard g order
held-card g past who order fair held =
    let some : is_some (holder g past order) ≡ true = grind arith in
    let below : order < length g.deck.items = held-below g past order fair some in
    deck-order g order fair below

-- what is played or discarded is a card of the deck
pub play-card : (g : Setup) (past : List Act) (t : Table) (masks : ClueMasks) (end : Option EndHow)
    (who order : ℕ)
    → IsGame g past t masks end → rule g past (record { who = who; action = action.Play order }) ≡ None
    → IsCard g order
play-card g past t masks end who order game may = held-card g past who order game.fair (may_play g past who order may).held

-- what is discarded is a card of the deck
pub discard-card : (g : Setup) (past : List Act) (t : Table) (masks : ClueMasks) (end : Option EndHow)
    (who order : ℕ)
    → IsGame g past t masks end → rule g past (record { who = who; action = action.Discard order }) ≡ None
    → IsCard g order
discard-card g past t masks end who order game may = held-card g past who order game.fair (may_discard g past who order may).held

-- the seat that plays or discards has the order
pub play-takes : (g : Setup) (past : List Act) (who order : ℕ) → IsFair g
    → rule g past (record { who = who; action = action.Play order }) ≡ None
    → (who < 6) × (holder g past order ≡ Some who)
play-takes g past who order fair may = let m : MayPlay g past who order = may_play g past who order may in
    let low : who < g.players = current-lt g past who fair.two m.turn in
    (omega (arith, fair.six), is_at-true (holder g past order) who m.held)

-- the seat that discards has the order
pub discard-takes : (g : Setup) (past : List Act) (who order : ℕ) → IsFair g
    → rule g past (record { who = who; action = action.Discard order }) ≡ None
    → (who < 6) × (holder g past order ≡ Some who)
discard-takes g past who order fair may = let m : MayDiscard g past who order = may_discard g past who order may in
    let low : who < g.players = current-lt g past who fair.two m.turn in
    (omega (arith, fair.six), is_at-true (holder g past order) who m.held)

-- the game after an act, whose list of acts is one longer
game-after : (g : Setup) (items : List Act) (t : Table) (masks : ClueMasks) (end : Option EndHow) (act : Act)
    → IsFair g → AreClueMasks g.variant masks → rule g (reverse items) act ≡ None → Legal g (reverse items)
    → IsTable g (act ∷ reverse items) t → end ≡ table_end g t → IsGame g (reverse (items ++ act ∷ [])) t masks end
game-after g items t masks end act fair sets may legal kept is =
    rw reverse-append
    (record {
      fair = fair;
      legal = (may, legal);
      table = kept;
      masks = sets;
      ended = is ∙ end-is g (act ∷ reverse items) t fair kept;
    })

-- the game after a play
pub after-play : (g : Setup) (items : List Act) (t : Table) (masks : ClueMasks) (end then : Option EndHow)
    (who order : ℕ)
    → IsGame g (reverse items) t masks end
    → rule g (reverse items) (record { who = who; action = action.Play order }) ≡ None → then ≡ table_end g (play_table g t who order)
    → IsGame g (reverse (items ++ record { who = who; action = action.Play order } ∷ [])) (play_table g t who order) masks then
after-play g items t masks end then who order game may is =
    let takes : (who < 6) × (holder g (reverse items) order ≡ Some who) = play-takes g (reverse items) who order game.fair may in
    game-after g items (play_table g t who order) masks
    then (record { who = who; action = action.Play order }) game.fair game.masks may game.legal
    (table-play g (reverse items) t who order game.fair game.legal
    (is-ready g (reverse items) t masks end who (action.Play order) game may).uncalled
    (play-card g (reverse items) t masks end who order game may) takes.0 takes.1 game.table)
    is

-- the game after a discard
pub after-discard : (g : Setup) (items : List Act) (t : Table) (masks : ClueMasks) (end then : Option EndHow)
    (who order : ℕ)
    → IsGame g (reverse items) t masks end
    → rule g (reverse items) (record { who = who; action = action.Discard order }) ≡ None → then ≡ table_end g (discard_table g t who order)
    → IsGame g (reverse (items ++ record { who = who; action = action.Discard order } ∷ [])) (discard_table g t who order) masks then
after-discard g items t masks end then who order game may is =
    let takes : (who < 6) × (holder g (reverse items) order ≡ Some who) = discard-takes g (reverse items) who order game.fair may in
    game-after g items (discard_table g t who order) masks
    then (record { who = who; action = action.Discard order }) game.fair game.masks may game.legal
    (table-discard g (reverse items) t who order game.fair game.legal
    (is-ready g (reverse items) t masks end who (action.Discard order) game may).uncalled
    (discard-card g (reverse items) t masks end who order game may) takes.0 takes.1 game.table)
    is

-- the game after a clue
pub after-clue : (g : Setup) (items : List Act) (t : Table) (masks : ClueMasks) (end then : Option EndHow)
    (who to : ℕ) (clue : Clue) (marks held : List ℕ) (touched : ℕ)
    → IsGame g (reverse items) t masks end
    → rule g (reverse items) (record { who = who; action = action.Clue to clue }) ≡ None
    → held ≡ hand g (reverse items) to → IsMask g.variant clue touched
    → IsNarrowed g held masks.all touched t.marks marks → then ≡ table_end g (record (clue_table t) { marks = marks })
    → IsGame g (reverse (items ++ record { who = who; action = action.Clue to clue } ∷ []))
    (record (clue_table t) { marks = marks }) masks
    then
after-clue g items t masks end then who to clue marks held touched game may here mask narrowed is =
    game-after g items (record (clue_table t) { marks = marks }) masks
    then (record { who = who; action = action.Clue to clue }) game.fair game.masks may game.legal
    (table-clue g (reverse items) t who to clue marks held masks.all touched game.fair
    (is-ready g (reverse items) t masks end who (action.Clue to clue) game may).uncalled game.table here
    game.masks.all mask narrowed)
    is

-- the game after a called end
pub after-end : (g : Setup) (items : List Act) (t : Table) (masks : ClueMasks) (end then : Option EndHow)
    (who : ℕ) (how : EndHow)
    → IsGame g (reverse items) t masks end
    → rule g (reverse items) (record { who = who; action = action.End how }) ≡ None → then ≡ table_end g (record t { called = Some how })
    → IsGame g (reverse (items ++ record { who = who; action = action.End how } ∷ [])) (record t { called = Some how }) masks then
after-end g items t masks end then who how game may is =
    game-after g items (record t { called = Some how }) masks
    then (record { who = who; action = action.End how }) game.fair game.masks may game.legal
    (table-end g (reverse items) t who how game.table) is

bit-le : (a b : ℕ) (has fits : Bool) → a < 2 → b < 2 → (b == 1) ≡ has → (a == 1) ≡ (has && fits) → a ≤ b
bit-le a b true fits low low' e f = grind arith
bit-le a b false fits low low' e f = grind arith

-- a clue touches no identity but those of the variant
pub within-all : (v : Variant) (masks : ClueMasks) (clue : Clue) (touched : ℕ) → AreClueMasks v masks
    → IsMask v clue touched → (n : ℕ) → bit touched n ≤ bit masks.all n
within-all v masks clue touched sets mask n =
    bit-le (bit touched n) (bit masks.all n) (has_number v n) (touches v clue (identity n)) (bit-lt touched n)
    (bit-lt masks.all n) (sets.all n) (mask n)

-- the orders of a hand are cards of the deck
pub hand-cards : (g : Setup) (past : List Act) (to : ℕ) (held : List ℕ) → IsFair g → held ≡ hand g past to → All (IsCard g) held
hand-cards g past to held fair is =
    rw is
    (All-filter (λ order. is_at (holder g past order) to) (IsCard g) (range_with_len 0 (length g.deck.items))
    (All-from_get_or (IsCard g) (range_with_len 0 (length g.deck.items)) 0
    (λ i low. let below : i < length g.deck.items =
    omega (arith, low, length-range_with_len 0 (length g.deck.items)) in
    let at : 0 + i ≡ i = omega arith in rw (get_or-range_with_len 0 (length g.deck.items) i 0 below, at) (deck-order g i fair below))))
