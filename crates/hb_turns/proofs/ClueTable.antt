-- The table after a clue or a called end is the table of the longer history.
use Rattle.std.proofs.Common.{◌≡◌, ℕ, ◌+◌, ◌<◌, ◌≤◌, Bool, true, false, List, ◌∷◌, refl, arith, sym, ◌∙◌, length, Some, None}
use Rattle.std.specs.Prelude.{◌==◌, ◌&&◌, nat_lt, if◌then◌else◌, slice_index}
use Rattle.hb_rules.specs.declared.acts.Act.{Act}
use Rattle.hb_rules.specs.declared.acts.Action.TheVariants as action
use Rattle.hb_rules.specs.declared.acts.Clue.{Clue}
use Rattle.hb_rules.specs.declared.acts.EndHow.{EndHow}
use Rattle.hb_rules.specs.declared.setups.Setup.{Setup}
use Rattle.hb_rules.specs.Cards.{number, identity, has_number}
use Rattle.hb_rules.specs.Setup.{card}
use Rattle.hb_rules.specs.Touch.{touches}
use Rattle.hb_rules.specs.Hands.{holder, hand, is_at}
use Rattle.hb_rules.specs.Result.{fits, turns, tokens, called}
use Rattle.hb_rules.specs.Marks.{meets, same}
use Rattle.hb_rules.proofs.HandsLemmas.{holder-past}
use Rattle.hb_sets.specs.Sets.{bit}
use Rattle.hb_turns.specs.declared.table.Table.{Table}
use Rattle.hb_turns.specs.GameInvariant.{IsFair, IsTable}
use Rattle.hb_turns.specs.ClueMasks.{IsMask}
use Rattle.hb_turns.specs.TableSteps.{IsNarrowed, is_among, is_alike, clue_table}
use Rattle.hb_turns.proofs.Emptied.{emptied-clue}
use Rattle.hb_turns.proofs.Fair.{mask-card}
use Rattle.hb_turns.proofs.Narrow.{among-filter}

-- one word narrowed by a clue is that of the longer history
marked-clue : (old new : Bool) (low at among alike has fits before : Bool) → old ≡ (has && before)
    → new ≡ (old && (if among then alike else true))
    → among ≡ (low && at) → (low ≡ true → alike ≡ (has && fits)) → (low ≡ false → at ≡ false)
    → new ≡ (has && ((if at then fits else true) && before))
marked-clue old new true at among alike has fits before e f h i j = grind (arith, i)
marked-clue old new false at among alike has fits before e f h i j = grind (arith, j)

-- a set that has what both the variant and the clue have
alike-bools : (all own here has fits touched : Bool) → all ≡ has → own ≡ touched → here ≡ (has && fits)
    → (all && same own here) ≡ (has && same touched fits)
alike-bools all own here has fits touched e f h = grind arith

-- the identities that the clue tells alike with a card, by the sets
alike-is : (g : Setup) (clue : Clue) (all touched k n : ℕ) → IsFair g
    → ((n : ℕ) → (bit all n == 1) ≡ has_number g.variant n) → IsMask g.variant clue touched
    → k < length g.deck.items
    → is_alike g all touched k n
    ≡ (has_number g.variant n
    && same (touches g.variant clue (card g k)) (touches g.variant clue (identity n)))
alike-is g clue all touched k n fair every mask low =
    alike-bools (bit all n == 1) (bit touched (number (card g k)) == 1) (bit touched n == 1)
    (has_number g.variant n) (touches g.variant clue (identity n)) (touches g.variant clue (card g k))
    (every n) (mask-card g clue touched k fair mask low) (mask n)

-- the table after a clue
pub table-clue : (g : Setup) (past : List Act) (t : Table) (who to : ℕ) (clue : Clue) (marks held : List ℕ)
    (all touched : ℕ)
    → IsFair g → called past ≡ None → IsTable g past t
    → held ≡ hand g past to → ((n : ℕ) → (bit all n == 1) ≡ has_number g.variant n)
    → IsMask g.variant clue touched → IsNarrowed g held all touched t.marks marks
    → IsTable g (record { who = who; action = action.Clue to clue } ∷ past) (record (clue_table t) { marks = marks })
table-clue g past t who to clue marks held all touched fair uncalled kept here every mask narrowed =
    let turns_is : t.turns ≡ turns past = kept.turns in
    let tokens_is : t.tokens ≡ tokens g past = kept.tokens in
    let among : (k : ℕ) → is_among held k ≡ (nat_lt k (length g.deck.items) && is_at (holder g past k) to) =
    λ k. rw here (among-filter (λ order. is_at (holder g past order) to) (length g.deck.items) k) in
    record {
      many_holders = kept.many_holders;
      many_hands = kept.many_hands;
      many_stacks = kept.many_stacks;
      many_lost = kept.many_lost;
      many_gone = kept.many_gone;
      many_marks = narrowed.long ∙ kept.many_marks;
      holders = kept.holders;
      hands = kept.hands;
      stacks = kept.stacks;
      lost = kept.lost;
      gone = kept.gone;
      marks = λ k n low.
          let nobody : length g.deck.items ≤ k → holder g past k ≡ None = holder-past g past k fair.dealt in
          marked-clue (bit (slice_index t.marks k) n == 1) (bit (slice_index marks k) n == 1)
          (nat_lt k (length g.deck.items)) (is_at (holder g past k) to) (is_among held k)
          (is_alike g all touched k n)
          (has_number g.variant n)
          (same (touches g.variant clue (card g k)) (touches g.variant clue (identity n)))
          (meets g past k (identity n))
          (kept.marks k n low) (narrowed.bits k n) (among k)
          (λ near. alike-is g clue all touched k n fair every mask (grind (arith, near)))
          (λ far. grind (arith, nobody));
      removed = kept.removed;
      turns = omega arith;
      tokens = omega arith;
      strikes = kept.strikes;
      emptied = kept.emptied ∙ sym (emptied-clue g past (turns past + 1));
      called = kept.called ∙ uncalled;
    }

-- the table after a called end
pub table-end : (g : Setup) (past : List Act) (t : Table) (who : ℕ) (how : EndHow) → IsTable g past t
    → IsTable g (record { who = who; action = action.End how } ∷ past) (record t { called = Some how })
table-end g past t who how kept = record {
  many_holders = kept.many_holders;
  many_hands = kept.many_hands;
  many_stacks = kept.many_stacks;
  many_lost = kept.many_lost;
  many_gone = kept.many_gone;
  many_marks = kept.many_marks;
  holders = kept.holders;
  hands = kept.hands;
  stacks = kept.stacks;
  lost = kept.lost;
  gone = kept.gone;
  marks = kept.marks;
  removed = kept.removed;
  turns = kept.turns;
  tokens = kept.tokens;
  strikes = kept.strikes;
  emptied = kept.emptied ∙ sym (emptied-clue g past (turns past));
  called = refl;
}
