-- The table after a play or a discard is the table of the longer history.
use Rattle.std.proofs.Common.{◌≡◌, ℕ, ◌+◌, ◌*◌, ◌<◌, ◌≤◌, Bool, true, false, List, ◌∷◌, refl, ap, arith, sym, ◌∙◌, length, Some, None, Option}
use Rattle.std.specs.Prelude.{◌==◌, nat_lt, if◌then◌else◌, slice_index, slice_index_or, slice_set, count_by}
use Rattle.std.proofs.lemmas.Grind.{common_steps}
use Rattle.std.proofs.lemmas.List.{length-set}
use Rattle.std.proofs.lemmas.List.Sums.{sum_by-cons}
use Rattle.hb_rules.specs.declared.acts.Act.{Act}
use Rattle.hb_rules.specs.declared.acts.Action.TheVariants as action
use Rattle.hb_rules.specs.declared.setups.Setup.{Setup}
use Rattle.hb_rules.specs.Cards.{same_identity, in_range}
use Rattle.hb_rules.specs.Setup.{card, deal_size}
use Rattle.hb_rules.specs.Hands.{removed, receiver, holder, is_at}
use Rattle.hb_rules.specs.Result.{height, raised, fits, lost, turns, tokens, strikes, called}
use Rattle.hb_rules.specs.Legality.{Legal}
use Rattle.hb_rules.proofs.Undrawn.{holder-play, holder-discard, receiver-undrawn}
use Rattle.hb_turns.specs.declared.table.Table.{Table}
use Rattle.hb_turns.specs.GameInvariant.{IsFair, IsTable}
use Rattle.hb_turns.specs.TableSteps.{IsCard, play_table, discard_table, moved, stacked, lost_card, one_more, is_next}
use Rattle.hb_turns.proofs.Emptied.{emptied-draw}
use Rattle.hb_turns.proofs.HandBits.{hands-more}

-- one more card of an identity
counts-more : (counts : List ℕ) (orders : List ℕ) (g : Setup) (order s r : ℕ) → length counts ≡ 30 → IsCard g order → s < 6 → r < 5
    → slice_index counts (s * 5 + r) ≡ count_by (λ k. same_identity (record { suit = s; rank = r + 1 }) (card g k)) orders
    → slice_index (one_more counts (card g order)) (s * 5 + r)
    ≡ count_by (λ k. same_identity (record { suit = s; rank = r + 1 }) (card g k)) (order ∷ orders)
counts-more counts orders g order s r long is_card s_low r_low before =
    let ok : in_range (card g order) ≡ true = is_card.id in rw sum_by-cons (grind (arith, common_steps))

holders-more : (holders : List (Option ℕ)) (g : Setup) (past : List Act) (who order next count k : ℕ)
    → length holders ≡ 60 → order < 60 → count ≤ 60 → k < 60
    → slice_index_or holders k None ≡ holder g past k
    → slice_index_or (slice_set (if nat_lt next count then slice_set holders next (Some who) else holders) order None) k None
    ≡ (if order == k then None else (if (if nat_lt next count then next == k else false) then Some who else holder g past k))
holders-more holders g past who order next count k long order_low count_low k_low before = grind (arith, common_steps, length-set)

holders-long : (holders : List (Option ℕ)) (who order next count : ℕ) → length holders ≡ 60
    → length (slice_set (if nat_lt next count then slice_set holders next (Some who) else holders) order None)
    ≡ 60
holders-long holders who order next count long = grind (arith, length-set)

-- who holds an order once the count of plays and discards is that of the acts
holder-moved : (g : Setup) (past : List Act) (who order k count : ℕ) → count ≡ length (removed past)
    → (if order == k then None
    else (if (if nat_lt (deal_size g + count) (length g.deck.items) then deal_size g + count == k else false)
    then Some who else holder g past k))
    ≡ (if order == k then None
    else (if (if nat_lt (deal_size g + length (removed past)) (length g.deck.items)
    then deal_size g + length (removed past) == k else false)
    then Some who else holder g past k))
holder-moved g past who order k count is =
    ap
    (λ n.
    if order == k then None
    else (if (if nat_lt (deal_size g + n) (length g.deck.items) then deal_size g + n == k else false)
    then Some who else holder g past k))
    is

-- nobody holds the next order
holder-next : (g : Setup) (past : List Act) (count : ℕ) → count ≡ length (removed past) → holder g past (deal_size g + count) ≡ None
holder-next g past count is =
    let r : receiver g past (deal_size g + count) ≡ None = receiver-undrawn g past (deal_size g + count) (omega arith) in rw r (grind arith)

stacks-more : (stacks : List ℕ) (g : Setup) (past : List Act) (order s : ℕ) → length stacks ≡ 6
    → in_range (card g order) ≡ true → fits g past order ≡ true
    → ((i : ℕ) → i < 6 → slice_index stacks i ≡ height g past i) → s < 6
    → slice_index (slice_set stacks (card g order).suit (slice_index stacks (card g order).suit + 1)) s
    ≡ (if (card g order).suit == s then raised g (card g order) (height g past s) else height g past s)
stacks-more stacks g past order s long ok fit before s_low =
    let suit_low : (card g order).suit < 6 = grind arith in
    let one : slice_index stacks (card g order).suit ≡ height g past (card g order).suit = before (card g order).suit suit_low in
    let two : slice_index stacks s ≡ height g past s = before s s_low in grind (arith, common_steps)

stacks-same : (h : ℕ) (g : Setup) (past : List Act) (order s : ℕ) → fits g past order ≡ false → h ≡ height g past s
    → h ≡ (if (card g order).suit == s then raised g (card g order) (height g past s) else height g past s)
stacks-same h g past order s miss before = grind arith

-- the card is the next of its suit where its play fits
next-fits : (g : Setup) (past : List Act) (t : Table) (order : ℕ) → IsCard g order → IsTable g past t
    → is_next t (card g order) ≡ fits g past order
next-fits g past t order is_card kept =
    let ok : in_range (card g order) ≡ true = is_card.id in
    let suit_low : (card g order).suit < 6 = grind arith in
    ap (λ h. (card g order).rank == h + 1) (kept.stacks (card g order).suit suit_low)

-- the table after a play that fits
table-fits : (g : Setup) (past : List Act) (t : Table) (who order : ℕ) → IsFair g → Legal g past
    → called past ≡ None → IsCard g order → who < 6 → holder g past order ≡ Some who → IsTable g past t
    → fits g past order ≡ true
    → IsTable g (record { who = who; action = action.Play order } ∷ past) (moved g (stacked t (card g order)) who order)
table-fits g past t who order fair legal uncalled is_card seat held kept fit =
    let ok : in_range (card g order) ≡ true = is_card.id in
    let order_low : order < 60 = omega (arith, is_card.below, is_card.long) in
    let removed_is : t.removed ≡ length (removed past) = kept.removed in
    let turns_is : t.turns ≡ turns past = kept.turns in
    let tokens_is : t.tokens ≡ tokens g past = kept.tokens in
    record {
      many_holders = holders-long t.holders who order (deal_size g + t.removed) (length g.deck.items) kept.many_holders;
      many_stacks = rw length-set kept.many_stacks;
      many_lost = kept.many_lost;
      many_gone = rw length-set kept.many_gone;
      many_marks = kept.many_marks;
      many_hands = rw length-set kept.many_hands;
      holders = λ k low.
          holders-more t.holders g past who order (deal_size g + t.removed) (length g.deck.items) k
          kept.many_holders order_low fair.long low (kept.holders k low)
          ∙ holder-moved g past who order k t.removed kept.removed ∙ sym (holder-play g past legal who order k);
      hands = λ s k low.
          hands-more t.hands g past who order (deal_size g + t.removed) s k
          (nat_lt (deal_size g + t.removed) (length g.deck.items)) kept.many_hands seat held
          (λ draws. holder-next g past t.removed kept.removed) kept.hands low
          ∙ ap (λ o. is_at o s) (holder-moved g past who order k t.removed kept.removed ∙ sym (holder-play g past legal who order k));
      stacks = λ s low. stacks-more t.stacks g past order s kept.many_stacks ok fit kept.stacks low;
      lost = λ s r s_low r_low. rw fit (kept.lost s r s_low r_low);
      gone = λ s r s_low r_low.
          counts-more t.gone (removed past) g order s r kept.many_gone is_card s_low r_low
          (kept.gone s r s_low r_low);
      marks = kept.marks;
      removed = omega arith;
      turns = omega arith;
      tokens = grind arith;
      strikes = rw fit kept.strikes;
      emptied = rw (removed_is, turns_is, kept.emptied)
          (sym
          (emptied-draw g past (turns past + 1)
          (length (removed (record { who = who; action = action.Play order } ∷ past))) (omega arith)));
      called = kept.called ∙ uncalled;
    }

-- the table after a play that does not fit
table-misses : (g : Setup) (past : List Act) (t : Table) (who order : ℕ) → IsFair g → Legal g past
    → called past ≡ None → IsCard g order → who < 6 → holder g past order ≡ Some who → IsTable g past t
    → fits g past order ≡ false
    → IsTable g (record { who = who; action = action.Play order } ∷ past)
    (moved g (record (lost_card t (card g order)) { strikes = t.strikes + 1 }) who order)
table-misses g past t who order fair legal uncalled is_card seat held kept miss =
    let order_low : order < 60 = omega (arith, is_card.below, is_card.long) in
    let removed_is : t.removed ≡ length (removed past) = kept.removed in
    let turns_is : t.turns ≡ turns past = kept.turns in
    let tokens_is : t.tokens ≡ tokens g past = kept.tokens in
    let strikes_is : t.strikes ≡ strikes g past = kept.strikes in
    record {
      many_holders = holders-long t.holders who order (deal_size g + t.removed) (length g.deck.items) kept.many_holders;
      many_stacks = kept.many_stacks;
      many_lost = rw length-set kept.many_lost;
      many_gone = rw length-set kept.many_gone;
      many_marks = kept.many_marks;
      many_hands = rw length-set kept.many_hands;
      holders = λ k low.
          holders-more t.holders g past who order (deal_size g + t.removed) (length g.deck.items) k
          kept.many_holders order_low fair.long low (kept.holders k low)
          ∙ holder-moved g past who order k t.removed kept.removed ∙ sym (holder-play g past legal who order k);
      hands = λ s k low.
          hands-more t.hands g past who order (deal_size g + t.removed) s k
          (nat_lt (deal_size g + t.removed) (length g.deck.items)) kept.many_hands seat held
          (λ draws. holder-next g past t.removed kept.removed) kept.hands low
          ∙ ap (λ o. is_at o s) (holder-moved g past who order k t.removed kept.removed ∙ sym (holder-play g past legal who order k));
      stacks = λ s low. stacks-same (slice_index t.stacks s) g past order s miss (kept.stacks s low);
      lost = λ s r s_low r_low.
          rw miss
          (counts-more t.lost (lost g past) g order s r kept.many_lost is_card s_low r_low
          (kept.lost s r s_low r_low));
      gone = λ s r s_low r_low.
          counts-more t.gone (removed past) g order s r kept.many_gone is_card s_low r_low
          (kept.gone s r s_low r_low);
      marks = kept.marks;
      removed = omega arith;
      turns = omega arith;
      tokens = rw miss kept.tokens;
      strikes = rw miss (omega arith);
      emptied = rw (removed_is, turns_is, kept.emptied)
          (sym
          (emptied-draw g past (turns past + 1)
          (length (removed (record { who = who; action = action.Play order } ∷ past))) (omega arith)));
      called = kept.called ∙ uncalled;
    }

-- the table after a play
pub table-play : (g : Setup) (past : List Act) (t : Table) (who order : ℕ) → IsFair g → Legal g past
    → called past ≡ None → IsCard g order → who < 6 → holder g past order ≡ Some who → IsTable g past t
    → IsTable g (record { who = who; action = action.Play order } ∷ past) (play_table g t who order)
table-play g past t who order fair legal uncalled is_card seat held kept = pick (fits g past order) refl
  where
    pick : (b : Bool) → fits g past order ≡ b
        → IsTable g (record { who = who; action = action.Play order } ∷ past) (play_table g t who order)
    pick true fit =
        rw (next-fits g past t order is_card kept ∙ fit)
        (table-fits g past t who order fair legal uncalled is_card seat held kept fit)
    pick false miss =
        rw (next-fits g past t order is_card kept ∙ miss)
        (table-misses g past t who order fair legal uncalled is_card seat held kept miss)

-- the table after a discard
pub table-discard : (g : Setup) (past : List Act) (t : Table) (who order : ℕ) → IsFair g → Legal g past
    → called past ≡ None → IsCard g order → who < 6 → holder g past order ≡ Some who → IsTable g past t
    → IsTable g (record { who = who; action = action.Discard order } ∷ past) (discard_table g t who order)
table-discard g past t who order fair legal uncalled is_card seat held kept =
    let order_low : order < 60 = omega (arith, is_card.below, is_card.long) in
    let removed_is : t.removed ≡ length (removed past) = kept.removed in
    let turns_is : t.turns ≡ turns past = kept.turns in
    let tokens_is : t.tokens ≡ tokens g past = kept.tokens in
    record {
      many_holders = holders-long t.holders who order (deal_size g + t.removed) (length g.deck.items) kept.many_holders;
      many_stacks = kept.many_stacks;
      many_lost = rw length-set kept.many_lost;
      many_gone = rw length-set kept.many_gone;
      many_marks = kept.many_marks;
      many_hands = rw length-set kept.many_hands;
      holders = λ k low.
          holders-more t.holders g past who order (deal_size g + t.removed) (length g.deck.items) k
          kept.many_holders order_low fair.long low (kept.holders k low)
          ∙ holder-moved g past who order k t.removed kept.removed ∙ sym (holder-discard g past legal who order k);
      hands = λ s k low.
          hands-more t.hands g past who order (deal_size g + t.removed) s k
          (nat_lt (deal_size g + t.removed) (length g.deck.items)) kept.many_hands seat held
          (λ draws. holder-next g past t.removed kept.removed) kept.hands low
          ∙ ap (λ o. is_at o s) (holder-moved g past who order k t.removed kept.removed ∙ sym (holder-discard g past legal who order k));
      stacks = kept.stacks;
      lost = λ s r s_low r_low. counts-more t.lost (lost g past) g order s r kept.many_lost is_card s_low r_low (kept.lost s r s_low r_low);
      gone = λ s r s_low r_low.
          counts-more t.gone (removed past) g order s r kept.many_gone is_card s_low r_low
          (kept.gone s r s_low r_low);
      marks = kept.marks;
      removed = omega arith;
      turns = omega arith;
      tokens = omega arith;
      strikes = kept.strikes;
      emptied = rw (removed_is, turns_is, kept.emptied)
          (sym
          (emptied-draw g past (turns past + 1)
          (length (removed (record { who = who; action = action.Discard order } ∷ past))) (omega arith)));
      called = kept.called ∙ uncalled;
    }
