-- May a load be pending at a table where a game was started or loaded? No.
use Rattle.std.proofs.Common.{◌≡◌, ℕ, ◌+◌, ◌-◌, ◌<◌, ◌≤◌, ◌⊎◌, inl, inr, Bool, true, false, List, [], ◌∷◌, ◌++◌, suc, refl, ap, arith, sym, ◌∙◌, length, length-append, take, Some, None, Option}
use Rattle.std.specs.Prelude.{◌&&◌, ◌||◌, is_none, is_some, nat_le, not, if◌then◌else◌}
use Rattle.std.specs.List.{list_all}
use Rattle.std.proofs.Math.Seq.{take-append-add}
use Rattle.std.proofs.lemmas.Bool.{and_parts, cases_lt, or_cases, or_parts}
use Rattle.std.proofs.lemmas.List.Folds.{list_any-append}
use Rattle.hb_club.specs.declared.commands.Command.{Command}
use Rattle.hb_club.specs.declared.items.Item.{Item}
use Rattle.hb_club.specs.declared.replies.Reply.{Reply}
use Rattle.hb_club.specs.CommandKinds.{asked_id}
use Rattle.hb_club.specs.OwnEntries.{OwnEntry, accepted_load, is_done, kept_entry, pending_id, still_pending}
use Rattle.hb_club.specs.TableItems.{ends_load, has}

-- more items end no fewer loads
has-take : (extra items : List Item) (count : ℕ) → has ends_load (take (length (extra ++ items) - count) (extra ++ items)) ≡ false
    → has ends_load (take (length items - count) items) ≡ false
has-take extra items count none = pick (cases_lt (length items) count)
  where
    pick : (length items < count) ⊎ (count ≤ length items) → has ends_load (take (length items - count) items) ≡ false
    pick (inl few) = let no_items : length items - count ≡ 0 = omega (arith, few) in rw no_items refl
    pick (inr many) =
        let rest : List Item = take (length items - count) items in
        let size : length (extra ++ items) - count ≡ length extra + (length items - count) =
        omega (arith, many, length-append extra items) in
        let split : take (length (extra ++ items) - count) (extra ++ items) ≡ extra ++ rest =
        ap (λ (n : ℕ). take n (extra ++ items)) size ∙ take-append-add extra items (length items - count) in
        let both : (has ends_load extra || has ends_load rest) ≡ false =
        sym (list_any-append (λ (i : Item). ends_load i.what) extra rest) ∙ (sym (ap (has ends_load) split) ∙ none) in
        let parts : (has ends_load extra ≡ false) × (has ends_load rest ≡ false) = or_parts (has ends_load extra)
        (has ends_load rest) both in
        parts.1

still_pending-more : (extra items : List Item) (count : ℕ) (asked before later : Option ℕ) → (is_some later ≡ true → is_some before ≡ true)
    → is_some (still_pending (extra ++ items) count asked later) ≡ true → is_some (still_pending items count asked before) ≡ true
still_pending-more extra items count None before later ih h = ih h
still_pending-more extra items count (Some id) before later ih h =
    pick (has ends_load (take (length (extra ++ items) - count) (extra ++ items))) refl h
  where
    pick : (b : Bool) → has ends_load (take (length (extra ++ items) - count) (extra ++ items)) ≡ b
        → is_some (if b then None else Some id) ≡ true
        → is_some (if has ends_load (take (length items - count) items) then None else Some id) ≡ true
    pick true e h = cc
    pick false e h = rw (has-take extra items count e) refl

-- what is pending behind more items was pending before them
pub pending_id-more : (own : List OwnEntry) (extra items : List Item) → is_some (pending_id own (extra ++ items)) ≡ true
    → is_some (pending_id own items) ≡ true
pending_id-more [] extra items h = h
pending_id-more (o ∷ own) extra items h =
    still_pending-more extra items o.count (accepted_load own o) (pending_id own items) (pending_id own (extra ++ items))
    (pending_id-more own extra items) h

-- an entry that makes no load pending
abbrev pub is_quiet : Reply → Command → Bool
is_quiet reply c = not (is_done reply) || is_none (asked_id c)

quiet-none : (d f : Bool) (a : Option ℕ) → (not d || is_none a) ≡ true → (if d && f then a else None) ≡ None
quiet-none false f a h = refl
quiet-none true true None h = refl
quiet-none true true (Some id) h = cc
quiet-none true false a h = refl

-- it asks for none
pub accepted_load-quiet : (before : List OwnEntry) (o : OwnEntry) → is_quiet o.reply o.entry.command ≡ true → accepted_load before o ≡ None
accepted_load-quiet before o h = quiet-none (is_done o.reply) (is_none (kept_entry before o.entry.number)) (asked_id o.entry.command) h

-- none of a member's entries asks for a load that was accepted
abbrev pub are_quiet : List OwnEntry → Bool
are_quiet own = list_all (λ (o : OwnEntry). is_quiet o.reply o.entry.command) own

-- where all are quiet, nothing is pending
pub pending_id-quiet : (own : List OwnEntry) (items : List Item) → are_quiet own ≡ true → pending_id own items ≡ None
pending_id-quiet [] items h = refl
pending_id-quiet (o ∷ own) items h =
    let parts : (is_quiet o.reply o.entry.command ≡ true) × (are_quiet own ≡ true) = and_parts _ _ h in
    ap (λ (a : Option ℕ). still_pending items o.count a (pending_id own items)) (accepted_load-quiet own o parts.0)
    ∙ pending_id-quiet own items parts.1

-- no entry that makes a load pending names more items than there are
abbrev pub is_within : ℕ → OwnEntry → Bool
is_within n o = is_quiet o.reply o.entry.command || nat_le o.count n

-- each accepted load of a member's entries came when there were at most so many items
abbrev pub are_within : ℕ → List OwnEntry → Bool
are_within n own = list_all (is_within n) own

later-item : (i : Item) (items : List Item) (count : ℕ) → nat_le count (length items) ≡ true → ends_load i.what ≡ true
    → has ends_load (take (length (i ∷ items) - count) (i ∷ items)) ≡ true
later-item i items count low ends =
    let size : length (i ∷ items) - count ≡ suc (length items - count) = grind arith in
    rw (size, ends) refl

-- what ends a load leaves none
pub pending_id-ended : (own : List OwnEntry) (i : Item) (items : List Item) → are_within (length items) own ≡ true → ends_load i.what ≡ true
    → pending_id own (i ∷ items) ≡ None
pending_id-ended [] i items h ends = refl
pending_id-ended (o ∷ own) i items h ends =
    let parts : (is_within (length items) o ≡ true) × (are_within (length items) own ≡ true) = and_parts _ _ h in
    pick (or_cases (is_quiet o.reply o.entry.command) (nat_le o.count (length items)) parts.0) (pending_id-ended own i items parts.1 ends)
  where
    rest : Option ℕ
    rest = pending_id own (i ∷ items)

    asked : (a : Option ℕ) → nat_le o.count (length items) ≡ true → rest ≡ None → still_pending (i ∷ items) o.count a rest ≡ None
    asked None low ih = ih
    asked (Some id) low ih = rw (later-item i items o.count low ends) refl

    pick : (is_quiet o.reply o.entry.command ≡ true) ⊎ (nat_le o.count (length items) ≡ true) → rest ≡ None
        → still_pending (i ∷ items) o.count (accepted_load own o) rest ≡ None
    pick (inl quiet) ih = ap (λ (a : Option ℕ). still_pending (i ∷ items) o.count a rest) (accepted_load-quiet own o quiet) ∙ ih
    pick (inr low) ih = asked (accepted_load own o) low ih
