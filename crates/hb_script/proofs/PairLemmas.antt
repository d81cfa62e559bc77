-- Items that pairs of bytes write, read pair by pair.
use Rattle.std.proofs.Common.{◌≡◌, ℕ, ◌*◌, ◌/◌, ◌<◌, ◌≤◌, true, false, ◌&&◌, nat_le, List, [], ◌∷◌, ◌++◌, suc, arith, refl, sym, ap, ◌∙◌, append_assoc, append-nil, length, drop, slice_index}
use Rattle.std.proofs.Math.Seq.{drop-cons}
use Rattle.std.specs.declared.option.Option.{Option}
use Rattle.std.specs.declared.option.Option.TheVariants.{Some, None}
use Rattle.hb_rules.specs.declared.suits.Identity.{Identity}
use Rattle.hb_script.specs.ScriptGrammar.{by_pairs, identity_of, if_sized, with_item}
use Rattle.hb_script.specs.ScriptReading.{items_behind}

-- the pairs from a place on begin with the one at that place
pub pairs-more : {A : Type 0} (item : ℕ → ℕ → Option A) (at : ℕ) (text : List ℕ) → suc at < length text
    → by_pairs item (drop at text)
    ≡ with_item (item (slice_index text at) (slice_index text (suc at))) (by_pairs item (drop (suc (suc at)) text))
pairs-more item at text low =
    let here : at < length text = omega arith in
    ap (by_pairs item) (drop-cons text at 0 here ∙ ap (λ (l : List ℕ). slice_index text at ∷ l) (drop-cons text (suc at) 0 low))

behind_one : {A : Type 0} (before : List A) (x : A) (r : Option (List A))
    → items_behind before (with_item (Some x) r) ≡ items_behind (before ++ x ∷ []) r
behind_one before x (Some items) = ap Some (sym (append_assoc before (x ∷ []) items))
behind_one before x None = refl

-- before the first pair
pub pairs-first : {A : Type 0} (r : Option (List A)) → r ≡ items_behind [] r
pairs-first (Some items) = refl
pairs-first None = refl

-- one pair more
pub pair-item : {A : Type 0} (item : ℕ → ℕ → Option A) (at next : ℕ) (text all : List ℕ) (before : List A) (x : A) → suc at < length text
    → next ≡ suc (suc at)
    → by_pairs item all ≡ items_behind before (by_pairs item (drop at text))
    → Some x ≡ item (slice_index text at) (slice_index text (suc at))
    → by_pairs item all ≡ items_behind (before ++ x ∷ []) (by_pairs item (drop next text))
pair-item item at next text all before x low n so is =
    let rest = by_pairs item (drop (suc (suc at)) text) in
    so ∙ ap (items_behind before) (pairs-more item at text low ∙ ap (λ o. with_item o rest) (sym is)) ∙ behind_one before x rest
    ∙ ap (λ (k : ℕ). items_behind (before ++ x ∷ []) (by_pairs item (drop k text))) (sym n)

-- a pair that writes no item
pub pair-none : {A : Type 0} (item : ℕ → ℕ → Option A) (at : ℕ) (text all : List ℕ) (before : List A) → suc at < length text
    → by_pairs item all ≡ items_behind before (by_pairs item (drop at text)) → None ≡ item (slice_index text at) (slice_index text (suc at))
    → by_pairs item all ≡ None
pair-none item at text all before low so is =
    let rest = by_pairs item (drop (suc (suc at)) text) in
    so ∙ ap (items_behind before) (pairs-more item at text low ∙ ap (λ o. with_item o rest) (sym is))

-- no pair is left
pub pairs-end : {A : Type 0} (item : ℕ → ℕ → Option A) (rest all : List ℕ) (before : List A) → rest ≡ []
    → by_pairs item all ≡ items_behind before (by_pairs item rest) → by_pairs item all ≡ Some before
pairs-end item rest all before none so = so ∙ ap (λ (l : List ℕ). items_behind before (by_pairs item l)) none ∙ ap Some (append-nil before)

-- there are twice as many bytes as items
with_length : {A : Type 0} (n : ℕ) (o : Option A) (r : Option (List A)) (items : List A) → with_item o r ≡ Some items
    → ((rest : List A) → r ≡ Some rest → n ≡ 2 * length rest) → suc (suc n) ≡ 2 * length items
with_length n None r items e ih = cc
with_length n (Some x) None items e ih = cc
with_length n (Some x) (Some rest) items e ih =
    let k = ih rest refl in
    let l : x ∷ rest ≡ items = cc in
    let m = ap length l in
    omega (arith, k, m)

-- a text that pairs of bytes write as items has twice as many bytes as there are items
pub pairs-length : {A : Type 0} (item : ℕ → ℕ → Option A) (text : List ℕ) (items : List A) → by_pairs item text ≡ Some items
    → length text ≡ 2 * length items
pairs-length item [] items e = let l : [] ≡ items = cc in let m = ap length l in omega (arith, m)
pairs-length item (a ∷ []) items e = cc
pairs-length item (a ∷ b ∷ text) items e =
    with_length (length text) (item a b) (by_pairs item text) items e (λ rest r. pairs-length item text rest r)

-- a deck of another size is none
pub deck-none : (text : List ℕ) → ((cards : List Identity) → length text ≡ 2 * length cards
    → (nat_le 25 (length cards) && nat_le (length cards) 60) ≡ false)
    → None ≡ if_sized (by_pairs identity_of text)
deck-none text refuses = pick (by_pairs identity_of text) refl
  where
    pick : (o : Option (List Identity)) → by_pairs identity_of text ≡ o → None ≡ if_sized o
    pick None h = refl
    pick (Some cards) h = let f = refuses cards (pairs-length identity_of text cards h) in rw f refl

-- fewer than 25 cards are not within the sizes of a deck
pub too-few : (n : ℕ) → n < 25 → (nat_le 25 n && nat_le n 60) ≡ false
too-few n low = grind arith

-- more than 60 cards are not within the sizes of a deck
pub too-many : (n : ℕ) → 60 < n → (nat_le 25 n && nat_le n 60) ≡ false
too-many n high = grind arith

enough : (n : ℕ) → 25 ≤ n → n ≤ 60 → (nat_le 25 n && nat_le n 60) ≡ true
enough n low high = grind arith

-- cards that pairs of bytes write are a deck if the pairs number from 25 to 60
pub deck-whole : (text : List ℕ) (cards : List Identity) → by_pairs identity_of text ≡ Some cards → 25 ≤ length text / 2
    → length text / 2 ≤ 60
    → Some cards ≡ if_sized (by_pairs identity_of text)
deck-whole text cards h low high =
    let l = pairs-length identity_of text cards h in
    let f : (nat_le 25 (length cards) && nat_le (length cards) 60) ≡ true = enough (length cards) (omega (arith, l)) (omega (arith, l)) in
    rw (h, f) refl
