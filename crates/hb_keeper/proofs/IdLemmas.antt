-- Which id a key has, and which once one more game is kept.
use Rattle.std.proofs.Common.{◌≡◌, ℕ, ◌+◌, ◌<◌, ◌≤◌, List, [], ◌∷◌, ◌++◌, length, Bool, true, false, Some, None, Option, refl, sym, ap, ◌∙◌, arith, inl, inr}
use Rattle.std.specs.Prelude.{◌==◌, ◌&&◌, if◌then◌else◌, IfSome}
use Rattle.std.specs.HashMap.{get, Updates}
use Rattle.std.proofs.lemmas.Bool.{cases_Bool}
use Rattle.std.proofs.lemmas.Bool.Decides.{Decides-eqb, nat_tests}
use Rattle.hb_keeper.specs.declared.rows.Key.{Key}
use Rattle.hb_keeper.specs.declared.rows.GameRow.{GameRow}
use Rattle.hb_keeper.specs.KeptGames.{id_from, same_key}
use Rattle.hb_keeper.specs.Listing.{Ids, HasIds}

-- the id of a key is that of one of the games
pub id_from-within : (from : ℕ) (key : Key) (rows : List (Key × GameRow)) (id : ℕ) → id_from from key rows ≡ Some id → (from ≤ id)
    × (id < from + length rows)
id_from-within from key [] id is = absurd cc
id_from-within from key (kept ∷ rows) id is = elim (cases_Bool (same_key key kept.0)) [
  | inl same ↦ let here : Some from ≡ Some id = rw same at is in let at : from ≡ id = cc in (omega arith, omega arith)
  | inr other ↦ let rest = id_from-within (from + 1) key rows id (rw other at is) in (omega arith, omega arith)
]

-- a key that has an id has it when one more game is kept
id_from-append_some : (from : ℕ) (key : Key) (rows : List (Key × GameRow)) (kept : Key × GameRow) (id : ℕ) → id_from from key rows ≡ Some id
    → id_from from key (rows ++ kept ∷ []) ≡ Some id
id_from-append_some from key [] kept id is = absurd cc
id_from-append_some from key (row ∷ rows) kept id is = elim (cases_Bool (same_key key row.0)) [
  | inl same ↦ rw same (rw same at is)
  | inr other ↦ rw other (id_from-append_some (from + 1) key rows kept id (rw other at is))
]

-- a key that has no id has that of the kept game, or none
id_from-append_none : (from : ℕ) (key : Key) (rows : List (Key × GameRow)) (kept : Key × GameRow) → id_from from key rows ≡ None
    → id_from from key (rows ++ kept ∷ []) ≡ (if same_key key kept.0 then Some (from + length rows) else None)
id_from-append_none from key [] kept is =
    let at : from ≡ from + 0 = omega arith in
    ap (λ id. if same_key key kept.0 then Some id else None) at
id_from-append_none from key (row ∷ rows) kept is = elim (cases_Bool (same_key key row.0)) [
  | inl same ↦ let some : Some from ≡ None = rw same at is in absurd cc
  | inr other ↦
      let at : from + 1 + length rows ≡ from + length (row ∷ rows) = omega arith in
      rw other (id_from-append_none (from + 1) key rows kept (rw other at is) ∙ ap (λ id. if same_key key kept.0 then Some id else None) at)
]

-- equal keys are one key
abbrev key_of : ℕ → ℕ → ℕ → Key
key_of run room serial = record { run = run; room = room; serial = serial }

key_of-same : (r s t u v w : ℕ) → r ≡ s → t ≡ u → v ≡ w → key_of r t v ≡ key_of s u w
key_of-same r s t u v w run room serial = cc

all_true : (a b c : Bool) → (a && (b && c)) ≡ true → (a ≡ true) × (b ≡ true) × (c ≡ true)
all_true true true true is = (refl, refl, refl)
all_true true true false is = absurd cc
all_true true false c is = absurd cc
all_true false b c is = absurd cc

key_from_same : (a b : Key) → same_key a b ≡ true → a ≡ b
key_from_same a b same =
    let parts = all_true (a.run == b.run) (a.room == b.room) (a.serial == b.serial) same in
    key_of-same a.run b.run a.room b.room a.serial b.serial ((Decides-eqb a.run b.run).0 parts.0)
    ((Decides-eqb a.room b.room).0 parts.1) ((Decides-eqb a.serial b.serial).0 parts.2)

turned : (a b : ℕ) → (a == b) ≡ (b == a)
turned a b = grind (arith, nat_tests)

same_key-turned : (a b : Key) → same_key a b ≡ same_key b a
same_key-turned a b = rw (turned a.run b.run, turned a.room b.room, turned a.serial b.serial) refl

other_id : (key q : Key) (row : GameRow) (rows : List (Key × GameRow)) (o : Option ℕ) → id_from 1 q rows ≡ o → same_key key q ≡ false
    → o ≡ id_from 1 q (rows ++ (key, row) ∷ [])
other_id key q row rows None is other =
    let turn : same_key q key ≡ false = same_key-turned q key ∙ other in
    sym (id_from-append_none 1 q rows (key, row) is ∙ ap (λ b. if b then Some (1 + length rows) else None) turn)
other_id key q row rows (Some id) is other = sym (id_from-append_some 1 q rows (key, row) id is)

-- one more game is kept under a key that is new, and the key has its id
pub HasIds-more : (ids new : Ids) (rows : List (Key × GameRow)) (key : Key) (row : GameRow) (id : ℕ) → id ≡ 1 + length rows
    → HasIds ids rows
    → id_from 1 key rows ≡ None → Updates same_key ids new key (Some id) → HasIds new (rows ++ (key, row) ∷ [])
HasIds-more ids new rows key row id at before none updates = λ q. elim (cases_Bool (same_key key q)) [
  | inl same ↦
      let equal : key ≡ q = key_from_same key q same in
      let turn : same_key q key ≡ true = same_key-turned q key ∙ same in
      let no : id_from 1 q rows ≡ None = ap (λ k. id_from 1 k rows) (sym equal) ∙ none in
      let here : get same_key new q ≡ Some id = rw same at (updates.0 q) in
      here ∙ ap Some at ∙ sym (id_from-append_none 1 q rows (key, row) no ∙ ap (λ b. if b then Some (1 + length rows) else None) turn)
  | inr other ↦
      let here : get same_key new q ≡ get same_key ids q = rw other at (updates.0 q) in
      here ∙ before q ∙ other_id key q row rows (id_from 1 q rows) refl other
]

-- an id that is found is that of one of the games
pub id_from-some : (key : Key) (rows : List (Key × GameRow)) (o : Option ℕ) → o ≡ id_from 1 key rows
    → IfSome o (λ id. (1 ≤ id) × (id ≤ length rows))
id_from-some key rows None is = tt
id_from-some key rows (Some id) is = let within = id_from-within 1 key rows id (sym is) in (within.0, omega arith)
