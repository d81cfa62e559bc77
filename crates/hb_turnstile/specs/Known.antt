-- What are a turnstile and a pass to those who use them, and what do a call, a split and a join do
-- to a pass?
use Rattle.std.specs.Prelude.{◌≡◌, ◌≢◌, ℕ, Bool, true, false, if◌then◌else◌, nat_lt, List, [], ◌∷◌, ◌++◌, length}
use mathlib.Core.List.{IsPrefix}
use Rattle.atomic_table.specs.Seated.{TableId}
use Rattle.hb_turnstile.specs.declared.view.Entry.{Entry}
use Rattle.hb_turnstile.specs.History.{entry, calls_by, IsLegal}

-- a turnstile: its table, by which passes know it, and the machine that it began with
pub record Guarded (M : Type 0) : Type 0 where
  pub table : TableId
  pub start : M

-- a pass: the table of its turnstile, its number, the history that it has seen, and whether it has
-- the mark worn, which says that it, or a pass that it comes from, found that all tickets of the
-- turnstile were given
pub record Known (C R : Type 0) : Type 0 where
  pub table : TableId
  pub number : ℕ
  pub seen : List (Entry C R)
  pub worn : Bool

-- the longer of two lists
abbrev pub longer : {A : Type 0} → List A → List A → List A
longer xs ys = if nat_lt (length xs) (length ys) then ys else xs

module _ {C R : Type 0} where
  -- the pass that comes with a new turnstile: it has seen nothing
  abbrev pub first_pass : TableId → Known C R
  first_pass table = record { table = table; number = 0; seen = []; worn = false }

  -- the same pass, with the mark worn
  abbrev pub with_mark : Known C R → Known C R
  with_mark k = record k { worn = true }

  -- the same pass, which has seen this history
  abbrev pub with_history : List (Entry C R) → Known C R → Known C R
  with_history es k = record k { seen = es }

  -- the pass's own calls in what it has seen
  abbrev pub own_calls : Known C R → List (Entry C R)
  own_calls k = calls_by k.number k.seen

  -- a pass that comes from another: it knows the same, but has a number of its own, and has made no
  -- calls
  abbrev pub IsSplitOff : Known C R → Known C R → Type 0
  IsSplitOff k new =
      (new ≡ record k { number = new.number }) × (new.number ≢ k.number) × (own_calls new ≡ [])

-- The turns that the machine may take, and the machine at the start
module _ {M C R : Type 0} (turns : M → C → R → M → Type 0) (start : M) where
  -- A pass made a call and was answered. What it has seen then begins with what it had seen, goes
  -- on with calls of others, and ends with this call. That history is legal. Of the pass's own
  -- calls it has those that it had, and this one.
  abbrev pub Calls : Known C R → C → R → Known C R → Type 0
  Calls k c r after =
      ((others : List (Entry C R))
      × (after ≡ with_history ((k.seen ++ others) ++ entry k.number c r ∷ []) k))
      × IsLegal turns start after.seen
      × (own_calls after ≡ own_calls k ++ entry k.number c r ∷ [])

  -- A pass took another in. What it has seen then is the longer of the two histories. Both begin
  -- it, and it is legal. Of the pass's own calls it has those that it had.
  abbrev pub Joins : Known C R → Known C R → Known C R → Type 0
  Joins k other after =
      (after ≡ with_history (longer k.seen other.seen) k)
      × IsPrefix k.seen after.seen × IsPrefix other.seen after.seen
      × IsLegal turns start after.seen
      × (own_calls after ≡ own_calls k)
