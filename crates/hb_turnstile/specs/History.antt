-- When is a list of calls legal? A history has the calls of all passes in the order in which the
-- machine took them.
use Rattle.std.specs.Prelude.{◌≡◌, ℕ, ◌==◌, List, [], ◌∷◌, filter}
use Rattle.hb_turnstile.specs.declared.view.Entry.{Entry}

module _ {C R : Type 0} where
  -- what the pass with this number asked, and what it was answered
  abbrev pub entry : ℕ → C → R → Entry C R
  entry number c r = record { pass = number; call = c; reply = r }

  -- the calls of the pass with this number, in their order
  abbrev pub calls_by : ℕ → List (Entry C R) → List (Entry C R)
  calls_by number es = filter (λ e. e.pass == number) es

module _ {M C R : Type 0} (turns : M → C → R → M → Type 0) where
  -- these calls, one after another and each with its reply, may lead from the one machine to the
  -- other
  abbrev pub Leads : M → List (Entry C R) → M → Type 0
  Leads m [] last = m ≡ last
  Leads m (e ∷ es) last = (next : M) × turns m e.call e.reply next × Leads next es last

  -- each reply is one that the machine gives in the state in which the calls before it leave it,
  -- from the machine at the start
  abbrev pub IsLegal : M → List (Entry C R) → Type 0
  IsLegal start es = (last : M) × Leads start es last
