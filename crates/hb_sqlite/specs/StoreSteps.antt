-- What does a step of a call on a store answer and leave?
use Rattle.std.specs.Prelude.{Result, IsTrue, IfOk, OnErr}
use Rattle.sqlite.specs.State.{State, HasCleanDisk}
use Rattle.hb_keeper.specs.KeptGames.{Content}
use Rattle.hb_sqlite.specs.StoreTables.{Tells}

-- the disk has returned what was written, and no failure has shut the store
pub record IsSure (s : State) : Type 0 where
  pub clean : HasCleanDisk s
  pub is_open : IsTrue s.is_open

-- A step answers what it finds in the content, and leaves the content that this gives. If it fails,
-- it leaves the content as it was.
pub record Does {A E : Type 0} (old new : State) (Finds : Content → A → Type 0) (left : Content
    → Content) (result : Result A E) : Type 0 where
  pub sure : IsSure new → IsSure old
  pub found : IsSure new → (content : Content) → Tells old content → IfOk result (Finds content)
  pub done : IsSure new → (content : Content) → Tells old content
      → IfOk result (λ _. Tells new (left content))
  pub failed : IsSure new → (content : Content) → Tells old content
      → OnErr result (Tells new content)

-- a step that changes nothing
abbrev pub Reads : {A E : Type 0} → State → State → (Content → A → Type 0) → Result A E → Type 0
Reads old new Finds result = Does old new Finds (λ content. content) result
