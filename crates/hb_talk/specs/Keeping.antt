-- What does a keeper answer that tells what it contains and which of its calls fail?
use Rattle.std.specs.Prelude.{ℕ, List, Option, Some, None, Result, Err}
use Rattle.hb_keeper.specs.declared.errors.KeepError.{KeepError}
use Rattle.hb_keeper.specs.declared.errors.KeepError.TheVariants.{Fault}
use Rattle.hb_keeper.specs.declared.fails.When.{When}
use Rattle.hb_keeper.specs.declared.fails.When.TheVariants.{Before, After}
use Rattle.hb_keeper.specs.KeptGames.{Content}
use Rattle.hb_keeper.specs.Plans.{failing, later}

-- what it contains, and how the calls to come fail
pub record Keeping : Type 0 where
  pub content : Content
  pub plan : List (ℕ × When)

-- the answer to a call and the keeper after it, by how the call fails: before its work, or after it
abbrev pub answer_by : {A : Type 0} → Option When → Keeping → Result A KeepError × Content
    → Result A KeepError × Keeping
answer_by None k done = (done.0, record { content = done.1; plan = later k.plan })
answer_by (Some Before) k done = (Err Fault, record { content = k.content; plan = later k.plan })
answer_by (Some After) k done = (Err Fault, record { content = done.1; plan = later k.plan })

-- a call with this work
abbrev pub keeper_call : {A : Type 0} → (Content → Result A KeepError × Content) → Keeping
    → Result A KeepError × Keeping
keeper_call work k = answer_by (failing k.plan) k (work k.content)
