-- What is known of a keeper, and what does a call of it leave known?
use Rattle.std.specs.Prelude.{◌≡◌, ◌⊎◌, ℕ, ⊤, true, is_some, List, Option, Some, None, Result, Err}
use Rattle.hb_keeper.specs.declared.errors.KeepError.{KeepError}
use Rattle.hb_keeper.specs.declared.errors.KeepError.TheVariants as keep
use Rattle.hb_keeper.specs.declared.fails.When.{When}
use Rattle.hb_keeper.specs.declared.fails.When.TheVariants.{Before, After}
use Rattle.hb_keeper.specs.KeptGames.{Content}
use Rattle.hb_keeper.specs.Plans.{failing}
use Rattle.hb_keeper.specs.Told.{Plans}

-- what a keeper tells: its content, and which of its calls to come fail. It may tell both, one of
-- them or nothing
pub record Telling : Type 0 where
  pub content : Option Content
  pub plan : Option (List (ℕ × When))

-- the content is among it
abbrev pub IsTold : Telling → Type 0
IsTold c = is_some c.content ≡ true

abbrev pub TellsContent : (Content → Type 0) → Option Content → Type 0
TellsContent tells None = ⊤
TellsContent tells (Some content) = tells content

abbrev pub Tells : (Content → Type 0) → Option (List (ℕ × When)) → Telling → Type 0
Tells tells plan c = TellsContent tells c.content × (c.plan ≡ plan)

-- if a content is told, it can be relied on
abbrev pub IsSureOf : Type 0 → Option Content → Type 0
IsSureOf sure None = ⊤
IsSureOf sure (Some content) = sure

abbrev pub IsSure : Type 0 → Telling → Type 0
IsSure sure c = IsSureOf sure c.content

-- a call that does its work

-- the keeper answered what this work on its content answers, and contains what the work leaves
abbrev pub WorkedOn : {A : Type 0} → (Content → Result A KeepError × Content) → Option Content
    → Result A KeepError → Option Content → Type 0
WorkedOn work None answer after = after ≡ None
WorkedOn work (Some content) answer after =
    (answer ≡ (work content).0) × (after ≡ Some (work content).1)

pub record Worked {A : Type 0} (work : Content → Result A KeepError × Content) (c : Telling)
    (answer : Result A KeepError) (d : Telling) : Type 0 where
  pub content : WorkedOn work c.content answer d.content
  -- if the plan is told, it says that this call does not fail
  pub plan : Plans c.plan d.plan answer

-- a call that is refused

-- how the next call fails, if that is told
abbrev pub next_failure : Option (List (ℕ × When)) → Option When
next_failure None = None
next_failure (Some plan) = failing plan

-- what a fault leaves: if it is told how the call fails, then that, and else the content with the
-- work done or not
abbrev pub FaultLeaves : Option When → (before worked : Content) → Option Content → Type 0
FaultLeaves (Some Before) before worked after = after ≡ Some before
FaultLeaves (Some After) before worked after = after ≡ Some worked
FaultLeaves None before worked after = (after ≡ Some before) ⊎ (after ≡ Some worked)

-- the work answers that the key differs, or that the numbers are used up; if memory ran out, the
-- work is not done
abbrev pub RefusalLeaves : {A : Type 0} → KeepError → Option When
    → (Content → Result A KeepError × Content) → Content → Option Content → Type 0
RefusalLeaves keep.Fault how work content after =
    FaultLeaves how content (work content).1 after
RefusalLeaves (keep.KeyDiffers id) how work content after =
    (Err (keep.KeyDiffers id) ≡ (work content).0) × (after ≡ Some (work content).1)
RefusalLeaves keep.UsedUp how work content after =
    (Err keep.UsedUp ≡ (work content).0) × (after ≡ Some (work content).1)
RefusalLeaves keep.NoMemory how work content after = after ≡ Some content

abbrev pub FailedOn : {A : Type 0} → KeepError → Option When
    → (Content → Result A KeepError × Content) → Option Content → Option Content → Type 0
FailedOn refusal how work None after = after ≡ None
FailedOn refusal how work (Some content) after = RefusalLeaves refusal how work content after

pub record Failed {A : Type 0} (refusal : KeepError)
    (work : Content → Result A KeepError × Content) (c d : Telling) : Type 0 where
  pub content : FailedOn refusal (next_failure c.plan) work c.content d.content
  -- if the plan is told, it says that this call fails, exactly at a fault
  pub plan : Plans {A = A} c.plan d.plan (Err refusal)
