-- What does the keeper in memory tell of its content and its plan, and what do its calls do?
use Rattle.std.specs.Prelude.{◌≡◌, ◌≢◌, ◌⊎◌, ◌≤◌, ℕ, List, Option, Some, None, Result, Err}
use Rattle.hb_io.specs.Causes.{next_count}
use Rattle.hb_keeper.specs.declared.errors.KeepError.{KeepError}
use Rattle.hb_keeper.specs.declared.errors.KeepError.TheVariants.{Fault, NoMemory}
use Rattle.hb_keeper.specs.declared.fails.When.{When}
use Rattle.hb_keeper.specs.declared.fails.When.TheVariants.{Before, After}
use Rattle.hb_keeper.specs.KeptGames.{Content}
use Rattle.hb_keeper.specs.Plans.{failing, later}

-- a keeper in memory
pub record MemoryKeeper : Type 0 where
  pub content : Content
  -- which of the calls to come fail
  pub plan : List (ℕ × When)
  -- how many calls failed, up to the largest u64
  pub faults : ℕ

-- the work of a call on a content is done, or there was no memory and nothing is done
pub record Works {A : Type 0} (work : Content → Result A KeepError × Content) (old new : Content)
    (answer : Result A KeepError) : Type 0 where
  pub done : answer ≢ Err NoMemory → (answer ≡ (work old).0) × (new ≡ (work old).1)
  pub no_memory : answer ≡ Err NoMemory → new ≡ old

-- a call met a fault, and left this content
pub record IsFaulted {A : Type 0} (left : Content) (old new : MemoryKeeper)
    (answer : Result A KeepError) : Type 0 where
  pub answers : answer ≡ Err Fault
  pub content : new.content ≡ left
  pub faults : new.faults ≡ next_count old.faults

-- a call was out of memory, and did nothing
pub record GivesUp {A : Type 0} (old new : MemoryKeeper)
    (answer : Result A KeepError) : Type 0 where
  pub answers : answer ≡ Err NoMemory
  pub content : new.content ≡ old.content
  pub faults : new.faults ≡ old.faults

-- a call answers and leaves this, by how the plan says that it fails
abbrev pub AnswersBy : {A : Type 0} → Option When → (Content → Result A KeepError × Content)
    → MemoryKeeper → MemoryKeeper → Result A KeepError → Type 0
AnswersBy None work old new answer =
    Works work old.content new.content answer × (new.faults ≡ old.faults)
AnswersBy (Some Before) work old new answer = IsFaulted old.content old new answer
AnswersBy (Some After) work old new answer =
    IsFaulted (work old.content).1 old new answer ⊎ GivesUp old new answer

-- a call goes by the plan, which then names the calls after it
pub record GoesByPlan {A : Type 0} (work : Content → Result A KeepError × Content)
    (old new : MemoryKeeper) (answer : Result A KeepError) : Type 0 where
  pub answers : AnswersBy (failing old.plan) work old new answer
  pub plan : new.plan ≡ later old.plan
  pub never_less : old.faults ≤ new.faults
