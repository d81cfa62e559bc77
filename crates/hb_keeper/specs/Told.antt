-- What does an answer say of a keeper before and after the call? A keeper may tell its content and
-- its plan.
use Rattle.std.specs.Prelude.{◌≡◌, ◌≢◌, ℕ, ◌≤◌, ◌⊎◌, true, is_some, List, Option, Some, None, Result, Err}
use Rattle.hb_io.specs.Causes.{Rose}
use Rattle.hb_keeper.specs.declared.errors.KeepError.{KeepError}
use Rattle.hb_keeper.specs.declared.errors.KeepError.TheVariants.{Fault, KeyDiffers, NoMemory}
use Rattle.hb_keeper.specs.declared.fails.When.{When}
use Rattle.hb_keeper.specs.declared.fails.When.TheVariants.{Before as FailsBefore, After as FailsAfter}
use Rattle.hb_keeper.specs.KeptGames.{Content}
use Rattle.hb_keeper.specs.Plans.{failing, later}

-- Of each content that the keeper tells before: the call answers and leaves what its work on that
-- content does. At a fault the work is done or not.
pub record Keeps {A : Type 0} (work : Content → Result A KeepError × Content)
    (Before After : Content → Type 0) (answer : Result A KeepError) : Type 0 where
  pub done : (content : Content) → Before content → answer ≢ Err Fault → answer ≢ Err NoMemory
      → (answer ≡ (work content).0) × After (work content).1
  pub faulted : (content : Content) → Before content → answer ≡ Err Fault
      → After content ⊎ After (work content).1
  pub no_memory : (content : Content) → Before content → answer ≡ Err NoMemory → After content

-- the count of faults never falls, rose if the call met a fault, and is as before after every other
-- answer
pub record HasCause {A : Type 0} (before now : ℕ) (answer : Result A KeepError) : Type 0 where
  pub later : before ≤ now
  pub fault : answer ≡ Err Fault → Rose before now
  pub kept : answer ≢ Err Fault → now ≡ before

-- If the plan is told, a call meets a fault if the plan says so of the next call, and at no other.
-- A call that fails after its work may be out of memory for the work instead.
pub record Plans {A : Type 0} (old new : Option (List (ℕ × When))) (answer : Result A KeepError)
    : Type 0 where
  pub silent : old ≡ None → new ≡ None
  pub next : (plan : List (ℕ × When)) → old ≡ Some plan → new ≡ Some (later plan)
  pub works : (plan : List (ℕ × When)) → old ≡ Some plan → answer ≡ Err Fault
      → is_some (failing plan) ≡ true
  pub before : (plan : List (ℕ × When)) → old ≡ Some plan → failing plan ≡ Some FailsBefore
      → answer ≡ Err Fault
  pub after : (plan : List (ℕ × When)) → old ≡ Some plan → failing plan ≡ Some FailsAfter
      → (answer ≡ Err Fault) ⊎ (answer ≡ Err NoMemory)

-- If the plan is told, a call that it names to fail before its work leaves the content, and a fault
-- of one that it names to fail after its work leaves the content that the work leaves.
pub record FaultsAsPlanned {A : Type 0} (work : Content → Result A KeepError × Content)
    (Before After : Content → Type 0) (told : Option (List (ℕ × When)))
    (answer : Result A KeepError) : Type 0 where
  pub before : (plan : List (ℕ × When)) → told ≡ Some plan → failing plan ≡ Some FailsBefore
      → (content : Content) → Before content → After content
  pub after : (plan : List (ℕ × When)) → told ≡ Some plan → failing plan ≡ Some FailsAfter
      → answer ≡ Err Fault → (content : Content) → Before content → After (work content).1

-- the keeper failed, or there was no memory
abbrev pub IsFailure : KeepError → Type 0
IsFailure why = (why ≡ Fault) ⊎ (why ≡ NoMemory)

-- the answer is not that a key is kept with another game
abbrev pub NeverDiffers : {A : Type 0} → Result A KeepError → Type 0
NeverDiffers answer = (id : ℕ) → answer ≢ Err (KeyDiffers id)
