-- What does a keeper answer to a call, and what does it tell behind it, if it tells what it contains, and maybe which of its calls fail?
use Rattle.std.proofs.Common.{◌≡◌, ◌≢◌, ℕ, Bool, true, false, List, [], refl, sym, ap, subst, ◌∙◌, inl, inr, Some, None, Ok, Err, is_some}
use Rattle.std.specs.Prelude.{◌⊎◌, Option, Result}
use Rattle.hb_keeper.specs.declared.errors.KeepError.{KeepError}
use Rattle.hb_keeper.specs.declared.errors.KeepError.TheVariants as keep
use Rattle.hb_keeper.specs.declared.fails.When.{When}
use Rattle.hb_keeper.specs.declared.fails.When.TheVariants.{Before, After}
use Rattle.hb_keeper.specs.KeptGames.{Content}
use Rattle.hb_keeper.specs.Plans.{failing, later}
use Rattle.hb_keeper.specs.Told.{Plans}
use Rattle.hb_house.specs.KeeperSteps.{Failed, FailedOn, FaultLeaves, RefusalLeaves, Telling, Worked, WorkedOn, next_failure}
use Rattle.hb_talk.specs.Keeping.{Keeping, answer_by, keeper_call}
use Rattle.hb_run.specs.LoneRuns.{telling}

-- a keeper of which no plan is told has none
abbrev pub HasNoPlan : Bool → Keeping → Type 0
HasNoPlan planned k = planned ≡ false → k.plan ≡ []

-- the answer to a call, and the keeper behind it
pub record CallIs (planned : Bool) {A : Type 0} (work : Content → Result A KeepError × Content) (k : Keeping)
    (answer : Result A KeepError) (d : Telling) : Type 0 where
  pub left : Keeping
  pub is : keeper_call work k ≡ (answer, left)
  pub told : d ≡ telling planned left
  pub plan : HasNoPlan planned left

-- what is told behind a call

telling-is : (planned : Bool) (d : Telling) (k : Keeping) → d.content ≡ Some k.content → d.plan ≡ (telling planned k).plan
    → d ≡ telling planned k
telling-is true d k content plan =
    ap (λ (x : Option Content). record { content = x; plan = d.plan }) content
    ∙ ap (λ (x : Option (List (ℕ × When))). record { content = Some k.content; plan = x }) plan
telling-is false d k content plan =
    ap (λ (x : Option Content). record { content = x; plan = d.plan }) content
    ∙ ap (λ (x : Option (List (ℕ × When))). record { content = Some k.content; plan = x }) plan

plan-behind : {A : Type 0} (planned : Bool) (k : Keeping) (content : Content) (d : Telling) (answer : Result A KeepError)
    → Plans (telling planned k).plan d.plan answer
    → d.plan ≡ (telling planned (record { content = content; plan = later k.plan })).plan
plan-behind true k content d answer plans = plans.next k.plan refl
plan-behind false k content d answer plans = plans.silent refl

no_plan-behind : (planned : Bool) (k : Keeping) (content : Content) → HasNoPlan planned k
    → HasNoPlan planned (record { content = content; plan = later k.plan })
no_plan-behind planned k content none is = ap later (none is)

-- a call whose answer and whose failure are these
call-is : {A : Type 0} (planned : Bool) (work : Content → Result A KeepError × Content) (k : Keeping) (answer : Result A KeepError)
    (d : Telling) (how : Option When) (content : Content) → HasNoPlan planned k → failing k.plan ≡ how
    → answer_by how k (work k.content) ≡ (answer, record { content = content; plan = later k.plan })
    → d.content ≡ Some content → Plans (telling planned k).plan d.plan answer → CallIs planned work k answer d
call-is planned work k answer d how content none fails is told plans =
    let left : Keeping = record { content = content; plan = later k.plan } in
    record {
      left = left;
      is = rw fails is;
      told = telling-is planned d left told (plan-behind planned k content d answer plans);
      plan = no_plan-behind planned k content none;
    }

-- a call that answers no fault, and does not give up, is not one of those that fail
never-fails : {A : Type 0} (planned : Bool) (k : Keeping) (d : Telling) (answer : Result A KeepError) → HasNoPlan planned k
    → Plans (telling planned k).plan d.plan answer → answer ≢ Err keep.Fault → answer ≢ Err keep.NoMemory
    → failing k.plan ≡ None
never-fails true k d answer none plans fault memory = by (failing k.plan) refl
  where
    never : (answer ≡ Err keep.Fault) ⊎ (answer ≡ Err keep.NoMemory) → ⊥
    never (inl bad) = fault bad
    never (inr bad) = memory bad

    by : (how : Option When) → failing k.plan ≡ how → failing k.plan ≡ None
    by None fails = fails
    by (Some Before) fails = absurd (fault (plans.before k.plan refl fails))
    by (Some After) fails = absurd (never (plans.after k.plan refl fails))
never-fails false k d answer none plans fault memory = ap failing (none refl)

content-told : (planned : Bool) (k : Keeping) → (telling planned k).content ≡ Some k.content
content-told true k = refl
content-told false k = refl

-- a call that did its work
pub worked-call : {A : Type 0} (planned : Bool) (work : Content → Result A KeepError × Content) (k : Keeping) (a : A) (d : Telling)
    → HasNoPlan planned k → Worked work (telling planned k) (Ok a) d → CallIs planned work k (Ok a) d
worked-call {A} planned work k a d none w =
    let left : Keeping = record { content = (work k.content).1; plan = later k.plan } in
    let content : WorkedOn work (Some k.content) (Ok a) d.content =
    subst (λ (x : Option Content). WorkedOn work x (Ok a) d.content) (content-told planned k) w.content in
    let fails : failing k.plan ≡ None = never-fails {A = A} planned k d (Ok a) none w.plan (λ is. cc) (λ is. cc) in
    call-is {A = A} planned work k (Ok a) d None (work k.content).1 none fails
    (ap (λ (r : Result A KeepError). (r, left)) (sym content.0)) content.1 w.plan

-- one whose work refuses
refused : {A : Type 0} (planned : Bool) (work : Content → Result A KeepError × Content) (k : Keeping) (refusal : KeepError) (d : Telling)
    → HasNoPlan planned k → refusal ≢ keep.Fault → refusal ≢ keep.NoMemory
    → ◌≡◌ {A = Result A KeepError} (Err refusal) (work k.content).0 → d.content ≡ Some (work k.content).1
    → Plans {A = A} (telling planned k).plan d.plan (Err refusal) → CallIs planned {A = A} work k (Err refusal) d
refused {A} planned work k refusal d none fault memory is content plans =
    let left : Keeping = record { content = (work k.content).1; plan = later k.plan } in
    let fails : failing k.plan ≡ None =
    never-fails {A = A} planned k d (Err refusal) none plans (λ bad. fault (err bad)) (λ bad. memory (err bad)) in
    call-is {A = A} planned work k (Err refusal) d None (work k.content).1 none fails
    (ap (λ (r : Result A KeepError). (r, left)) (sym is)) content plans
  where
    err : {x y : KeepError} → ◌≡◌ {A = Result A KeepError} (Err x) (Err y) → x ≡ y
    err same = cc

-- one that met a fault, of which it is told
faulted : {A : Type 0} (work : Content → Result A KeepError × Content) (k : Keeping) (d : Telling)
    → Failed keep.Fault work (telling true k) d → CallIs true {A = A} work k (Err keep.Fault) d
faulted {A} work k d f = by (failing k.plan) refl
  where
    none : HasNoPlan true k
    none is = absurd cc

    leaves : FaultLeaves (failing k.plan) k.content (work k.content).1 d.content
    leaves = f.content

    by : (how : Option When) → failing k.plan ≡ how → CallIs true {A = A} work k (Err keep.Fault) d
    by None fails =
        let some : is_some (failing k.plan) ≡ true = f.plan.works k.plan refl refl in
        let not_some : is_some (failing k.plan) ≡ false = ap (λ (x : Option When). is_some x) fails in
        absurd cc
    by (Some Before) fails =
        call-is {A = A} true work k (Err keep.Fault) d (Some Before) k.content none fails refl
        (subst (λ (x : Option When). FaultLeaves x k.content (work k.content).1 d.content) fails leaves) f.plan
    by (Some After) fails =
        call-is {A = A} true work k (Err keep.Fault) d (Some After) (work k.content).1 none fails refl
        (subst (λ (x : Option When). FaultLeaves x k.content (work k.content).1 d.content) fails leaves) f.plan

-- the cause is known: it is not want of memory, and no fault unless faults are told
pub record IsKnown (planned : Bool) (refusal : KeepError) : Type 0 where
  pub memory : refusal ≢ keep.NoMemory
  pub fault : refusal ≡ keep.Fault → planned ≡ true

-- one that was refused for such a cause
pub failed-call : {A : Type 0} (planned : Bool) (work : Content → Result A KeepError × Content) (k : Keeping) (refusal : KeepError)
    (d : Telling) → HasNoPlan planned k → IsKnown planned refusal → Failed refusal work (telling planned k) d
    → CallIs planned {A = A} work k (Err refusal) d
failed-call {A} planned work k keep.Fault d none known f =
    let told : planned ≡ true = known.fault refl in
    subst (λ (b : Bool). CallIs b {A = A} work k (Err keep.Fault) d) (sym told)
    (faulted work k d (subst (λ (b : Bool). Failed keep.Fault work (telling b k) d) told f))
failed-call {A} planned work k (keep.KeyDiffers id) d none known f =
    let how : Option When = next_failure (telling planned k).plan in
    let content : RefusalLeaves (keep.KeyDiffers id) how work k.content d.content =
    subst (λ (x : Option Content). FailedOn (keep.KeyDiffers id) how work x d.content) (content-told planned k) f.content in
    refused planned work k (keep.KeyDiffers id) d none (λ is. cc) (λ is. cc) content.0 content.1 f.plan
failed-call {A} planned work k keep.UsedUp d none known f =
    let how : Option When = next_failure (telling planned k).plan in
    let content : RefusalLeaves keep.UsedUp how work k.content d.content =
    subst (λ (x : Option Content). FailedOn keep.UsedUp how work x d.content) (content-told planned k) f.content in
    refused planned work k keep.UsedUp d none (λ is. cc) (λ is. cc) content.0 content.1 f.plan
failed-call {A} planned work k keep.NoMemory d none known f = absurd (known.memory refl)
