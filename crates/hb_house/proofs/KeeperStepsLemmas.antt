-- What does a keeper tell behind a call, if it told something before?
use Rattle.std.proofs.Common.{◌≡◌, ◌≢◌, ℕ, refl, sym, subst, inl, inr, Some, None, Ok, Err}
use Rattle.std.specs.Prelude.{List, Option, Result, ◌⊎◌}
use Rattle.hb_keeper.specs.declared.errors.KeepError.{KeepError}
use Rattle.hb_keeper.specs.declared.errors.KeepError.TheVariants as keep
use Rattle.hb_keeper.specs.declared.fails.When.{When}
use Rattle.hb_keeper.specs.declared.fails.When.TheVariants.{Before, After}
use Rattle.hb_keeper.specs.KeptGames.{Content}
use Rattle.hb_keeper.specs.Told.{FaultsAsPlanned, Keeps, Plans}
use Rattle.hb_house.specs.KeeperSteps.{Failed, FailedOn, FaultLeaves, IsSure, IsSureOf, Telling, Tells, TellsContent, Worked, WorkedOn, next_failure}

-- some content that a keeper tells, of which this holds
pub record SomeContent (tells : Content → Type 0) (P : Option Content → Type 0) : Type 0 where
  pub content : Option Content
  pub told : TellsContent tells content
  pub is : P content

-- what a keeper tells, of which this holds
pub record SomeTelling (tells : Telling → Type 0) (P : Telling → Type 0) : Type 0 where
  pub keeper : Telling
  pub told : tells keeper
  pub is : P keeper

-- a call that does its work

worked_on : {A : Type 0} (work : Content → Result A KeepError × Content) (before after : Content → Type 0) (sure : Type 0) (a : A)
    (c : Option Content) → (sure → Keeps work before after (Ok a)) → TellsContent before c → IsSureOf sure c
    → SomeContent after (WorkedOn work c (Ok a))
worked_on {A} work before after sure a None keeps told is = record { content = None; told = tt; is = refl }
worked_on {A} work before after sure a (Some c) keeps told is =
    let fault : ◌≢◌ {A = Result A KeepError} (Ok a) (Err keep.Fault) = λ e. cc in
    let memory : ◌≢◌ {A = Result A KeepError} (Ok a) (Err keep.NoMemory) = λ e. cc in
    let done = (keeps is).done c told fault memory in
    record { content = Some (work c).1; told = done.1; is = (done.0, refl) }

-- behind a call that did its work
pub worked : {A : Type 0} (work : Content → Result A KeepError × Content) (before after : Content → Type 0)
    (plan next : Option (List (ℕ × When))) (sure : Type 0) (a : A) (c : Telling)
    → (sure → Keeps work before after (Ok a)) → Plans {A = A} plan next (Ok a) → Tells before plan c → IsSure sure c
    → SomeTelling (Tells after next) (Worked work c (Ok a))
worked {A} work before after plan next sure a c keeps plans told is =
    let x = worked_on work before after sure a c.content keeps told.0 is in
    record {
      keeper = record { content = x.content; plan = next };
      told = (x.told, refl);
      is = record { content = x.is; plan = subst (λ p. Plans {A = A} p next (Ok a)) (sym told.1) plans };
    }

-- a call that is refused

-- a fault leaves what is told of it
faulted : {A : Type 0} (work : Content → Result A KeepError × Content) (before after : Content → Type 0)
    (plan : Option (List (ℕ × When))) (c : Content) → Keeps work before after (Err keep.Fault)
    → FaultsAsPlanned work before after plan (Err keep.Fault) → before c
    → (how : Option When) → next_failure plan ≡ how → SomeContent after (FaultLeaves how c (work c).1)
faulted work before after plan c keeps planned told None is = by (keeps.faulted c told refl)
  where
    by : after c ⊎ after (work c).1 → SomeContent after (FaultLeaves None c (work c).1)
    by (inl same) = record { content = Some c; told = same; is = inl refl }
    by (inr done) = record { content = Some (work c).1; told = done; is = inr refl }
faulted work before after None c keeps planned told (Some how) is = absurd cc
faulted work before after (Some plan) c keeps planned told (Some Before) is =
    record { content = Some c; told = planned.before plan refl is c told; is = refl }
faulted work before after (Some plan) c keeps planned told (Some After) is =
    record { content = Some (work c).1; told = planned.after plan refl is refl c told; is = refl }

failed_on : {A : Type 0} (work : Content → Result A KeepError × Content) (before after : Content → Type 0)
    (plan : Option (List (ℕ × When))) (sure : Type 0) (why : KeepError) (c : Option Content)
    → (sure → Keeps work before after (Err why)) → (sure → FaultsAsPlanned work before after plan (Err why))
    → TellsContent before c → IsSureOf sure c → SomeContent after (FailedOn why (next_failure plan) work c)
failed_on work before after plan sure why None keeps planned told is = record { content = None; told = tt; is = refl }
failed_on {A} work before after plan sure keep.Fault (Some c) keeps planned told is =
    faulted work before after plan c (keeps is) (planned is) told (next_failure plan) refl
failed_on {A} work before after plan sure (keep.KeyDiffers id) (Some c) keeps planned told is =
    let fault : ◌≢◌ {A = Result A KeepError} (Err (keep.KeyDiffers id)) (Err keep.Fault) = λ e. cc in
    let memory : ◌≢◌ {A = Result A KeepError} (Err (keep.KeyDiffers id)) (Err keep.NoMemory) = λ e. cc in
    let done = (keeps is).done c told fault memory in
    record { content = Some (work c).1; told = done.1; is = (done.0, refl) }
failed_on {A} work before after plan sure keep.UsedUp (Some c) keeps planned told is =
    let fault : ◌≢◌ {A = Result A KeepError} (Err keep.UsedUp) (Err keep.Fault) = λ e. cc in
    let memory : ◌≢◌ {A = Result A KeepError} (Err keep.UsedUp) (Err keep.NoMemory) = λ e. cc in
    let done = (keeps is).done c told fault memory in
    record { content = Some (work c).1; told = done.1; is = (done.0, refl) }
failed_on {A} work before after plan sure keep.NoMemory (Some c) keeps planned told is =
    record { content = Some c; told = (keeps is).no_memory c told refl; is = refl }

-- behind a call that was refused
pub failed : {A : Type 0} (work : Content → Result A KeepError × Content) (before after : Content → Type 0)
    (plan next : Option (List (ℕ × When))) (sure : Type 0) (why : KeepError) (c : Telling)
    → (sure → Keeps work before after (Err why)) → (sure → FaultsAsPlanned work before after plan (Err why))
    → Plans {A = A} plan next (Err why) → Tells before plan c → IsSure sure c
    → SomeTelling (Tells after next) (Failed why work c)
failed {A} work before after plan next sure why c keeps planned plans told is =
    let x = failed_on work before after plan sure why c.content keeps planned told.0 is in
    record {
      keeper = record { content = x.content; plan = next };
      told = (x.told, refl);
      is = record {
        content = subst (λ p. FailedOn why (next_failure p) work c.content x.content) (sym told.1) x.is;
        plan = subst (λ p. Plans {A = A} p next (Err why)) (sym told.1) plans;
      };
    }

-- what can be relied on

sure_of : (c : Option Content) (now before : Type 0) → (now → before) → IsSureOf now c → IsSureOf before c
sure_of None now before back is = tt
sure_of (Some c) now before back is = back is

-- what can be relied on then could be relied on before
pub sure_before : (c : Telling) (now before : Type 0) → (now → before) → IsSure now c → IsSure before c
sure_before c now before back is = sure_of c.content now before back is

worked_sure_of : {A : Type 0} (sure : Type 0) (work : Content → Result A KeepError × Content) (c : Option Content)
    (a : Result A KeepError) (d : Option Content) → WorkedOn work c a d → IsSureOf sure c → IsSureOf sure d
worked_sure_of sure work None a d is at = subst (IsSureOf sure) (sym is) tt
worked_sure_of sure work (Some c) a d is at = subst (IsSureOf sure) (sym is.1) at

-- work leaves a content told that was told
pub worked_sure : {A : Type 0} (sure : Type 0) (work : Content → Result A KeepError × Content) (c : Telling)
    (a : Result A KeepError) (d : Telling) → Worked work c a d → IsSure sure c → IsSure sure d
worked_sure sure work c a d is at = worked_sure_of sure work c.content a d.content is.content at
