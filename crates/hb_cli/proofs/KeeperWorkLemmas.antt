-- What is done with a keeper, by what its calls do?
use Rattle.std.proofs.Common.{◌≡◌, ◌≢◌, ℕ, Bool, true, false, IsTrue, List, [], Option, inl, inr, refl, subst, sym}
use Rattle.std.specs.Prelude.{◌⊎◌, Result, Ok, Err}
use Rattle.hb_keeper.specs.declared.errors.KeepError.{KeepError}
use Rattle.hb_keeper.specs.declared.errors.KeepError.TheVariants as keep
use Rattle.hb_keeper.specs.declared.fails.When.{When}
use Rattle.hb_keeper.specs.declared.rows.Line.{Line}
use Rattle.hb_keeper.specs.KeptGames.{Content, of_member_on, open_run_on}
use Rattle.hb_keeper.specs.Told.{FaultsAsPlanned, IsFailure, Keeps, Plans}
use Rattle.hb_club.specs.Fronts.{Fronts, House, no_events}
use Rattle.hb_house.specs.declared.plain.TheConstants.{MOST_ROOMS}
use Rattle.hb_house.specs.ClerkRounds.{AtEach}
use Rattle.hb_house.specs.KeeperSteps.{IsSure, Telling, Tells}
use Rattle.hb_house.specs.PlainHalls.{house_with}
use Rattle.hb_house.proofs.KeeperStepsLemmas.{failed, sure_before, worked, worked_sure}
use Rattle.hb_script.specs.declared.scripts.Script.{Script}
use Rattle.hb_script.specs.GamesText.{games_text}
use Rattle.hb_run.specs.declared.ends.RunEnd.{RunEnd}
use Rattle.hb_run.specs.declared.ends.RunEnd.TheVariants as ends
use Rattle.hb_run.specs.HeldRuns.{EndsAt, StopsAt}
use Rattle.hb_run.specs.RunLines.{first_state}
use Rattle.hb_run.specs.ScriptRuns.{RunsAll, RunsSome}
use Rattle.hb_run.proofs.RunsLemmas.{left-all, left-some}
use Rattle.hb_cli.specs.declared.status.Stop.{Stop}
use Rattle.hb_cli.specs.declared.status.Stop.TheVariants as stop
use Rattle.hb_cli.specs.Asked.{Asked}
use Rattle.hb_cli.specs.Statuses.{stop_of_keeping, stop_of_run}
use Rattle.hb_cli.specs.Works.{AtTold, KeeperRefused, ListedGames, OfGames, OfScript, RanScript, Stops, StoppedScript}
use Rattle.hb_cli.specs.Written.{FailsIn, Sent, Writes}

-- a call that was refused, and nothing was written
pub refused : {A : Type 0} (work : Content → Result A KeepError × Content) (before after : Content → Type 0)
    (plan next : Option (List (ℕ × When))) (sure : Type 0) (why : KeepError) (out : Sent)
    → (sure → Keeps work before after (Err why)) → (sure → FaultsAsPlanned work before after plan (Err why))
    → Plans {A = A} plan next (Err why) → Writes out []
    → AtTold (Tells before plan) sure (KeeperRefused (Tells after next) why work out)
refused work before after plan next sure why out keeps planned plans nothing = λ c told is.
    let f = failed work before after plan next sure why c keeps planned plans told is in
    record { left = f.keeper; told = f.told; failed = f.is; nothing = nothing }

-- the games that were listed, of which something was written
pub listed : (name : List ℕ) (before after : Content → Type 0) (plan next : Option (List (ℕ × When))) (sure : Type 0)
    (lines : List Line) (Wrote : List ℕ → Type 0) → (sure → Keeps (of_member_on name) before after (Ok lines))
    → Plans {A = List Line} plan next (Ok lines) → Wrote (games_text lines)
    → AtTold (Tells before plan) sure (ListedGames (Tells after next) Wrote name)
listed name before after plan next sure lines Wrote keeps plans wrote = λ c told is.
    let done = worked (of_member_on name) before after plan next sure lines c keeps plans told is in
    record { lines = lines; left = done.keeper; told = done.told; listed = done.is; wrote = wrote }

-- the lines of a script behind the call that began a run
module _ (before mid : Content → Type 0) (plan next : Option (List (ℕ × When))) (Stood Stands : Fronts → Type 0)
    (Left : Telling → Type 0) (now then : Type 0) (s : Script) (run : ℕ) (out : Sent) (h : House) (count : ℕ)
    (in_house : h ≡ house_with s.shoe run) (of_rooms : count ≡ MOST_ROOMS) (back : now → then)
    (keeps : then → Keeps open_run_on before mid (Ok run)) (plans : Plans {A = ℕ} plan next (Ok run)) (stood : Stood no_events) where
  -- if the keeper began a run and all lines behind that call were run, the script was run to its end
  pub ran : (faulted : Bool)
      → AtEach Stood (Tells mid next) now (λ f c. RunsAll (EndsAt Stands Left faulted) h count true s.lines
      (first_state f c) out.held_before out.held)
      → AtTold (Tells before plan) now (RanScript Left s faulted out)
  ran faulted each = λ c told is.
      let was = worked open_run_on before mid plan next then run c keeps plans told (sure_before c now then back is) in
      let still : IsSure now was.keeper = worked_sure now open_run_on c (Ok run) was.keeper was.is is in
      record {
        begun = record { run = run; keeper = was.keeper; began = was.is };
        lines = left-all _ _ _ _ _ s.lines (first_state no_events was.keeper) _ _ (λ t at. (at.outside.told, sym at.answer))
            (subst (λ (x : House). RunsAll (EndsAt Stands Left faulted) x MOST_ROOMS true s.lines
            (first_state no_events was.keeper) out.held_before out.held) in_house
            (subst (λ (n : ℕ). RunsAll (EndsAt Stands Left faulted) h n true s.lines
            (first_state no_events was.keeper) out.held_before out.held) of_rooms
            (each no_events was.keeper stood was.told still)));
      }

  -- if the keeper began a run and the lines behind that call stopped for a cause, so did the script
  pub halted : (why : RunEnd) (faults_before faults : ℕ)
      → AtEach Stood (Tells mid next) now (λ f c. RunsSome (StopsAt Stands Left faults_before faults) h count true s.lines
      (first_state f c) out.held_before out.held why)
      → AtTold (Tells before plan) now (StoppedScript Left s why out)
  halted why faults_before faults each = λ c told is.
      let was = worked open_run_on before mid plan next then run c keeps plans told (sure_before c now then back is) in
      let still : IsSure now was.keeper = worked_sure now open_run_on c (Ok run) was.keeper was.is is in
      record {
        begun = record { run = run; keeper = was.keeper; began = was.is };
        lines = left-some _ _ _ _ _ s.lines (first_state no_events was.keeper) _ _ why (λ t at. at.outside.told)
            (subst (λ (x : House). RunsSome (StopsAt Stands Left faults_before faults) x MOST_ROOMS true s.lines
            (first_state no_events was.keeper) out.held_before out.held why) in_house
            (subst (λ (n : ℕ). RunsSome (StopsAt Stands Left faults_before faults) h n true s.lines
            (first_state no_events was.keeper) out.held_before out.held why) of_rooms
            (each no_events was.keeper stood was.told still)));
      }

-- a hall without marks is not worn
pub not_worn : (why : RunEnd) → (why ≡ ends.Worn → IsTrue false ⊎ ((room : ℕ) × IsTrue false)) → why ≢ ends.Worn
not_worn why marked = λ e. no (marked e)
  where
    no : IsTrue false ⊎ ((room : ℕ) × IsTrue false) → ⊥
    no (inl e) = let same : false ≡ true = e in cc
    no (inr e) = let same : false ≡ true = e.1 in cc

-- which cause a refusal is

module _ (a : Asked) (Was Left : Telling → Type 0) (sure : Type 0) (out : Sent) where
  -- if the run of the script stopped, and not at a worn hall, the work stops for the cause of that
  pub run_stops : (why : RunEnd) → why ≢ ends.Worn → OfScript a Was sure (λ s. StoppedScript Left s why out)
      → Stops a Was Left sure out (stop_of_run why)
  run_stops ends.WriteFault sound done = inl done
  run_stops (ends.KeyDiffers id) sound done = done
  run_stops ends.UsedUp sound done = inl done
  run_stops ends.Worn sound done = absurd (sound refl)
  run_stops ends.NoMemory sound done = inl done

  -- if the keeper refused to begin a run, and not for a key that differs, the work stops for that
  pub run_refused : (why : KeepError) → ((id : ℕ) → why ≢ keep.KeyDiffers id)
      → OfScript a Was sure (λ s. KeeperRefused Left why open_run_on out) → Writes out [] → Stops a Was Left sure out (stop_of_keeping why)
  run_refused keep.Fault other done nothing = inr (inl done)
  run_refused (keep.KeyDiffers id) other done nothing = absurd (other id refl)
  run_refused keep.UsedUp other done nothing = inr done
  run_refused keep.NoMemory other done nothing = inr nothing

  -- if the keeper failed or had no memory when it was to list games, the work stops for that
  pub games_refused : (why : KeepError) → IsFailure why
      → OfGames a Was sure (λ name. KeeperRefused Left why (of_member_on name) out) → Writes out []
      → Stops a Was Left sure out (stop_of_keeping why)
  games_refused keep.Fault failure done nothing = inr (inr done)
  games_refused (keep.KeyDiffers id) failure done nothing = absurd (no failure)
    where
      no : IsFailure (keep.KeyDiffers id) → ⊥
      no (inl e) = cc
      no (inr e) = cc
  games_refused keep.UsedUp failure done nothing = absurd (no failure)
    where
      no : IsFailure keep.UsedUp → ⊥
      no (inl e) = cc
      no (inr e) = cc
  games_refused keep.NoMemory failure done nothing = inr nothing

  -- if games were listed and the output failed in their text, the work stops for that fault
  pub listed_fails : (why : Stop) → why ≡ stop.WriteFault → OfGames a Was sure (ListedGames Left (FailsIn out))
      → Stops a Was Left sure out why
  listed_fails why is done = subst (Stops a Was Left sure out) (sym is) (inr (inr (inl done)))
