-- What is known of a keeper behind the beginning of a run, and of one that refused it?
use Rattle.std.proofs.Common.{◌≡◌, ◌≢◌, ◌∙◌, ℕ, List, None, Some, refl, inr}
use Rattle.std.specs.Prelude.{Option, Ok, Err, IfSome}
use Rattle.hb_keeper.specs.declared.errors.KeepError.{KeepError}
use Rattle.hb_keeper.specs.declared.errors.KeepError.TheVariants as keep
use Rattle.hb_keeper.specs.declared.fails.When.{When}
use Rattle.hb_keeper.specs.KeptGames.{Content, open_run_on}
use Rattle.hb_keeper.specs.Told.{FaultsAsPlanned, Keeps, Plans}
use Rattle.hb_club.specs.Fronts.{House}
use Rattle.hb_house.specs.KeeperSteps.{Telling, Tells}
use Rattle.hb_house.proofs.KeeperStepsLemmas.{failed, worked}
use Rattle.hb_cli.specs.Works.{AtTold}
use Rattle.hb_server.specs.Houses.{BeganRun, OpensHouse, OpensNone, RefusedRun, not_begun}

module _ (before after : Content → Type 0) (plan next : Option (List (ℕ × When))) (sure : Type 0) where
  -- a run was begun
  pub began-run : (run : ℕ) → (sure → Keeps open_run_on before after (Ok run)) → Plans {A = ℕ} plan next (Ok run)
      → AtTold (Tells before plan) sure (BeganRun (Tells after next))
  began-run run keeps plans = λ c told is.
      let was = worked open_run_on before after plan next sure run c keeps plans told is in
      record { begun = record { run = run; keeper = was.keeper; began = was.is }; told = was.told }

  -- a house was opened for it
  pub opens-house : (run : ℕ) (seed : Option (List ℕ)) (h : House) → (sure → Keeps open_run_on before after (Ok run))
      → Plans {A = ℕ} plan next (Ok run) → h.run ≡ run → IfSome seed (λ told. h.seed ≡ told) → h.written ≡ None
      → AtTold (Tells before plan) sure (OpensHouse (Tells after next) seed h)
  opens-house run seed h keeps plans of_run of_seed shuffled = λ c told is.
      let was = worked open_run_on before after plan next sure run c keeps plans told is in
      record {
        begun = record { run = run; keeper = was.keeper; began = was.is };
        told = was.told;
        run = of_run;
        seed_is = of_seed;
        shuffled = shuffled;
      }

  -- a run was refused
  pub refused-run : (why : KeepError) → (sure → Keeps open_run_on before after (Err why))
      → (sure → FaultsAsPlanned open_run_on before after plan (Err why)) → Plans {A = ℕ} plan next (Err why)
      → AtTold (Tells before plan) sure (RefusedRun (Tells after next) why)
  refused-run why keeps planned plans = λ c told is.
      let was = failed open_run_on before after plan next sure why c keeps planned plans told is in
      record { left = was.keeper; told = was.told; failed = was.is }

-- the seed of a house is that which the dice gave
pub seed-of : (told : Option (List ℕ)) (house seed : List ℕ) → house ≡ seed → IfSome told (λ s. seed ≡ s) → IfSome told (λ s. house ≡ s)
seed-of None house seed same is = tt
seed-of (Some s) house seed same is = same ∙ is

-- so there is no house, and not for a key that differs
pub refused-none : (Was Left : Telling → Type 0) (sure : Type 0) (why : KeepError) → ((id : ℕ) → why ≢ keep.KeyDiffers id)
    → AtTold Was sure (RefusedRun Left why) → OpensNone Was Left sure (not_begun why)
refused-none Was Left sure keep.Fault other refused = refused
refused-none Was Left sure keep.UsedUp other refused = refused
refused-none Was Left sure (keep.KeyDiffers id) other refused = absurd (other id refl)
refused-none Was Left sure keep.NoMemory other refused = inr refused
