-- Does a script stop for a key that differs, if no game of the store is of a run behind the last one? No.
use Rattle.std.proofs.Common.{◌≡◌, ℕ, ◌+◌, Bool, true, false, List, refl, sym, ap, subst, nat_lt, inl, inr, Some, Ok, Err, if◌then◌else◌}
use Rattle.std.specs.Prelude.{Option, Result, ◌⊎◌, is_some, slice_get, take}
use Rattle.hb_keeper.specs.declared.errors.KeepError.{KeepError}
use Rattle.hb_keeper.specs.declared.errors.KeepError.TheVariants as keep
use Rattle.hb_keeper.specs.declared.fails.When.{When}
use Rattle.hb_keeper.specs.KeptGames.{Content, greatest, open_run_on, with_run}
use Rattle.hb_club.specs.Fronts.{no_events}
use Rattle.hb_house.specs.declared.plain.TheConstants.{MOST_ROOMS}
use Rattle.hb_house.specs.KeeperSteps.{IsTold, Telling, Tells, WorkedOn}
use Rattle.hb_house.specs.KeptOnce.{NoLaterRun, OwnIfTold, OwnIn}
use Rattle.hb_house.specs.PlainHalls.{house_with}
use Rattle.hb_house.proofs.OwnGamesLemmas.{own-begins}
use Rattle.hb_script.specs.declared.scripts.Script.{Script}
use Rattle.hb_run.specs.declared.ends.RunEnd.TheVariants as ends
use Rattle.hb_run.specs.RunLines.{first_state}
use Rattle.hb_run.specs.ScriptRuns.{CutOff, Halted}
use Rattle.hb_run.specs.WrittenFronts.{IsWriteEnd}
use Rattle.hb_run.proofs.OwnRunsLemmas.{runs-never-differ}
use Rattle.hb_cli.specs.declared.status.Stop.TheVariants as stop
use Rattle.hb_cli.specs.Asked.{Asked}
use Rattle.hb_cli.specs.Begun.{Begun}
use Rattle.hb_cli.specs.Works.{StoppedScript, Stops}
use Rattle.hb_cli.specs.Written.{Sent}

-- a run that begins has the next number
next-run : (x : Content) (run : ℕ) → Ok run ≡ (open_run_on x).0 → run ≡ x.last_run + 1
next-run x run is = by (nat_lt x.last_run greatest) is
  where
    by : (b : Bool)
        → Ok run ≡ (let one : Result ℕ KeepError × Content = if b then (Ok (x.last_run + 1), with_run x) else (Err keep.UsedUp, x) in one.0)
        → run ≡ x.last_run + 1
    by true at = let same : ◌≡◌ {A = Result ℕ KeepError} (Ok run) (Ok (x.last_run + 1)) = at in cc
    by false at = let bad : ◌≡◌ {A = Result ℕ KeepError} (Ok run) (Err keep.UsedUp) = at in absurd cc

-- what the keeper contains behind it
pub begun-content : (c : Telling) (x : Content) → c.content ≡ Some x → (b : Begun c)
    → (b.run ≡ x.last_run + 1) × (b.keeper.content ≡ Some (open_run_on x).1)
begun-content c x told b =
    let worked : WorkedOn open_run_on (Some x) (Ok b.run) b.keeper.content =
    subst (λ (o : Option Content). WorkedOn open_run_on o (Ok b.run) b.keeper.content) told b.began.content in
    (next-run x b.run worked.0, worked.1)

write-never : (id : ℕ) → IsWriteEnd (ends.KeyDiffers id) → ⊥
write-never id (inl fault) = cc
write-never id (inr memory) = cc

stopped-never : (Left : Telling → Type 0) (s : Script) (id : ℕ) (out : Sent) (c : Telling) (x : Content) → c.content ≡ Some x
    → NoLaterRun x → StoppedScript Left s (ends.KeyDiffers id) out c → ⊥
stopped-never Left s id out c x told below stopped = by stopped.lines.ends
  where
    by : Halted (house_with s.shoe stopped.begun.run) MOST_ROOMS true (ends.KeyDiffers id) (slice_get s.lines stopped.lines.done)
        stopped.lines.state stopped.lines.rest out.held_before out.held stopped.lines.text
        ⊎ CutOff (ends.KeyDiffers id) stopped.lines.state stopped.lines.rest out.held_before out.held stopped.lines.text
        → ⊥
    by (inl halted) =
        let b : Begun c = stopped.begun in
        let h = house_with s.shoe b.run in
        let is : (b.run ≡ x.last_run + 1) × (b.keeper.content ≡ Some (open_run_on x).1) = begun-content c x told b in
        let tells : IsTold b.keeper = ap is_some is.1 in
        let own : OwnIfTold h no_events b.keeper = subst (OwnIn h no_events) (sym is.1) (own-begins h no_events x below is.0) in
        runs-never-differ h MOST_ROOMS true (take stopped.lines.done s.lines) (slice_get s.lines stopped.lines.done)
        (first_state no_events b.keeper) stopped.lines.state stopped.lines.rest stopped.lines.text id tells own stopped.lines.runs
        halted.halts
    by (inr cut) = write-never id cut.writing

-- so no script stops for that
pub sound-never : (a : Asked) (tells : Content → Type 0) (plan : Option (List (ℕ × When))) (Left : Telling → Type 0) (sure : Type 0)
    (out : Sent) (id : ℕ) (x : Content) → tells x → NoLaterRun x → sure
    → Stops a (Tells tells plan) Left sure out (stop.StoreDiffers id) → ⊥
sound-never a tells plan Left sure out id x told below is stops =
    let c : Telling = record { content = Some x; plan = plan } in
    stopped-never Left stops.0 id out c x refl below (stops.2 c (told, refl) is)
