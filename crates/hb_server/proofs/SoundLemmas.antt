-- Does a server end for a key that differs, if no game of the store is of a run behind the last one? No.
use Rattle.std.proofs.Common.{◌≡◌, ◌∙◌, ℕ, ◌+◌, Bool, false, List, Some, Ok, Err, ap, inl, inr, refl, subst, sym}
use Rattle.std.specs.Prelude.{◌⊎◌, ⊤, Option, Result, is_some, suc}
use Rattle.hb_keeper.specs.declared.fails.When.{When}
use Rattle.hb_keeper.specs.KeptGames.{Content, open_run_on}
use Rattle.hb_club.specs.Fronts.{Fronts, House, no_events}
use Rattle.hb_edge.specs.Talk.{Talk}
use Rattle.hb_house.specs.declared.reports.ClerkError.{ClerkError}
use Rattle.hb_house.specs.declared.reports.ClerkError.TheVariants as clerk
use Rattle.hb_house.specs.ClerkRounds.{begun}
use Rattle.hb_house.specs.KeeperSteps.{IsTold, Telling, Tells}
use Rattle.hb_house.specs.KeptOnce.{NoLaterRun, OwnIfTold, OwnIn}
use Rattle.hb_house.proofs.NeverDiffersLemmas.{clerk-never-differs}
use Rattle.hb_house.proofs.OwnGamesLemmas.{own-begins, own-on}
use Rattle.hb_cli.specs.Begun.{Begun}
use Rattle.hb_cli.proofs.SoundStoresLemmas.{begun-content}
use Rattle.hb_serve.specs.declared.accepts.Closing.TheVariants as closing
use Rattle.hb_serve.specs.declared.serving.Outcome.{Outcome}
use Rattle.hb_serve.specs.Clerking.{StoppedRound}
use Rattle.hb_serve.specs.Closings.{IsClerkWord}
use Rattle.hb_serve.specs.Serving.{ClosedBy}
use Rattle.hb_server.specs.Deeds.{ServesHouse, Told}

stopped-never : (Stands : Fronts → Type 0) (Tells : Telling → Type 0) (alone : Bool) (h : House) (n id : ℕ) (f : Fronts) (c : Telling)
    → IsTold c → OwnIfTold h f c → StoppedRound Stands Tells alone h n f c (clerk.KeyDiffers id) → ⊥
stopped-never Stands Tells alone h n id f c told own stopped =
    let r = stopped.rounds in
    clerk-never-differs alone h stopped.moment id (begun f c) r.done (suc r.done)
    (record { fronts = r.after; keeper = r.keeper; report = stopped.report }) r.rounds told own

-- a server that served over such a store
pub served-never : {S : Type 0} (Left : Telling → Type 0) (clones : Type 0) (talk : S → Option Talk) (faults : S → ℕ) (t : Told S)
    (rooms id : ℕ) (o : Outcome) (c : Telling) (x : Content) → c.content ≡ Some x → NoLaterRun x → clones
    → ServesHouse Left clones talk faults t rooms o c
    → (o.closing ≡ closing.StoreDiffers id) ⊎ (o.last ≡ Some (Err (clerk.KeyDiffers id))) → ⊥
served-never Left clones talk faults t rooms id o c x told below tell s cause = by cause
  where
    h : House
    h = s.house

    b : Begun c
    b = s.opens.begun

    content : (b.run ≡ x.last_run + 1) × (b.keeper.content ≡ Some (open_run_on x).1)
    content = begun-content c x told b

    tells : IsTold b.keeper
    tells = ap is_some content.1

    own : OwnIfTold h no_events b.keeper
    own = subst (OwnIn h no_events) (sym content.1) (own-begins h no_events x below (s.opens.run ∙ content.0))

    by : (o.closing ≡ closing.StoreDiffers id) ⊎ (o.last ≡ Some (Err (clerk.KeyDiffers id))) → ⊥
    by (inl is) =
        let word = subst (λ w. IsClerkWord (Some w) false h rooms no_events b.keeper) is s.stopped in
        stopped-never (λ g. ⊤) (λ d. ⊤) false h rooms id word.before word.keeper (word.still tells) (word.own own) word.stopped
    by (inr is) =
        let served = s.sessions tell in
        let closed = subst (λ l. ClosedBy l (λ g. ⊤) Left false h rooms served.seen served.keeper) is served.closed in
        stopped-never (λ g. ⊤) Left false h rooms id served.seen served.keeper (served.still tells) (served.own own) closed
