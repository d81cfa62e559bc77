-- What was served in a house that was opened for a run of the keeper?
use Rattle.std.proofs.Common.{◌≡◌, ℕ, Bool, false, List, Ok, Err, Some, None, subst}
use Rattle.std.specs.Prelude.{⊤, Option, Result}
use Rattle.hb_keeper.specs.declared.fails.When.{When}
use Rattle.hb_keeper.specs.KeptGames.{Content, open_run_on}
use Rattle.hb_club.specs.Fronts.{Fronts, House, no_events}
use Rattle.hb_edge.specs.Talk.{Talk}
use Rattle.hb_house.specs.declared.reports.ClerkError.{ClerkError}
use Rattle.hb_house.specs.ClerkRounds.{AtEach}
use Rattle.hb_house.specs.KeeperSteps.{IsSure, Telling, Tells}
use Rattle.hb_house.proofs.KeeperStepsLemmas.{sure_before, worked_sure}
use Rattle.hb_cli.specs.Works.{AtTold}
use Rattle.hb_serve.specs.declared.serving.Outcome.{Outcome}
use Rattle.hb_serve.specs.Closings.{IsClerkWord}
use Rattle.hb_serve.specs.Serving.{ClosedBy, Served}
use Rattle.hb_server.specs.Deeds.{ServesHouse, Told}
use Rattle.hb_server.specs.Houses.{OpensHouse}

-- for which lists the hall stands is known to nobody else
closed-forgets : (last : Option (Result (Unit {0}) ClerkError)) (Stands : Fronts → Type 0) (Tells : Telling → Type 0) (alone : Bool)
    (h : House) (n : ℕ) (f : Fronts) (c : Telling) → ClosedBy last Stands Tells alone h n f c
    → ClosedBy last (λ g. ⊤) Tells alone h n f c
closed-forgets None Stands Tells alone h n f c closed = (tt, closed.1)
closed-forgets (Some (Ok done)) Stands Tells alone h n f c went =
    let r = went.rounds in
    record {
      moment = went.moment;
      report = went.report;
      rounds = record { after = r.after; stands_for = tt; keeper = r.keeper; told = r.told; rounds = r.rounds };
    }
closed-forgets (Some (Err why)) Stands Tells alone h n f c stopped =
    let r = stopped.rounds in
    record {
      moment = stopped.moment;
      report = stopped.report;
      rounds = record {
        done = r.done;
        within = r.within;
        after = r.after;
        stands_for = tt;
        keeper = r.keeper;
        told = r.told;
        rounds = r.rounds;
      };
    }

served-forgets : {S : Type 0} (Stands : Fronts → Type 0) (Tells : Telling → Type 0) (talk : S → Option Talk) (faults : S → ℕ)
    (alone : Bool) (h : House) (n : ℕ) (start : Option (ℕ → ℕ)) (f : Fronts) (c : Telling) (jobs : ℕ) (refused : Bool)
    (last : Option (Result (Unit {0}) ClerkError)) (back now : Option (List S))
    → Served Stands Tells talk faults alone h n start f c jobs refused last back now
    → Served (λ g. ⊤) Tells talk faults alone h n start f c jobs refused last back now
served-forgets Stands Tells talk faults alone h n start f c jobs refused last back now s = record {
  seen = s.seen;
  on = s.on;
  keeper = s.keeper;
  known = s.known;
  still = s.still;
  own = s.own;
  stubs = s.stubs;
  given_back = s.given_back;
  counted = s.counted;
  explained = s.explained;
  closed = closed-forgets last Stands Tells alone h n s.seen s.keeper s.closed;
}

-- a house was opened, and then its links were served in it
pub serves-house : {S : Type 0} (Was Left : Telling → Type 0) (mid : Content → Type 0) (next : Option (List (ℕ × When)))
    (Stood Stands : Fronts → Type 0) (then now clones : Type 0) (talk : S → Option Talk) (faults : S → ℕ) (t : Told S)
    (h : House) (count rooms : ℕ) (o : Outcome) → count ≡ rooms → (now → then)
    → AtTold Was then (OpensHouse (Tells mid next) t.seed h) → Stood no_events
    → (clones → AtEach Stood (Tells mid next) now (λ f c. Served Stands Left talk faults false h count t.clock f c o.served o.refused
    o.last t.back t.back_now))
    → AtEach Stood (Tells mid next) now (λ f c. IsClerkWord (Some o.closing) false h count f c)
    → AtTold Was now (ServesHouse Left clones talk faults t rooms o)
serves-house {S} Was Left mid next Stood Stands then now clones talk faults t h count rooms o of_rooms back opened stood served word =
    λ c told is.
    let opens = opened c told (sure_before c now then back is) in
    let still : IsSure now opens.begun.keeper =
    worked_sure now open_run_on c (Ok opens.begun.run) opens.begun.keeper opens.begun.began is in
    record {
      house = h;
      opens = record {
        begun = opens.begun;
        told = tt;
        run = opens.run;
        seed_is = opens.seed_is;
        shuffled = opens.shuffled;
      };
      sessions = λ tell.
          subst (λ (n : ℕ). Served {S = S} (λ g. ⊤) Left talk faults false h n t.clock no_events opens.begun.keeper o.served o.refused o.last
          t.back t.back_now) of_rooms
          (served-forgets Stands Left talk faults false h count t.clock no_events opens.begun.keeper o.served o.refused o.last t.back t.back_now
          (served tell no_events opens.begun.keeper stood opens.told still));
      stopped = subst (λ (n : ℕ). IsClerkWord (Some o.closing) false h n no_events opens.begun.keeper) of_rooms
          (word no_events opens.begun.keeper stood opens.told still);
    }
