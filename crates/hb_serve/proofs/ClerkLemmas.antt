-- How do the lists of a hall, and what a keeper tells, come on through a call of the clerk?
use Rattle.std.proofs.Common.{◌≡◌, ℕ, Bool, true, false, zero, suc, List, ◌∷◌, ◌++◌, refl, sym, subst, inl, inr, Some, None, Ok, Err}
use Rattle.std.specs.Prelude.{⊤, Option, Result, is_some}
use Rattle.hb_keeper.specs.declared.errors.KeepError.{KeepError}
use Rattle.hb_keeper.specs.declared.errors.KeepError.TheVariants as keep
use Rattle.hb_keeper.specs.declared.fails.When.{When}
use Rattle.hb_keeper.specs.declared.fails.When.TheVariants.{Before, After}
use Rattle.hb_keeper.specs.declared.rows.GameRow.{GameRow}
use Rattle.hb_keeper.specs.declared.rows.Key.{Key}
use Rattle.hb_keeper.specs.KeptGames.{Content, get_on, put_on}
use Rattle.hb_club.specs.declared.clerks.Todo.{Todo}
use Rattle.hb_club.specs.Fronts.{AllGoOn, ElseSame, Fronts, GoesOn, House, site_of}
use Rattle.hb_club.specs.RoomEvents.{AsksTodo, RoomEvent, Site}
use Rattle.hb_house.specs.declared.reports.ClerkError.{ClerkError}
use Rattle.hb_house.specs.declared.reports.ClerkError.TheVariants as clerk
use Rattle.hb_house.specs.declared.reports.Report.{Report}
use Rattle.hb_house.specs.ClerkRounds.{Asks, Place, Round, Rounds, StepAt, begun}
use Rattle.hb_house.specs.ClerkStops.{LoadStops, RoundStops, SaveStops, SettleStops}
use Rattle.hb_house.specs.KeeperSteps.{Failed, FailedOn, FaultLeaves, IsSure, IsSureOf, Telling, next_failure}
use Rattle.hb_house.specs.KeptOnce.{OwnIfTold}
use Rattle.hb_house.proofs.GoesOnLemmas.{all-on, asks-on, goes_on-same, goes_on-trans, others-on, settle_stops-on, settles-on}
use Rattle.hb_house.proofs.KeeperStepsLemmas.{worked_sure}
use Rattle.hb_house.proofs.KeptRoundsLemmas.{own-rounds, own-stopped}
use Rattle.hb_house.proofs.OwnGamesLemmas.{own-on}
use Rattle.hb_house.proofs.RoundLemmas.{saves-sure}
use Rattle.hb_house.proofs.RoundsLemmas.{rounds-sure}
use Rattle.hb_house.proofs.ToldContentLemmas.{rounds-told, stopped-told}
use Rattle.hb_session.proofs.FrontsLemmas.{all_on-same, all_on-trans}
use Rattle.hb_serve.specs.declared.accepts.Closing.{Closing}
use Rattle.hb_serve.specs.declared.accepts.Closing.TheVariants as closing
use Rattle.hb_serve.specs.Clerking.{StoppedLater, StoppedRound, Tended, WentRound}
use Rattle.hb_serve.specs.Closings.{IsClerkWord, is_by_clerk}
use Rattle.hb_serve.specs.Comings.{ComesTo}

-- the lists

round-on : (alone : Bool) (h : House) (moment room : ℕ) (p q : Place) → StepAt room (Round alone (site_of h room) moment) p q
    → AllGoOn p.fronts q.fronts
round-on alone h moment room p q at =
    let f : Fronts = p.fronts in
    let g : Fronts = q.fronts in
    let s = site_of h room in
    let round : Round alone s moment (f.rooms room) (g.rooms room) p.keeper q.keeper p.report q.report = at.step in
    let asks : Asks alone s moment (f.rooms room) = round.asks in
    let asked = AsksTodo moment ∷ asks.others ++ f.rooms room in
    let settled : GoesOn asked (g.rooms room) =
    settles-on alone s moment asks.todo asked (g.rooms room) p.keeper q.keeper p.report q.report round.settles in
    all-on room f g at.others (goes_on-trans (asks-on alone s moment (f.rooms room) asks) settled)

-- the lists of all rooms and of the lobby go on through any number of rounds
rounds-on : (alone : Bool) (h : House) (moment : ℕ) (p : Place) (n : ℕ) (q : Place) → Rounds alone h moment p n q
    → AllGoOn p.fronts q.fronts
rounds-on alone h moment p zero q same =
    record { rooms = (λ room. goes_on-same (same.rooms room)); lobby = goes_on-same same.lobby }
rounds-on alone h moment p (suc n) q more =
    all_on-trans p.fronts more.before.fronts q.fronts (rounds-on alone h moment p n more.before more.rounds)
    (round-on alone h moment (suc n) more.before q more.last)

-- also if the clerk stops at a room

stopped-on : (alone : Bool) (h : House) (moment room : ℕ) (why : ClerkError) (p q : Place) → ElseSame room p.fronts q.fronts
    → RoundStops alone (site_of h room) moment why (p.fronts.rooms room) (q.fronts.rooms room) p.keeper q.keeper p.report q.report
    → AllGoOn p.fronts q.fronts
stopped-on alone h moment room why p q others (inl refused) =
    all-on room p.fronts q.fronts others (others-on alone (p.fronts.rooms room) (q.fronts.rooms room) refused.came)
stopped-on alone h moment room why p q others (inr refused) =
    let f : Fronts = p.fronts in
    let g : Fronts = q.fronts in
    let s = site_of h room in
    let asks : Asks alone s moment (f.rooms room) = refused.asks in
    let asked = AsksTodo moment ∷ asks.others ++ f.rooms room in
    let settled : GoesOn asked (g.rooms room) =
    settle_stops-on alone s moment asks.todo why asked (g.rooms room) p.keeper q.keeper p.report q.report refused.stops in
    all-on room f g others (goes_on-trans (asks-on alone s moment (f.rooms room) asks) settled)

-- what is told

fault_sure : (sure : Type 0) (how : Option When) (before worked : Content) (d : Option Content) → FaultLeaves how before worked d → sure
    → IsSureOf sure d
fault_sure sure (Some Before) before worked d is at = subst (IsSureOf sure) (sym is) at
fault_sure sure (Some After) before worked d is at = subst (IsSureOf sure) (sym is) at
fault_sure sure None before worked d (inl is) at = subst (IsSureOf sure) (sym is) at
fault_sure sure None before worked d (inr is) at = subst (IsSureOf sure) (sym is) at

failed_sure_of : {A : Type 0} (sure : Type 0) (refusal : KeepError) (how : Option When) (work : Content → Result A KeepError × Content)
    (c d : Option Content) → FailedOn refusal how work c d → IsSureOf sure c → IsSureOf sure d
failed_sure_of sure refusal how work None d is at = subst (IsSureOf sure) (sym is) tt
failed_sure_of sure keep.Fault how work (Some c) d is at = fault_sure sure how c (work c).1 d is at
failed_sure_of sure (keep.KeyDiffers id) how work (Some c) d is at = subst (IsSureOf sure) (sym is.1) at
failed_sure_of sure keep.UsedUp how work (Some c) d is at = subst (IsSureOf sure) (sym is.1) at
failed_sure_of sure keep.NoMemory how work (Some c) d is at = subst (IsSureOf sure) (sym is) at

failed_sure : {A : Type 0} (sure : Type 0) (refusal : KeepError) (work : Content → Result A KeepError × Content) (c d : Telling)
    → Failed refusal work c d → IsSure sure c → IsSure sure d
failed_sure sure refusal work c d failed at =
    failed_sure_of sure refusal (next_failure c.plan) work c.content d.content failed.content at

save_stops-sure : (sure : Type 0) (alone : Bool) (save : Option (Key × GameRow)) (why : ClerkError) (old new : List RoomEvent)
    (c d : Telling) (r t : Report) → SaveStops alone save why old new c d r t → IsSure sure c → IsSure sure d
save_stops-sure sure alone None why old new c d r t is at = absurd is
save_stops-sure sure alone (Some save) why old new c d r t (inl put) at =
    failed_sure sure put.refusal (put_on save.0 save.1) c d put.failed at
save_stops-sure sure alone (Some save) why old new c d r t (inr saved) at =
    worked_sure sure (put_on save.0 save.1) c _ d saved.put at

load_stops-sure : (sure : Type 0) (alone : Bool) (load : Option (ℕ × ℕ)) (why : ClerkError) (old new : List RoomEvent)
    (c d : Telling) (r t : Report) → LoadStops alone load why old new c d r t → IsSure sure c → IsSure sure d
load_stops-sure sure alone None why old new c d r t is at = absurd is
load_stops-sure sure alone (Some load) why old new c d r t (inl got) at =
    failed_sure sure got.refusal (get_on load.1) c d got.failed at
load_stops-sure sure alone (Some load) why old new c d r t (inr loaded) at =
    worked_sure sure (get_on load.1) c _ d loaded.got at

settle_stops-sure : (sure : Type 0) (alone : Bool) (s : Site) (moment : ℕ) (todo : Todo) (why : ClerkError)
    (old new : List RoomEvent) (c d : Telling) (r t : Report) → SettleStops alone s moment todo why old new c d r t
    → IsSure sure c → IsSure sure d
settle_stops-sure sure alone s moment todo why old new c d r t (inl save) at =
    save_stops-sure sure alone todo.save why old new c d r t save at
settle_stops-sure sure alone s moment todo why old new c d r t (inr load) at =
    load_stops-sure sure alone todo.load why load.middle new load.between d load.report t load.stops
    (saves-sure sure alone s moment todo.save old load.middle c load.between r load.report load.saves at)

round_stops-sure : (sure : Type 0) (alone : Bool) (s : Site) (moment : ℕ) (why : ClerkError) (old new : List RoomEvent)
    (c d : Telling) (r t : Report) → RoundStops alone s moment why old new c d r t → IsSure sure c → IsSure sure d
round_stops-sure sure alone s moment why old new c d r t (inl refused) at = subst (IsSure sure) (sym refused.keeper) at
round_stops-sure sure alone s moment why old new c d r t (inr refused) at =
    settle_stops-sure sure alone s moment refused.asks.todo why (AsksTodo moment ∷ refused.asks.others ++ old) new c d r t
    refused.stops at

-- a keeper tells its content behind a call only if it told it before
known-by : (a b : Option Content) → (IsSureOf ⊥ a → IsSureOf ⊥ b) → is_some b ≡ true → is_some a ≡ true
known-by (Some old) b then told = refl
known-by None None then told = told
known-by None (Some content) then told = absurd (then tt)

-- the call

-- the clerk went through all rooms
rounds-come : (Stands : Fronts → Type 0) (Tells : Telling → Type 0) (alone : Bool) (h : House) (n : ℕ) (f : Fronts) (c : Telling)
    → WentRound Stands Tells alone h n f c → ComesTo Stands Tells h f c
rounds-come Stands Tells alone h n f c went =
    let r = went.rounds in
    let q : Place = record { fronts = r.after; keeper = r.keeper; report = went.report } in
    record {
      after = r.after;
      stands_for = r.stands_for;
      on = rounds-on alone h went.moment (begun f c) n q r.rounds;
      keeper = r.keeper;
      told = r.told;
      known = known-by c.content r.keeper.content (rounds-sure ⊥ alone h went.moment (begun f c) n q r.rounds);
      still = rounds-told alone h went.moment (begun f c) n q r.rounds;
      own = own-rounds alone h went.moment (begun f c) n q r.rounds;
    }

-- the clerk stopped at a room
stopped-comes : (Stands : Fronts → Type 0) (Tells : Telling → Type 0) (alone : Bool) (h : House) (n : ℕ) (f : Fronts) (c : Telling)
    (why : ClerkError) → StoppedRound Stands Tells alone h n f c why → ComesTo Stands Tells h f c
stopped-comes Stands Tells alone h n f c why stopped =
    let r = stopped.rounds in
    let moment = stopped.moment in
    let room = suc r.done in
    let p : Place = r.rounds.before in
    let q : Place = record { fronts = r.after; keeper = r.keeper; report = stopped.report } in
    record {
      after = r.after;
      stands_for = r.stands_for;
      on = all_on-trans f p.fronts r.after (rounds-on alone h moment (begun f c) r.done p r.rounds.rounds)
          (stopped-on alone h moment room why p q r.rounds.last.others r.rounds.last.step);
      keeper = r.keeper;
      told = r.told;
      known = known-by c.content r.keeper.content (λ is.
          round_stops-sure ⊥ alone (site_of h room) moment why (p.fronts.rooms room) (r.after.rooms room) p.keeper r.keeper
          p.report stopped.report r.rounds.last.step
          (rounds-sure ⊥ alone h moment (begun f c) r.done p r.rounds.rounds is));
      still = stopped-told alone h moment why (begun f c) r.done room q r.rounds;
      own = own-stopped alone h moment why (begun f c) r.done room q r.rounds;
    }

-- the lists come on through a call of the clerk, whatever it answers
pub tended-comes : (answer : Result (Unit {0}) ClerkError) (Stands : Fronts → Type 0) (Tells : Telling → Type 0) (alone : Bool)
    (h : House) (n : ℕ) (f : Fronts) (c : Telling) → Tended answer Stands Tells alone h n f c → ComesTo Stands Tells h f c
tended-comes (Ok done) Stands Tells alone h n f c went = rounds-come Stands Tells alone h n f c went
tended-comes (Err why) Stands Tells alone h n f c stopped = stopped-comes Stands Tells alone h n f c why stopped

-- what is said of a clerk that stopped

-- of all that is said of the lists and of the keeper behind it only the steps are kept
steps-only : (Stands : Fronts → Type 0) (Tells : Telling → Type 0) (alone : Bool) (h : House) (n : ℕ) (f : Fronts) (c : Telling)
    (why : ClerkError) → StoppedRound Stands Tells alone h n f c why → StoppedRound (λ g. ⊤) (λ d. ⊤) alone h n f c why
steps-only Stands Tells alone h n f c why stopped =
    let r = stopped.rounds in
    record {
      moment = stopped.moment;
      report = stopped.report;
      rounds = record {
        done = r.done;
        within = r.within;
        after = r.after;
        stands_for = tt;
        keeper = r.keeper;
        told = tt;
        rounds = r.rounds;
      };
    }

-- it stopped at once
pub stopped-now : (Stands : Fronts → Type 0) (Tells : Telling → Type 0) (alone : Bool) (h : House) (n : ℕ) (f : Fronts) (c : Telling)
    (why : ClerkError) → StoppedRound Stands Tells alone h n f c why → StoppedLater alone h n f c why
stopped-now Stands Tells alone h n f c why stopped = record {
  before = f;
  on = all_on-same f;
  keeper = c;
  still = λ was. was;
  own = λ own. own;
  stopped = steps-only Stands Tells alone h n f c why stopped;
}

stopped-on_later : (Stands : Fronts → Type 0) (Tells : Telling → Type 0) (alone : Bool) (h : House) (n : ℕ) (f : Fronts) (c : Telling)
    (why : ClerkError) (came : ComesTo Stands Tells h f c) → StoppedLater alone h n came.after came.keeper why
    → StoppedLater alone h n f c why
stopped-on_later Stands Tells alone h n f c why came later = record {
  before = later.before;
  on = all_on-trans f came.after later.before came.on later.on;
  keeper = later.keeper;
  still = λ was. later.still (came.still was);
  own = λ own. later.own (came.own own);
  stopped = later.stopped;
}

-- lists came on, and then it is the clerk's word
pub word-later : (word : Option Closing) (Stands : Fronts → Type 0) (Tells : Telling → Type 0) (alone : Bool) (h : House) (n : ℕ)
    (f : Fronts) (c : Telling) (came : ComesTo Stands Tells h f c) → IsClerkWord word alone h n came.after came.keeper
    → IsClerkWord word alone h n f c
word-later (Some (closing.StoreDiffers id)) Stands Tells alone h n f c came is =
    stopped-on_later Stands Tells alone h n f c (clerk.KeyDiffers id) came is
word-later (Some closing.UsedUp) Stands Tells alone h n f c came is =
    stopped-on_later Stands Tells alone h n f c clerk.UsedUp came is
word-later (Some closing.Closed) Stands Tells alone h n f c came is = is
word-later (Some closing.DoorFault) Stands Tells alone h n f c came is = is
word-later (Some closing.NoMemory) Stands Tells alone h n f c came is = is
word-later None Stands Tells alone h n f c came is = is

-- another's word says nothing of the clerk
pub no-word : (word : Option Closing) (alone : Bool) (h : House) (n : ℕ) (f : Fronts) (c : Telling) → is_by_clerk word ≡ false
    → IsClerkWord word alone h n f c
no-word (Some (closing.StoreDiffers id)) alone h n f c other = absurd cc
no-word (Some closing.UsedUp) alone h n f c other = absurd cc
no-word (Some closing.Closed) alone h n f c other = tt
no-word (Some closing.DoorFault) alone h n f c other = tt
no-word (Some closing.NoMemory) alone h n f c other = tt
no-word None alone h n f c other = tt

-- the games that a keeper has of the house's run stay games that were due while lists go on
pub own-goes_on : (h : House) (f g : Fronts) (c : Telling) → AllGoOn f g → OwnIfTold h f c → OwnIfTold h g c
own-goes_on h f g c on own = own-on h f g c on own
