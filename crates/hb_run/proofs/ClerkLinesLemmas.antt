-- What does a call of the clerk say of a line of a script?
use Rattle.std.proofs.Common.{◌≡◌, ℕ, Bool, true, List, refl, sym, subst, ◌∙◌, inl, inr, Some}
use Rattle.std.proofs.KnownBytes.{Appends-nil}
use Rattle.std.specs.Io.KnownBytes.{Appends}
use Rattle.std.specs.Prelude.{Option}
use Rattle.hb_club.specs.Fronts.{Fronts, House}
use Rattle.hb_house.specs.declared.reports.ClerkError.{ClerkError}
use Rattle.hb_house.specs.declared.reports.ClerkError.TheVariants as clerk
use Rattle.hb_house.specs.declared.reports.Report.{Report}
use Rattle.hb_house.specs.ClerkRounds.{AllRounds, begun}
use Rattle.hb_house.specs.ClerkStops.{Stopped}
use Rattle.hb_house.specs.KeeperSteps.{Telling}
use Rattle.hb_talk.specs.declared.scripts.ScriptLine.TheVariants as line
use Rattle.hb_run.specs.declared.ends.RunEnd.{RunEnd}
use Rattle.hb_run.specs.declared.held.ScriptRun.{ScriptRun}
use Rattle.hb_run.specs.HeldRuns.{AreDesks, Holds, IsAt}
use Rattle.hb_run.specs.RunLines.{ClerkHalts, RunState, fault_line, place_of, report_line}
use Rattle.hb_run.specs.RunSteps.{RunsLine, StopsLine}
use Rattle.hb_run.specs.ScriptRuns.{ClerkEnds, HaltsBy}
use Rattle.hb_run.specs.WrittenFronts.{AppendsFront, IsWriteEnd}
use Rattle.hb_run.proofs.HeldLemmas.{desks-on}
use Rattle.hb_run.proofs.LinesGoOnLemmas.{halts-on, rounds-on}

-- the clerk went through all rooms

-- the state then
abbrev ran_to : (Stands : Fronts → Type 0) (Tells : Telling → Type 0) (h : House) (count : ℕ) (alone : Bool) (moment : ℕ)
    (s : RunState) (report : Report) → AllRounds Stands Tells alone h count moment s.fronts s.keeper report → RunState
ran_to Stands Tells h count alone moment s report all =
    record s { fronts = all.after; keeper = all.keeper }

ran-at : (Stands : Fronts → Type 0) (Tells : Telling → Type 0) (h : House) (count : ℕ) (alone : Bool) (moment : ℕ) (s : RunState)
    (report : Report) (run : ScriptRun) (all : AllRounds Stands Tells alone h count moment s.fronts s.keeper report) → Holds h run s
    → IsAt Stands Tells h run (ran_to Stands Tells h count alone moment s report all)
ran-at Stands Tells h count alone moment s report run all holds =
    let t : RunState = ran_to Stands Tells h count alone moment s report all in
    let on = rounds-on alone h moment (begun s.fronts s.keeper) count (place_of t report) all.rounds in
    record {
      outside = record { stands_for = all.stands_for; told = all.told };
      inside = record { desks = desks-on h s t run.desks.items on refl holds.desks; faulted = holds.faulted; bytes = holds.bytes };
    }

-- if the clerk went through all rooms and its report was written, its line was run
pub tended : (Stands : Fronts → Type 0) (Tells : Telling → Type 0) (h : House) (count : ℕ) (alone : Bool) (moment : ℕ) (s : RunState)
    (report : Report) (run : ScriptRun) (b a : Option (List ℕ)) → Holds h run s
    → AllRounds Stands Tells alone h count moment s.fronts s.keeper report → Appends b a (report_line report)
    → RunsLine (IsAt Stands Tells h run) h count alone (line.Clerk moment) s b a
tended Stands Tells h count alone moment s report run b a holds all wrote = record {
  state = ran_to Stands Tells h count alone moment s report all;
  text = report_line report;
  runs = inl (record { report = report; rounds = all.rounds; sessions = refl; faulted = refl; bytes = refl; tells = refl });
  left = ran-at Stands Tells h count alone moment s report run all holds;
  written = wrote;
}

-- if the clerk went through all rooms and writing stopped within its report, the run stops at its line
pub tended-cut : (Stands : Fronts → Type 0) (Tells : Telling → Type 0) (h : House) (count : ℕ) (alone : Bool) (moment : ℕ)
    (s : RunState) (report : Report) (run : ScriptRun) (b a : Option (List ℕ)) (why : RunEnd) → Holds h run s
    → AllRounds Stands Tells alone h count moment s.fronts s.keeper report → IsWriteEnd why × AppendsFront b a (report_line report)
    → StopsLine (IsAt Stands Tells h run) h count alone (line.Clerk moment) s b a why
tended-cut Stands Tells h count alone moment s report run b a why holds all cut = inr (record {
  writing = cut.0;
  state = ran_to Stands Tells h count alone moment s report all;
  text = report_line report;
  runs = inl (record { report = report; rounds = all.rounds; sessions = refl; faulted = refl; bytes = refl; tells = refl });
  left = ran-at Stands Tells h count alone moment s report run all holds;
  written = cut.1;
})

-- the clerk stopped

-- the state then, with this mark of a fault
abbrev stopped_at : (Stands : Fronts → Type 0) (Tells : Telling → Type 0) (h : House) (count : ℕ) (alone : Bool) (moment : ℕ)
    (s : RunState) (report : Report) (why : ClerkError) (faulted : Bool)
    → Stopped Stands Tells alone h count moment s.fronts s.keeper report why → RunState
stopped_at Stands Tells h count alone moment s report why faulted some =
    record s { fronts = some.after; keeper = some.keeper; faulted = faulted }

halts-to : (Stands : Fronts → Type 0) (Tells : Telling → Type 0) (h : House) (count : ℕ) (alone : Bool) (moment : ℕ) (s : RunState)
    (report : Report) (why : ClerkError) (faulted : Bool)
    (some : Stopped Stands Tells alone h count moment s.fronts s.keeper report why)
    → ClerkHalts h count alone moment why s (stopped_at Stands Tells h count alone moment s report why faulted some)
halts-to Stands Tells h count alone moment s report why faulted some =
    record { report = report; done = some.done; within = some.within; rounds = some.rounds; sessions = refl; bytes = refl }

stopped-at : (Stands : Fronts → Type 0) (Tells : Telling → Type 0) (h : House) (count : ℕ) (alone : Bool) (moment : ℕ) (s : RunState)
    (report : Report) (why : ClerkError) (run next : ScriptRun)
    (some : Stopped Stands Tells alone h count moment s.fronts s.keeper report why) → Holds h run s
    → next.desks.items ≡ run.desks.items → next.bytes ≡ run.bytes
    → IsAt Stands Tells h next (stopped_at Stands Tells h count alone moment s report why next.failed some)
stopped-at Stands Tells h count alone moment s report why run next some holds same bytes =
    let t : RunState = stopped_at Stands Tells h count alone moment s report why next.failed some in
    let on = halts-on h count alone moment why s t (halts-to Stands Tells h count alone moment s report why next.failed some) in
    record {
      outside = record { stands_for = some.stands_for; told = some.told };
      inside = record {
        desks = subst (AreDesks h t) (sym same) (desks-on h s t run.desks.items on refl holds.desks);
        faulted = refl;
        bytes = bytes ∙ holds.bytes;
      };
    }

-- at a fault of the keeper
pub faulted : (Stands : Fronts → Type 0) (Tells : Telling → Type 0) (h : House) (count : ℕ) (alone : Bool) (moment : ℕ) (s : RunState)
    (report : Report) (run next : ScriptRun) (b a : Option (List ℕ)) → Holds h run s → next.desks.items ≡ run.desks.items
    → next.bytes ≡ run.bytes → next.failed ≡ true → Stopped Stands Tells alone h count moment s.fronts s.keeper report clerk.KeeperFault
    → Appends b a fault_line → RunsLine (IsAt Stands Tells h next) h count alone (line.Clerk moment) s b a
faulted Stands Tells h count alone moment s report run next b a holds same bytes failed some wrote = record {
  state = stopped_at Stands Tells h count alone moment s report clerk.KeeperFault next.failed some;
  text = fault_line;
  runs = inr (record {
    halts = halts-to Stands Tells h count alone moment s report clerk.KeeperFault next.failed some;
    faulted = failed;
    tells = refl;
  });
  left = stopped-at Stands Tells h count alone moment s report clerk.KeeperFault run next some holds same bytes;
  written = wrote;
}

-- if writing stopped within the text for a fault of the keeper, the run stops at the line of the clerk
pub faulted-cut : (Stands : Fronts → Type 0) (Tells : Telling → Type 0) (h : House) (count : ℕ) (alone : Bool) (moment : ℕ)
    (s : RunState) (report : Report) (run next : ScriptRun) (b a : Option (List ℕ)) (why : RunEnd) → Holds h run s
    → next.desks.items ≡ run.desks.items → next.bytes ≡ run.bytes → next.failed ≡ true
    → Stopped Stands Tells alone h count moment s.fronts s.keeper report clerk.KeeperFault
    → IsWriteEnd why × AppendsFront b a fault_line
    → StopsLine (IsAt Stands Tells h next) h count alone (line.Clerk moment) s b a why
faulted-cut Stands Tells h count alone moment s report run next b a why holds same bytes failed some cut = inr (record {
  writing = cut.0;
  state = stopped_at Stands Tells h count alone moment s report clerk.KeeperFault next.failed some;
  text = fault_line;
  runs = inr (record {
    halts = halts-to Stands Tells h count alone moment s report clerk.KeeperFault next.failed some;
    faulted = failed;
    tells = refl;
  });
  left = stopped-at Stands Tells h count alone moment s report clerk.KeeperFault run next some holds same bytes;
  written = cut.1;
})

-- for another cause; `go` says that it stops the run
pub halted : (Stands : Fronts → Type 0) (Tells : Telling → Type 0) (h : House) (count : ℕ) (alone : Bool) (moment : ℕ) (s : RunState)
    (report : Report) (cause : ClerkError) (why : RunEnd) (run : ScriptRun) (b : Option (List ℕ))
    → ((t : RunState) → ClerkEnds h count alone cause (Some (line.Clerk moment)) s t
    → HaltsBy h count alone why (Some (line.Clerk moment)) s t) → Holds h run s
    → Stopped Stands Tells alone h count moment s.fronts s.keeper report cause
    → StopsLine (IsAt Stands Tells h run) h count alone (line.Clerk moment) s b b why
halted Stands Tells h count alone moment s report cause why run b go holds some =
    let t : RunState = stopped_at Stands Tells h count alone moment s report cause run.failed some in
    inl (record {
      rest = t;
      left = stopped-at Stands Tells h count alone moment s report cause run run some holds refl refl;
      halts = go t (record {
        moment = moment;
        is = refl;
        halts = halts-to Stands Tells h count alone moment s report cause run.failed some;
        faulted = holds.faulted;
      });
      written = Appends-nil b;
    })
