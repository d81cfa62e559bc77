-- What does a turn of a session say of a line of a script?
use Rattle.std.proofs.Common.{◌≡◌, ℕ, ◌+◌, Bool, List, [], ◌∷◌, refl, sym, ap, subst, ◌∙◌, arith, set, inl, inr, min, Some}
use Rattle.std.proofs.KnownBytes.{Appends-nil}
use Rattle.std.specs.Io.KnownBytes.{Appends}
use Rattle.std.specs.Prelude.{◌⊎◌, IfErr, OnOk, Option, Result, Ok, Err, slice_get}
use Rattle.hb_io.specs.declared.got.Got.{Got}
use Rattle.hb_club.specs.Fronts.{Fronts, House}
use Rattle.hb_house.specs.KeeperSteps.{Telling}
use Rattle.hb_talk.specs.declared.scripts.ScriptLine.{ScriptLine}
use Rattle.hb_talk.specs.declared.scripts.ScriptLine.TheVariants as line
use Rattle.hb_talk.specs.declared.sessions.Session.{Session}
use Rattle.hb_talk.specs.Errands.{asked}
use Rattle.hb_talk.specs.Scripts.{sent, session_of}
use Rattle.hb_talk.specs.Sessions.{TurnCalls}
use Rattle.hb_talk.specs.Turns.{turn_of}
use Rattle.hb_desk.specs.declared.desks.Desk.{Desk}
use Rattle.hb_desk.specs.Desks.{DeskTurned, session_of as desk_session}
use Rattle.hb_desk.specs.DeskTurns.{GoesTo}
use Rattle.hb_run.specs.declared.ends.RunEnd.{RunEnd}
use Rattle.hb_run.specs.declared.ends.RunEnd.TheVariants.{KeyDiffers, NoMemory, UsedUp, WriteFault, Worn}
use Rattle.hb_run.specs.declared.held.ScriptRun.{ScriptRun}
use Rattle.hb_run.specs.HeldRuns.{AreDesks, FromEach, Holds, IsAt, MOST_BYTES}
use Rattle.hb_run.specs.RunLines.{LineRuns, RunState, text_bytes}
use Rattle.hb_run.specs.RunSteps.{AnyTelling, RunsLine, StopsLine}
use Rattle.hb_run.specs.ScriptRuns.{HaltsBy}
use Rattle.hb_run.specs.WrittenFronts.{AppendsFront, IsWriteEnd}
use Rattle.hb_run.proofs.HeldLemmas.{desks-kept, desks-turned}
use Rattle.hb_run.proofs.LinesGoOnLemmas.{calls-on}

-- the turn of the session that is held of a connection
abbrev TurnFrom : {S : Type 0} (stands : S → Fronts → Type 0) (h : House) (count : ℕ) (alone : Bool) (hall : S) (s : RunState)
    (moment : ℕ) (got : Got) (texts : List (List ℕ)) (old new : Desk) → Type 0
TurnFrom stands h count alone hall s moment got texts old new =
    DeskTurned stands h count alone hall s.fronts old (asked (desk_session old) moment got) [] texts new

-- a count, and more
counted : (bytes more held now : ℕ) → held ≡ min bytes MOST_BYTES → now ≡ min (held + more) MOST_BYTES → now ≡ min (bytes + more) MOST_BYTES
counted bytes more held now was is = omega (arith, was, is)

-- what a turn leaves of a run: this session anew, and the count with its texts
pub record Turned (run next : ScriptRun) (conn : ℕ) (texts : List (List ℕ)) (new : Desk) : Type 0 where
  pub desks : next.desks.items ≡ set run.desks.items conn new
  pub failed : next.failed ≡ run.failed
  pub bytes : next.bytes ≡ min (run.bytes + text_bytes texts) MOST_BYTES

-- a line that came to this state
record Ran (Stands : Fronts → Type 0) (h : House) (count : ℕ) (alone : Bool) (moment conn : ℕ) (got : Got) (s : RunState)
    (run : ScriptRun) (text : List ℕ) : Type 0 where
  pub state : RunState
  pub runs : LineRuns h count alone (line.Says moment conn got) s state text
  pub left : IsAt Stands AnyTelling h run state

-- (the run behind the turn has this one session anew)
ran : {S : Type 0} (stands : S → Fronts → Type 0) (h : House) (count : ℕ) (alone : Bool) (hall : S) (s : RunState)
    (moment conn : ℕ) (got : Got) (texts : List (List ℕ)) (old new : Desk) (run next : ScriptRun)
    → Holds h run s → slice_get run.desks.items conn ≡ Some old → Turned run next conn texts new
    → TurnFrom stands h count alone hall s moment got texts old new
    → Ran (stands hall) h count alone moment conn got s next (sent conn texts)
ran stands h count alone hall s moment conn got texts old new run next holds was turns turn =
    let x : Session = session_of conn s.sessions in
    let same : desk_session old ≡ x = (holds.desks conn old was).session in
    let t = turn.turned in
    let g : Fronts = t.after in
    let left : Session = (turn_of h count g x (asked x moment got)).left in
    let calls : TurnCalls alone count (asked x moment got) s.fronts g =
    subst (λ (y : Session). TurnCalls alone count (asked y moment got) s.fronts g) same t.calls in
    let wrote : texts ≡ (turn_of h count g x (asked x moment got)).texts =
    subst (λ (y : Session). texts ≡ (turn_of h count g y (asked y moment got)).texts) same t.texts in
    let leaves : desk_session new ≡ left =
    subst (λ (y : Session). desk_session new ≡ (turn_of h count g y (asked y moment got)).left) same t.session in
    let more = text_bytes (turn_of h count g x (asked x moment got)).texts in
    let state : RunState = record s { fronts = g; sessions = (conn, left) ∷ s.sessions; bytes = s.bytes + more } in
    record {
      state = state;
      runs = record { calls = calls; keeper = refl; sessions = refl; faulted = refl; bytes = refl; sends = ap (sent conn) wrote };
      left = record {
        outside = record { stands_for = t.stands_for; told = tt };
        inside = record {
          desks = subst (AreDesks h state)
              (sym turns.desks)
              (desks-turned h s g left (s.bytes + more) run.desks.items conn old new
              (calls-on alone count (asked x moment got) s.fronts g calls)
              holds.desks was leaves turn.fits);
          faulted = turns.failed ∙ holds.faulted;
          bytes = counted s.bytes more run.bytes next.bytes holds.bytes
              (turns.bytes ∙ ap (λ (sent : List (List ℕ)). min (run.bytes + text_bytes sent) MOST_BYTES) wrote);
        };
      };
    }

-- its texts were written
pub said : {S : Type 0} (stands : S → Fronts → Type 0) (h : House) (count : ℕ) (alone : Bool) (hall : S) (s : RunState)
    (moment conn : ℕ) (got : Got) (texts : List (List ℕ)) (old new : Desk) (run next : ScriptRun) (b a : Option (List ℕ))
    → Holds h run s → slice_get run.desks.items conn ≡ Some old → Turned run next conn texts new
    → TurnFrom stands h count alone hall s moment got texts old new → Appends b a (sent conn texts)
    → RunsLine (IsAt (stands hall) AnyTelling h next) h count alone (line.Says moment conn got) s b a
said stands h count alone hall s moment conn got texts old new run next b a holds was turns turn wrote =
    let r = ran stands h count alone hall s moment conn got texts old new run next holds was turns turn in
    record { state = r.state; text = sent conn texts; runs = r.runs; left = r.left; written = wrote }

-- a front of them was
pub said-cut : {S : Type 0} (stands : S → Fronts → Type 0) (h : House) (count : ℕ) (alone : Bool) (hall : S) (s : RunState)
    (moment conn : ℕ) (got : Got) (texts : List (List ℕ)) (old new : Desk) (run next : ScriptRun) (b a : Option (List ℕ))
    (why : RunEnd) → Holds h run s → slice_get run.desks.items conn ≡ Some old → Turned run next conn texts new
    → TurnFrom stands h count alone hall s moment got texts old new
    → IsWriteEnd why × AppendsFront b a (sent conn texts)
    → StopsLine (IsAt (stands hall) AnyTelling h next) h count alone (line.Says moment conn got) s b a why
said-cut stands h count alone hall s moment conn got texts old new run next b a why holds was turns turn cut =
    let r = ran stands h count alone hall s moment conn got texts old new run next holds was turns turn in
    inr (record { writing = cut.0; state = r.state; text = sent conn texts; runs = r.runs; left = r.left; written = cut.1 })

-- nothing came of a turn
pub said-nothing : {S : Type 0} (stands : S → Fronts → Type 0) (h : House) (count : ℕ) (alone : Bool) (hall : S) (s : RunState)
    (moment conn : ℕ) (got : Got) (old : Desk) (run next : ScriptRun) (b : Option (List ℕ)) (why : RunEnd)
    → (why ≡ Worn) ⊎ (why ≡ NoMemory) → Holds h run s → slice_get run.desks.items conn ≡ Some old
    → next.desks.items ≡ set run.desks.items conn old → next.failed ≡ run.failed → next.bytes ≡ run.bytes
    → GoesTo stands hall s.fronts
    → StopsLine (IsAt (stands hall) AnyTelling h next) h count alone (line.Says moment conn got) s b b why
said-nothing stands h count alone hall s moment conn got old run next b why cause holds was desks failed bytes goes =
    let rest : RunState = record s { fronts = goes.after } in
    inl (record {
      rest = rest;
      left = record {
        outside = record { stands_for = goes.stands_for; told = tt };
        inside = record {
          desks = subst (AreDesks h rest) (sym desks)
              (desks-kept h s goes.after run.desks.items conn old goes.on holds.desks was);
          faulted = failed ∙ holds.faulted;
          bytes = bytes ∙ holds.bytes;
        };
      };
      halts = by cause;
      written = Appends-nil b;
    })
  where
    by : (why ≡ Worn) ⊎ (why ≡ NoMemory)
        → HaltsBy h count alone why (Some (line.Says moment conn got)) s (record s { fronts = goes.after })
    by (inl is) = rw is (inl (record { moment = moment; conn = conn; got = got; is = refl; on = goes.on; rest = refl }))
    by (inr is) = rw is (inl (record { moment = moment; conn = conn; got = got; is = refl; on = goes.on; rest = refl }))

-- with what the keeper tells, which a turn does not call

telling : (Stands : Fronts → Type 0) (Tells : Telling → Type 0) (h : House) (run : ScriptRun) (s t : RunState)
    → t.keeper ≡ s.keeper → Tells s.keeper → IsAt Stands AnyTelling h run t → IsAt Stands Tells h run t
telling Stands Tells h run s t same told at = record {
  outside = record { stands_for = at.outside.stands_for; told = subst Tells (sym same) told };
  inside = at.inside;
}

-- behind the line of a turn that was run, the keeper tells what it told before
pub said-telling : (Stands : Fronts → Type 0) (Tells : Telling → Type 0) (h : House) (count : ℕ) (alone : Bool)
    (moment conn : ℕ) (got : Got) (run : ScriptRun) (s : RunState) (b a : Option (List ℕ)) → Tells s.keeper
    → RunsLine (IsAt Stands AnyTelling h run) h count alone (line.Says moment conn got) s b a
    → RunsLine (IsAt Stands Tells h run) h count alone (line.Says moment conn got) s b a
said-telling Stands Tells h count alone moment conn got run s b a told w = record {
  state = w.state;
  text = w.text;
  runs = w.runs;
  left = telling Stands Tells h run s w.state w.runs.keeper told w.left;
  written = w.written;
}

no-clerk : (moment conn : ℕ) (got : Got) (later : ℕ)
    → ◌≡◌ {A = Option ScriptLine} (Some (line.Says moment conn got)) (Some (line.Clerk later)) → ⊥
no-clerk moment conn got later is = cc

-- (no keeper stops a turn)
halted-keeper : (h : House) (count : ℕ) (alone : Bool) (why : RunEnd) (moment conn : ℕ) (got : Got) (s t : RunState)
    → HaltsBy h count alone why (Some (line.Says moment conn got)) s t → t.keeper ≡ s.keeper
halted-keeper h count alone WriteFault moment conn got s t halts = absurd halts
halted-keeper h count alone (KeyDiffers id) moment conn got s t ends = absurd (no-clerk moment conn got ends.moment ends.is)
halted-keeper h count alone UsedUp moment conn got s t ends = absurd (no-clerk moment conn got ends.moment ends.is)
halted-keeper h count alone Worn moment conn got s t (inl ends) = ap (λ (k : RunState). k.keeper) ends.rest
halted-keeper h count alone Worn moment conn got s t (inr ends) = absurd (no-clerk moment conn got ends.moment ends.is)
halted-keeper h count alone NoMemory moment conn got s t (inl ends) = ap (λ (k : RunState). k.keeper) ends.rest
halted-keeper h count alone NoMemory moment conn got s t (inr ends) = absurd (no-clerk moment conn got ends.moment ends.is)

-- behind the line of a turn that stopped, the keeper tells what it told before
pub stopped-telling : (Stands : Fronts → Type 0) (Tells : Telling → Type 0) (h : House) (count : ℕ) (alone : Bool)
    (moment conn : ℕ) (got : Got) (run : ScriptRun) (s : RunState) (b a : Option (List ℕ)) (why : RunEnd) → Tells s.keeper
    → StopsLine (IsAt Stands AnyTelling h run) h count alone (line.Says moment conn got) s b a why
    → StopsLine (IsAt Stands Tells h run) h count alone (line.Says moment conn got) s b a why
stopped-telling Stands Tells h count alone moment conn got run s b a why told (inl w) = inl (record {
  rest = w.rest;
  left = telling Stands Tells h run s w.rest (halted-keeper h count alone why moment conn got s w.rest w.halts) told w.left;
  halts = w.halts;
  written = w.written;
})
stopped-telling Stands Tells h count alone moment conn got run s b a why told (inr w) = inr (record {
  writing = w.writing;
  state = w.state;
  text = w.text;
  runs = w.runs;
  left = telling Stands Tells h run s w.state w.runs.keeper told w.left;
  written = w.written;
})

any : (Stands : Fronts → Type 0) (Tells : Telling → Type 0) (h : House) (run : ScriptRun) (s : RunState)
    → IsAt Stands Tells h run s → IsAt Stands AnyTelling h run s
any Stands Tells h run s at =
    record { outside = record { stands_for = at.outside.stands_for; told = tt }; inside = at.inside }

-- from each state

-- if the turn did not stop, its line is run from each state, and the keeper tells what it told before
pub all-said : {A : Type 0} (r : Result A RunEnd) (Was Stands : Fronts → Type 0) (Tells : Telling → Type 0) (sure : Type 0) (h : House)
    (count : ℕ) (alone : Bool) (moment conn : ℕ) (got : Got) (run next : ScriptRun) (b a : Option (List ℕ))
    → OnOk r ((s : RunState) → IsAt Was AnyTelling h run s
    → RunsLine (IsAt Stands AnyTelling h next) h count alone (line.Says moment conn got) s b a)
    → OnOk r (FromEach (IsAt Was Tells h run) sure
    (λ s. RunsLine (IsAt Stands Tells h next) h count alone (line.Says moment conn got) s b a))
all-said (Ok x) Was Stands Tells sure h count alone moment conn got run next b a ran = λ s at is.
    said-telling Stands Tells h count alone moment conn got next s b a at.outside.told (ran s (any Was Tells h run s at))
all-said (Err e) Was Stands Tells sure h count alone moment conn got run next b a ran = tt

-- if the turn stopped, its line stops from each state, and the keeper tells what it told before
pub all-stopped : {A : Type 0} (r : Result A RunEnd) (Was Stands : Fronts → Type 0) (Tells : Telling → Type 0) (sure : Type 0)
    (h : House) (count : ℕ) (alone : Bool) (moment conn : ℕ) (got : Got) (run next : ScriptRun) (b a : Option (List ℕ))
    → IfErr r (λ why. (s : RunState) → IsAt Was AnyTelling h run s
    → StopsLine (IsAt Stands AnyTelling h next) h count alone (line.Says moment conn got) s b a why)
    → IfErr r (λ why. FromEach (IsAt Was Tells h run) sure
    (λ s. StopsLine (IsAt Stands Tells h next) h count alone (line.Says moment conn got) s b a why))
all-stopped (Ok x) Was Stands Tells sure h count alone moment conn got run next b a ran = tt
all-stopped (Err e) Was Stands Tells sure h count alone moment conn got run next b a ran = λ s at is.
    stopped-telling Stands Tells h count alone moment conn got next s b a e at.outside.told (ran s (any Was Tells h run s at))
