-- Do lines that are run over a lone hall do and write what `hb_talk` says of a script? Yes.
use Rattle.std.proofs.Common.{◌≡◌, ◌≢◌, ℕ, ◌<◌, ◌≤◌, suc, Bool, true, false, ◌||◌, List, [], ◌∷◌, ◌++◌, refl, sym, ap, subst, ◌∙◌, append_assoc, append-nil, arith, reverse, take, drop, length, length-append, take-append-drop, codes, decimal, if◌then◌else◌, inl, inr, Some, None, drop-cons, nat_eq}
use Rattle.std.proofs.lemmas.Bool.{eqb-false}
use Rattle.std.proofs.lemmas.Bool.Decides.{nat_tests}
use Rattle.std.proofs.lemmas.List.{reverse-append, take-append-le}
use Rattle.std.proofs.lemmas.Option.{get_or_from_slice_get, slice_get_within}
use Rattle.std.proofs.Math.Bool.{or-false, or-true}
use Rattle.std.specs.Io.KnownBytes.{Appends}
use Rattle.std.specs.Prelude.{Option, slice_get}
use Rattle.hb_io.specs.declared.got.Got.{Got}
use Rattle.hb_keeper.specs.declared.errors.KeepError.{KeepError}
use Rattle.hb_keeper.specs.declared.errors.KeepError.TheVariants as keep
use Rattle.hb_club.specs.declared.commands.Entry.{Entry}
use Rattle.hb_club.specs.Fronts.{Fronts, House, is_room, site_of, with_event}
use Rattle.hb_club.specs.Lobby.{lobby_answer}
use Rattle.hb_club.specs.RoomEvents.{Call, RoomEvent}
use Rattle.hb_club.specs.Rooms.{answer_to}
use Rattle.hb_club.specs.Views.{view_at}
use Rattle.hb_house.specs.declared.reports.Report.{Report}
use Rattle.hb_house.specs.ClerkReports.{by_keeper}
use Rattle.hb_house.specs.ClerkRounds.{begun}
use Rattle.hb_house.proofs.PlainStandsLemmas.{with_event-here, with_event-there}
use Rattle.hb_talk.specs.declared.errands.Errand.{Errand}
use Rattle.hb_talk.specs.declared.errands.Errand.TheVariants as errand
use Rattle.hb_talk.specs.declared.scripts.ScriptLine.{ScriptLine}
use Rattle.hb_talk.specs.declared.scripts.ScriptLine.TheVariants as line
use Rattle.hb_talk.specs.declared.sessions.Session.{Session}
use Rattle.hb_talk.specs.Errands.{asked}
use Rattle.hb_talk.specs.LoneClerk.{Round as LoneRound, clerk_round, new_round}
use Rattle.hb_talk.specs.Scripts.{Ran, Stage, after_clerk, clerk_text, fronts_after, is_fault, ran_unless, said, script_text, sent, session_of, stage_after}
use Rattle.hb_talk.specs.Sessions.{RoomCalls, TurnCalls}
use Rattle.hb_talk.specs.Turns.{FromLobby, FromRoom, Turn, heard, heard_when, turn_of, turn_on}
use Rattle.hb_run.specs.LoneRuns.{IsScript, IsStage, KnowsFaults, LoneEnds, LoneFronts, LoneRuns, StopsScript}
use Rattle.hb_run.specs.RunLines.{ClerkFaults, ClerkHalts, ClerkRuns, LineRuns, RunState, TurnRuns, place_of, report_line}
use Rattle.hb_run.specs.ScriptRuns.{Runs}
use Rattle.hb_run.specs.WrittenFronts.{AppendsFront}
use Rattle.hb_run.proofs.ToldCallsLemmas.{IsKnown}
use Rattle.hb_run.proofs.LoneRoundsLemmas.{IsLone, IsLoneBy, halts-lone, rounds-lone}

-- a line of a script wrote this text and came to the state of a run, stopped for this cause
record IsRan (planned : Bool) (r : Ran) (t : RunState) (text : List ℕ) (why : Option KeepError) : Type 0 where
  pub text_is : text ≡ r.text
  pub stands : IsStage planned t r.stage
  pub stopped_by : r.stage.stopped ≡ why

-- the clerk

seven-are : (a b c d e f g : List ℕ) → a ++ b ++ c ++ d ++ e ++ f ++ g ≡ a ++ (b ++ (c ++ (d ++ (e ++ (f ++ g)))))
seven-are a b c d e f g = simp append_assoc refl

report-is : (t : Report) (r : LoneRound) → t.saved ≡ r.saved → t.loaded ≡ r.loaded → t.missing ≡ r.missing
    → report_line t ≡ clerk_text r None
report-is t r saved loaded missing =
    ap (λ (n : ℕ). codes "clerk saved " ++ (decimal n ++ (codes " loaded " ++ (decimal t.loaded
    ++ (codes " missing " ++ (decimal t.missing ++ codes "\n")))))) saved
    ∙ (ap (λ (n : ℕ). codes "clerk saved " ++ (decimal r.saved ++ (codes " loaded " ++ (decimal n
    ++ (codes " missing " ++ (decimal t.missing ++ codes "\n")))))) loaded
    ∙ (ap (λ (n : ℕ). codes "clerk saved " ++ (decimal r.saved ++ (codes " loaded " ++ (decimal r.loaded
    ++ (codes " missing " ++ (decimal n ++ codes "\n")))))) missing
    ∙ sym (seven-are (codes "clerk saved ") (decimal r.saved) (codes " loaded ") (decimal r.loaded) (codes " missing ") (decimal r.missing)
    (codes "\n"))))

-- what is done behind the clerk's way, which was refused so
abbrev ran_by : Stage → LoneRound → Option KeepError → Ran
ran_by s r why = record {
  text = clerk_text r why;
  stage = record s {
    fronts = r.fronts;
    keeping = r.keeping;
    faulted = s.faulted || is_fault why;
    stopped = if is_fault why then None else why;
  };
}

-- the state behind it
clerk-stands : (planned : Bool) (stage : Stage) (r : LoneRound) (s t : RunState) (report : Report) (why : Option KeepError)
    → IsStage planned s stage
    → IsLone planned (place_of t report) r → t.sessions ≡ s.sessions → t.faulted ≡ (stage.faulted || is_fault why)
    → IsStage planned t (ran_by stage r why).stage
clerk-stands planned stage r s t report why stands lone sessions faulted = record {
  rooms = lone.rooms;
  lobby = lone.lobby;
  keeper = lone.keeper;
  plan = lone.plan;
  sessions = sessions ∙ stands.sessions;
  faulted = faulted;
}

begun-lone : (planned : Bool) (s : RunState) (stage : Stage) → IsStage planned s stage → IsLone planned (begun s.fronts s.keeper)
    (new_round stage.fronts stage.keeping)
begun-lone planned s stage stands = record {
  rooms = stands.rooms;
  lobby = stands.lobby;
  keeper = stands.keeper;
  plan = stands.plan;
  saved = refl;
  loaded = refl;
  missing = refl;
}

clerk-ran : (planned : Bool) (h : House) (count moment : ℕ) (stage : Stage) (s t : RunState) (text : List ℕ) → IsStage planned s stage
    → ClerkRuns h count true moment s t text
    → IsRan planned (after_clerk stage (clerk_round h count moment stage.fronts stage.keeping)) t text None
clerk-ran planned h count moment stage s t text stands ran =
    let r : LoneRound = clerk_round h count moment stage.fronts stage.keeping in
    let all : IsLoneBy planned None (place_of t ran.report) r =
    rounds-lone planned h moment (begun s.fronts s.keeper) count (place_of t ran.report) (new_round stage.fronts stage.keeping) ran.rounds
    (begun-lone planned s stage stands) refl in
    let lone = all.lone in
    let end : IsRan planned (ran_by stage r None) t text None = record {
      text_is = ran.tells ∙ report-is ran.report r lone.saved lone.loaded lone.missing;
      stands = clerk-stands planned stage r s t ran.report None stands lone ran.sessions
          (ran.faulted ∙ (stands.faulted ∙ sym (or-false stage.faulted)));
      stopped_by = refl;
    } in
    subst (λ (o : Option KeepError). IsRan planned (ran_by stage r o) t text None) (sym all.refused) end

-- (a fault was met, so faults are told)
told-fault : (planned : Bool) (t : RunState) → KnowsFaults planned t → t.faulted ≡ true → planned ≡ true
told-fault planned t (inl told) is = told
told-fault planned t (inr calm) is = let both : true ≡ false = sym is ∙ calm in absurd cc

fault-known : (planned : Bool) (t : RunState) → KnowsFaults planned t → t.faulted ≡ true → IsKnown planned keep.Fault
fault-known planned t knows is = record { memory = (λ bad. cc); fault = (λ same. told-fault planned t knows is) }

clerk-faulted : (planned : Bool) (h : House) (count moment : ℕ) (stage : Stage) (s t : RunState) (text : List ℕ) → IsStage planned s stage
    → KnowsFaults planned t → ClerkFaults h count true moment s t text
    → IsRan planned (after_clerk stage (clerk_round h count moment stage.fronts stage.keeping)) t text None
clerk-faulted planned h count moment stage s t text stands knows fault =
    let r : LoneRound = clerk_round h count moment stage.fronts stage.keeping in
    let halts : ClerkHalts h count true moment (by_keeper keep.Fault) s t = fault.halts in
    let all : IsLoneBy planned (Some keep.Fault) (place_of t halts.report) r =
    halts-lone planned h count moment keep.Fault s t stage.fronts stage.keeping (fault-known planned t knows fault.faulted)
    (begun-lone planned s stage stands) halts in
    let end : IsRan planned (ran_by stage r (Some keep.Fault)) t text None = record {
      text_is = fault.tells;
      stands = clerk-stands planned stage r s t halts.report (Some keep.Fault) stands all.lone halts.sessions
          (fault.faulted ∙ sym (or-true stage.faulted));
      stopped_by = refl;
    } in
    subst (λ (o : Option KeepError). IsRan planned (ran_by stage r o) t text None) (sym all.refused) end

-- a turn

-- the same lists, at each room
record SameLists (f g : Fronts) : Type 0 where
  pub rooms : (room : ℕ) → f.rooms room ≡ g.rooms room
  pub lobby : f.lobby ≡ g.lobby

room-called : (is : Bool) (room : ℕ) (event : RoomEvent) (f g stood : Fronts) → SameLists f stood → RoomCalls is true room event f g
    → SameLists g (if is then with_event room event stood else stood)
room-called true room event f g stood same takes = record {
  rooms = (λ other. by other (nat_eq other room) refl);
  lobby = takes.rest.lobby ∙ same.lobby;
}
  where
    by : (other : ℕ) (b : Bool) → nat_eq other room ≡ b → g.rooms other ≡ (with_event room event stood).rooms other
    by other true at =
        let place : other ≡ room = grind (arith, nat_tests) in
        let own : g.rooms room ≡ event ∷ stood.rooms room =
        takes.front ∙ (ap (λ (l : List RoomEvent). event ∷ l ++ f.rooms room) (takes.quiet refl)
        ∙ ap (λ (l : List RoomEvent). event ∷ l) (same.rooms room)) in
        rw place (own ∙ sym (with_event-here room event stood))
    by other false at =
        let apart : other ≢ room = eqb-false other room at in
        takes.rest.rooms other apart ∙ (same.rooms other ∙ sym (with_event-there room other event stood apart))
room-called false room event f g stood same waits = record {
  rooms = (λ other. by other (nat_eq other room) refl);
  lobby = waits.rest.lobby ∙ same.lobby;
}
  where
    by : (other : ℕ) (b : Bool) → nat_eq other room ≡ b → g.rooms other ≡ stood.rooms other
    by other true at =
        let place : other ≡ room = grind (arith, nat_tests) in
        let own : g.rooms room ≡ stood.rooms room =
        waits.front ∙ (ap (λ (l : List RoomEvent). l ++ f.rooms room) (waits.quiet refl) ∙ same.rooms room) in
        rw place own
    by other false at =
        let apart : other ≢ room = eqb-false other room at in
        waits.rest.rooms other apart ∙ same.rooms other

as-before : (f g stood : Fronts) → g ≡ f → SameLists f stood → SameLists g stood
as-before f g stood is same = record {
  rooms = (λ room. ap (λ (k : Fronts). k.rooms room) is ∙ same.rooms room);
  lobby = ap (λ (k : Fronts). k.lobby) is ∙ same.lobby;
}

calls-lone : (count : ℕ) (task : Errand) (f g stood : Fronts) → SameLists f stood → TurnCalls true count task f g
    → SameLists g (fronts_after count task stood)
calls-lone count errand.Nothing f g stood same is = as-before f g stood is same
calls-lone count (errand.Bad why) f g stood same is = as-before f g stood is same
calls-lone count (errand.Denied why) f g stood same is = as-before f g stood is same
calls-lone count (errand.Enters entry) f g stood same takes = record {
  rooms = (λ room. takes.rooms room ∙ same.rooms room);
  lobby = takes.front ∙ (ap (λ l. entry ∷ l ++ f.lobby) (takes.quiet refl) ∙ ap (λ l. entry ∷ l) same.lobby);
}
calls-lone count (errand.Calls room e) f g stood same calls = room-called (is_room count room) room (Call e) f g stood same calls

-- a turn is one of its lists room by room

room-heard : (is : Bool) (h : House) (f g : Fronts) (room : ℕ) (e : Entry) → f.rooms room ≡ g.rooms room
    → heard_when is h f room e ≡ heard_when is h g room e
room-heard true h f g room e same = ap (λ (l : List RoomEvent). FromRoom room e (answer_to (site_of h room) l) (view_at
    (site_of h room) l e.member)) same
room-heard false h f g room e same = refl

heard-same : (h : House) (count : ℕ) (f g : Fronts) (task : Errand) → SameLists f g → heard h count f task ≡ heard h count g task
heard-same h count f g errand.Nothing same = refl
heard-same h count f g (errand.Bad why) same = refl
heard-same h count f g (errand.Denied why) same = refl
heard-same h count f g (errand.Enters entry) same = ap (λ l. FromLobby (lobby_answer l)) same.lobby
heard-same h count f g (errand.Calls room e) same = room-heard (is_room count room) h f g room e (same.rooms room)

turn-same : (h : House) (count : ℕ) (f g : Fronts) (x : Session) (task : Errand) → SameLists f g
    → turn_of h count f x task ≡ turn_of h count g x task
unfolding turn_of
turn-same h count f g x task same = ap (turn_on x task) (heard-same h count f g task same)

said-ran : (planned : Bool) (h : House) (count conn moment : ℕ) (got : Got) (stage : Stage) (s t : RunState) (text : List ℕ)
    → IsStage planned s stage
    → stage.stopped ≡ None → TurnRuns h count true conn (asked (session_of conn s.sessions) moment got) s t text
    → IsRan planned (said h count conn stage (asked (session_of conn stage.sessions) moment got)) t text None
said-ran planned h count conn moment got stage s t text stands free was =
    let x : Session = session_of conn stage.sessions in
    let task : Errand = asked x moment got in
    let same_x : session_of conn s.sessions ≡ x = ap (session_of conn) stands.sessions in
    let turn : TurnRuns h count true conn task s t text =
    subst (λ (y : Session). TurnRuns h count true conn (asked y moment got) s t text) same_x was in
    let after : Fronts = fronts_after count task stage.fronts in
    let lists : SameLists t.fronts after =
    calls-lone count task s.fronts t.fronts stage.fronts (record { rooms = stands.rooms; lobby = stands.lobby }) turn.calls in
    let turns : turn_of h count t.fronts (session_of conn s.sessions) task ≡ turn_of h count after x task =
    ap (λ (y : Session). turn_of h count t.fronts y task) same_x ∙ turn-same h count t.fronts after x task lists in
    record {
      text_is = turn.sends ∙ ap (λ (u : Turn). sent conn u.texts) turns;
      stands = record {
        rooms = lists.rooms;
        lobby = lists.lobby;
        keeper = turn.keeper ∙ stands.keeper;
        plan = stands.plan;
        sessions = turn.sessions
            ∙ (ap (λ (u : Turn). (conn, u.left) ∷ s.sessions) turns
            ∙ ap (λ (l : List (ℕ × Session)). (conn, (turn_of h count after x task).left) ∷ l) stands.sessions);
        faulted = turn.faulted ∙ stands.faulted;
      };
      stopped_by = free;
    }

-- a line

line-ran : (planned : Bool) (h : House) (count : ℕ) (l : ScriptLine) (stage : Stage) (s t : RunState) (text : List ℕ)
    → IsStage planned s stage
    → stage.stopped ≡ None → KnowsFaults planned t → LineRuns h count true l s t text → IsRan planned
    (ran_unless None h count stage l) t text None
line-ran planned h count (line.Clerk moment) stage s t text stands free knows
    (inl ran) = clerk-ran planned h count moment stage s t text stands ran
line-ran planned h count (line.Clerk moment) stage s t text stands free knows (inr fault) =
    clerk-faulted planned h count moment stage s t text stands knows fault
line-ran planned h count (line.Says moment conn got) stage s t text stands free knows turn =
    said-ran planned h count conn moment got stage s t text stands free turn

-- lists of lines, which stand newest first here

stage_after-append : (h : House) (count : ℕ) (s : Stage) (later lines : List ScriptLine)
    → stage_after h count s (later ++ lines) ≡ stage_after h count (stage_after h count s lines) later
unfolding stage_after
stage_after-append h count s [] lines = refl
stage_after-append h count s (l ∷ later) lines =
    ap (λ (b : Stage). (ran_unless b.stopped h count b l).stage) (stage_after-append h count s later lines)

script_text-append : (h : House) (count : ℕ) (s : Stage) (later lines : List ScriptLine)
    → script_text h count s (later ++ lines) ≡ script_text h count s lines ++ script_text h count (stage_after h count s lines) later
unfolding script_text
script_text-append h count s [] lines = sym (append-nil (script_text h count s lines))
script_text-append h count s (l ∷ later) lines =
    let wrote : Stage → List ℕ = λ b. (ran_unless b.stopped h count b l).text in
    let before : Stage = stage_after h count (stage_after h count s lines) later in
    ap (λ (x : List ℕ). x ++ wrote (stage_after h count s (later ++ lines))) (script_text-append h count s later lines)
    ∙ (ap (λ (b : Stage). script_text h count s lines ++ script_text h count (stage_after h count s lines) later ++ wrote b)
    (stage_after-append h count s later lines)
    ∙ append_assoc (script_text h count s lines) (script_text h count (stage_after h count s lines) later) (wrote before))

-- one line
stage_after-one : (h : House) (count : ℕ) (s : Stage) (l : ScriptLine) → stage_after h count s (l ∷ []) ≡
    (ran_unless s.stopped h count s l).stage
unfolding stage_after
stage_after-one h count s l = refl

script_text-one : (h : House) (count : ℕ) (s : Stage) (l : ScriptLine) → script_text h count s (l ∷ []) ≡
    (ran_unless s.stopped h count s l).text
unfolding script_text stage_after
script_text-one h count s l = refl

-- scripts, whose lines stand in their order

-- lines behind lines
script-join : (planned : Bool) (h : House) (count : ℕ) (stage : Stage) (lines others : List ScriptLine) (s t : RunState)
    (text more : List ℕ)
    (why : Option KeepError) → IsScript planned h count stage lines text s None
    → IsScript planned h count (stage_after h count stage (reverse lines)) others more t why
    → IsScript planned h count stage (lines ++ others) (text ++ more) t why
script-join planned h count stage lines others s t text more why first next =
    let middle : Stage = stage_after h count stage (reverse lines) in
    let order : reverse (lines ++ others) ≡ reverse others ++ reverse lines = reverse-append lines others in
    let stages : stage_after h count stage (reverse (lines ++ others)) ≡ stage_after h count middle (reverse others) =
    ap (stage_after h count stage) order ∙ stage_after-append h count stage (reverse others) (reverse lines) in
    let texts : script_text h count stage (reverse (lines ++ others))
    ≡ script_text h count stage (reverse lines) ++ script_text h count middle (reverse others) =
    ap (script_text h count stage) order ∙ script_text-append h count stage (reverse others) (reverse lines) in
    record {
      text_is = ap (λ (x : List ℕ). x ++ more) first.text_is
          ∙ (ap (λ (x : List ℕ). script_text h count stage (reverse lines) ++ x) next.text_is ∙ sym texts);
      stands = subst (IsStage planned t) (sym stages) next.stands;
      stopped_by = ap (λ (b : Stage). b.stopped) stages ∙ next.stopped_by;
    }

no-script : (planned : Bool) (h : House) (count : ℕ) (stage : Stage) (s : RunState) (why : Option KeepError) → IsStage planned s stage
    → stage.stopped ≡ why
    → IsScript planned h count stage [] [] s why
unfolding stage_after script_text
no-script planned h count stage s why stands is = record { text_is = refl; stands = stands; stopped_by = is }

script-one : (planned : Bool) (h : House) (count : ℕ) (stage : Stage) (l : ScriptLine) (t : RunState) (text : List ℕ)
    (why : Option KeepError)
    → stage.stopped ≡ None → IsRan planned (ran_unless None h count stage l) t text why → IsScript planned h count stage (l ∷ []) text t why
script-one planned h count stage l t text why free ran =
    let one : IsRan planned (ran_unless stage.stopped h count stage l) t text why =
    subst (λ (o : Option KeepError). IsRan planned (ran_unless o h count stage l) t text why) (sym free) ran in
    record {
      text_is = one.text_is ∙ sym (script_text-one h count stage l);
      stands = subst (IsStage planned t) (sym (stage_after-one h count stage l)) one.stands;
      stopped_by = ap (λ (b : Stage). b.stopped) (stage_after-one h count stage l) ∙ one.stopped_by;
    }

-- a run in which no fault was met met none at first

line-calm : (h : House) (count : ℕ) (l : ScriptLine) (s t : RunState) (text : List ℕ) → LineRuns h count true l s t text
    → t.faulted ≡ false → s.faulted ≡ false
line-calm h count (line.Clerk moment) s t text (inl ran) calm = sym ran.faulted ∙ calm
line-calm h count (line.Clerk moment) s t text (inr fault) calm = let both : true ≡ false = sym fault.faulted ∙ calm in absurd cc
line-calm h count (line.Says moment conn got) s t text turn calm = sym turn.faulted ∙ calm

runs-calm : (h : House) (count : ℕ) (lines : List ScriptLine) (s t : RunState) (text : List ℕ) → Runs h count true lines s t text
    → t.faulted ≡ false → s.faulted ≡ false
runs-calm h count [] s t text ran calm = sym (ap (λ (k : RunState). k.faulted) ran.0) ∙ calm
runs-calm h count (l ∷ lines) s t text ran calm =
    line-calm h count l s ran.between ran.first ran.line (runs-calm h count lines ran.between t ran.rest ran.others calm)

knows-before : (planned : Bool) (h : House) (count : ℕ) (lines : List ScriptLine) (s t : RunState) (text : List ℕ)
    → Runs h count true lines s t text → KnowsFaults planned t → KnowsFaults planned s
knows-before planned h count lines s t text ran (inl told) = inl told
knows-before planned h count lines s t text ran (inr calm) = inr (runs-calm h count lines s t text ran calm)

-- lines that are run
pub lone-runs : LoneRuns
lone-runs planned h count [] stage s t text stands free knows ran =
    subst (λ (x : List ℕ). IsScript planned h count stage [] x t None) (sym ran.1)
    (subst (λ (k : RunState). IsScript planned h count stage [] [] k None) (sym ran.0) (no-script planned h count stage s None stands free))
lone-runs planned h count (l ∷ lines) stage s t text stands free knows ran =
    let before : KnowsFaults planned ran.between = knows-before planned h count lines ran.between t ran.rest ran.others knows in
    let one : IsScript planned h count stage (l ∷ []) ran.first ran.between None =
    script-one planned h count stage l ran.between ran.first None free
    (line-ran planned h count l stage s ran.between ran.first stands free before ran.line) in
    let middle : Stage = stage_after h count stage (reverse (l ∷ [])) in
    let others : IsScript planned h count middle lines ran.rest t None =
    lone-runs planned h count lines middle ran.between t ran.rest one.stands one.stopped_by knows ran.others in
    subst (λ (x : List ℕ). IsScript planned h count stage (l ∷ lines) x t None) (sym ran.joined)
    (script-join planned h count stage (l ∷ []) lines ran.between t ran.first ran.rest None one others)

-- a script that stopped

stopped-ran : (why : KeepError) (h : House) (count : ℕ) (b : Stage) (l : ScriptLine) → b.stopped ≡ Some why
    → ran_unless b.stopped h count b l ≡ record { text = []; stage = b }
stopped-ran why h count b l is = ap (λ (o : Option KeepError). ran_unless o h count b l) is

stopped-stage : (why : KeepError) (h : House) (count : ℕ) (s : Stage) (lines : List ScriptLine) → s.stopped ≡ Some why
    → stage_after h count s lines ≡ s
unfolding stage_after
stopped-stage why h count s [] is = refl
stopped-stage why h count s (l ∷ lines) is =
    ap (λ (b : Stage). (ran_unless b.stopped h count b l).stage) (stopped-stage why h count s lines is)
    ∙ ap (λ (r : Ran). r.stage) (stopped-ran why h count s l is)

stopped-text : (why : KeepError) (h : House) (count : ℕ) (s : Stage) (lines : List ScriptLine) → s.stopped ≡ Some why
    → script_text h count s lines ≡ []
unfolding script_text
stopped-text why h count s [] is = refl
stopped-text why h count s (l ∷ lines) is =
    ap (λ (x : List ℕ). x ++ (ran_unless (stage_after h count s lines).stopped h count (stage_after h count s lines) l).text)
    (stopped-text why h count s lines is)
    ∙ (ap (λ (b : Stage). (ran_unless b.stopped h count b l).text) (stopped-stage why h count s lines is)
    ∙ ap (λ (r : Ran). r.text) (stopped-ran why h count s l is))

script-stopped : (planned : Bool) (h : House) (count : ℕ) (stage : Stage) (lines others : List ScriptLine) (t : RunState)
    (text : List ℕ) (why : KeepError)
    → IsScript planned h count stage lines text t (Some why) → IsScript planned h count stage (lines ++ others) text t (Some why)
script-stopped planned h count stage lines others t text why first =
    let middle : Stage = stage_after h count stage (reverse lines) in
    let order : reverse (lines ++ others) ≡ reverse others ++ reverse lines = reverse-append lines others in
    let stages : stage_after h count stage (reverse (lines ++ others)) ≡ middle =
    ap (stage_after h count stage) order
    ∙ (stage_after-append h count stage (reverse others) (reverse lines)
    ∙ stopped-stage why h count middle (reverse others) first.stopped_by) in
    let texts : script_text h count stage (reverse (lines ++ others)) ≡ script_text h count stage (reverse lines) =
    ap (script_text h count stage) order
    ∙ (script_text-append h count stage (reverse others) (reverse lines)
    ∙ (ap (λ (x : List ℕ). script_text h count stage (reverse lines) ++ x)
    (stopped-text why h count middle (reverse others) first.stopped_by)
    ∙ append-nil (script_text h count stage (reverse lines)))) in
    record {
      text_is = first.text_is ∙ sym texts;
      stands = subst (IsStage planned t) (sym stages) first.stands;
      stopped_by = ap (λ (b : Stage). b.stopped) stages ∙ first.stopped_by;
    }

-- (such a refusal is no fault, and no want of memory, and it writes nothing)
stops-known : (planned : Bool) (why : KeepError) → StopsScript why → IsKnown planned why
stops-known planned keep.Fault stops = absurd stops
stops-known planned (keep.KeyDiffers id) stops = record { memory = (λ bad. cc); fault = (λ bad. absurd cc) }
stops-known planned keep.UsedUp stops = record { memory = (λ bad. cc); fault = (λ bad. absurd cc) }
stops-known planned keep.NoMemory stops = absurd stops

stops-quiet : (why : KeepError) → StopsScript why → is_fault (Some why) ≡ false
stops-quiet keep.Fault stops = absurd stops
stops-quiet (keep.KeyDiffers id) stops = refl
stops-quiet keep.UsedUp stops = refl
stops-quiet keep.NoMemory stops = refl

stops-text : (why : KeepError) (r : LoneRound) → StopsScript why → clerk_text r (Some why) ≡ []
stops-text keep.Fault r stops = absurd stops
stops-text (keep.KeyDiffers id) r stops = refl
stops-text keep.UsedUp r stops = refl
stops-text keep.NoMemory r stops = refl

clerk-stopped : (planned : Bool) (h : House) (count moment : ℕ) (why : KeepError) (stage : Stage) (s t : RunState) → StopsScript why
    → IsStage planned s stage
    → ClerkHalts h count true moment (by_keeper why) s t → t.faulted ≡ s.faulted
    → IsRan planned (after_clerk stage (clerk_round h count moment stage.fronts stage.keeping)) t [] (Some why)
clerk-stopped planned h count moment why stage s t stops stands halts faulted =
    let r : LoneRound = clerk_round h count moment stage.fronts stage.keeping in
    let all : IsLoneBy planned (Some why) (place_of t halts.report) r =
    halts-lone planned h count moment why s t stage.fronts stage.keeping (stops-known planned why stops)
    (begun-lone planned s stage stands) halts in
    let quiet : is_fault (Some why) ≡ false = stops-quiet why stops in
    let end : IsRan planned (ran_by stage r (Some why)) t [] (Some why) = record {
      text_is = sym (stops-text why r stops);
      stands = clerk-stands planned stage r s t halts.report (Some why) stands all.lone halts.sessions
          (faulted ∙ (stands.faulted
          ∙ (sym (or-false stage.faulted) ∙ ap (λ (b : Bool). stage.faulted || b) (sym quiet))));
      stopped_by = ap (λ (b : Bool). if b then None else Some why) quiet;
    } in
    subst (λ (o : Option KeepError). IsRan planned (ran_by stage r o) t [] (Some why)) (sym all.refused) end

split-at : (lines : List ScriptLine) (done : ℕ) (l : ScriptLine) → slice_get lines done ≡ Some l
    → (take done lines ++ l ∷ []) ++ drop (suc done) lines ≡ lines
split-at lines done l is =
    let within : done < length lines = slice_get_within lines done l is in
    let here : drop done lines ≡ l ∷ drop (suc done) lines =
    drop-cons lines done l within
    ∙ ap (λ (x : ScriptLine). x ∷ drop (suc done) lines) (get_or_from_slice_get lines done l l is) in
    append_assoc (take done lines) (l ∷ []) (drop (suc done) lines)
    ∙ (ap (λ (x : List ScriptLine). take done lines ++ x) (sym here) ∙ take-append-drop done lines)

-- a refusal that stops a run stops the script too, and the text of the lines before is all that it writes
pub lone-ends : LoneEnds
lone-ends planned h count lines done stage s t rest text why stands free knows ran stops ends =
    let first : IsScript planned h count stage (take done lines) text t None =
    lone-runs planned h count (take done lines) stage s t text stands free knows ran in
    let middle : Stage = stage_after h count stage (reverse (take done lines)) in
    let last : IsScript planned h count middle (line.Clerk ends.moment ∷ []) [] rest (Some why) =
    script-one planned h count middle (line.Clerk ends.moment) rest [] (Some why) first.stopped_by
    (clerk-stopped planned h count ends.moment why middle t rest stops first.stands ends.halts ends.faulted) in
    let all : IsScript planned h count stage (take done lines ++ line.Clerk ends.moment ∷ []) (text ++ []) rest (Some why) =
    script-join planned h count stage (take done lines) (line.Clerk ends.moment ∷ []) t rest text [] (Some why) first last in
    let stopped : IsScript planned h count stage ((take done lines ++ line.Clerk ends.moment ∷ []) ++ drop (suc done) lines)
    (text ++ []) rest
    (Some why) =
    script-stopped planned h count stage (take done lines ++ line.Clerk ends.moment ∷ []) (drop (suc done) lines) rest
    (text ++ []) why all in
    subst (λ (x : List ℕ). IsScript planned h count stage lines x rest (Some why)) (append-nil text)
    (subst (λ (x : List ScriptLine). IsScript planned h count stage x (text ++ []) rest (Some why)) (split-at lines done
    (line.Clerk ends.moment)
    ends.is) stopped)

-- fronts of the text

front-more : (b a : Option (List ℕ)) (text more : List ℕ) → AppendsFront b a text → AppendsFront b a (text ++ more)
front-more b a text more front =
    let low : front.bytes ≤ length text = front.within in
    let within : front.bytes ≤ length (text ++ more) = grind (arith, length-append, low) in
    record {
      bytes = front.bytes;
      within = within;
      written = subst (Appends b a) (sym (take-append-le front.bytes text more low)) front.written;
    }

-- if a front of the text of the first lines was written, it is a front of the text of all lines
pub lone-fronts : LoneFronts
lone-fronts h count lines done stage b a front =
    let first : List ScriptLine = take done lines in
    let later : List ScriptLine = drop done lines in
    let text : List ℕ = script_text h count stage (reverse first) in
    let more : List ℕ = script_text h count (stage_after h count stage (reverse first)) (reverse later) in
    let whole : text ++ more ≡ script_text h count stage (reverse lines) =
    sym (script_text-append h count stage (reverse later) (reverse first))
    ∙ (ap (script_text h count stage) (sym (reverse-append first later))
    ∙ ap (λ (x : List ScriptLine). script_text h count stage (reverse x)) (take-append-drop done lines)) in
    subst (AppendsFront b a) whole (front-more b a text more front)
