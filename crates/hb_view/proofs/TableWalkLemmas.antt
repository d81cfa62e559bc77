-- Do ended games stay as they are, and may each step of a review be taken? Yes, at the latest table of each room.
use Rattle.std.proofs.Common.{◌≡◌, ℕ, ◌+◌, ◌≤◌, Bool, true, false, List, [], ◌∷◌, ◌++◌, refl, ap, sym, subst, ◌∙◌, length, Some, None, Option}
use Rattle.std.specs.Prelude.{⊤, ◌&&◌, ◌||◌, not, if◌then◌else◌, is_some, nat_le, option_map, unwrap_or}
use Rattle.std.proofs.lemmas.Bool.{and_parts, not-false, not-true, or_parts}
use Rattle.hb_rules.specs.declared.acts.Act.{Act}
use Rattle.hb_rules.specs.declared.acts.Action.{Action}
use Rattle.hb_rules.specs.declared.acts.Action.TheVariants as action
use Rattle.hb_rules.specs.declared.acts.EndHow.TheVariants.{Terminated, Timeout}
use Rattle.hb_rules.specs.declared.acts.Options.{Options}
use Rattle.hb_rules.specs.declared.limits.TheConstants.{FEWEST_PLAYERS}
use Rattle.hb_rules.specs.declared.setups.Setup.{Setup}
use Rattle.hb_rules.specs.declared.variants.Variant.{Variant}
use Rattle.hb_rules.specs.Legality.{rule}
use Rattle.hb_rules.specs.Result.{ended}
use Rattle.hb_rules.specs.Setup.{Position, by}
use Rattle.hb_suits.specs.VariantNames.{variant_of}
use Rattle.hb_timer.specs.declared.timing.TimerCall.{TimerCall}
use Rattle.hb_timer.specs.declared.timing.TimerCall.TheVariants.{TurnEnds, Pauses, Resumes, Stops}
use Rattle.hb_timer.specs.Banks.{bank, effective, is_running, is_stopped, turn_seat}
use Rattle.hb_review.specs.declared.steps.Step.{Step}
use Rattle.hb_review.proofs.Walks.{ended_is_over}
use Rattle.hb_sight.proofs.Beginning.{start-runs}
use Rattle.hb_club.specs.declared.commands.Command.{Command}
use Rattle.hb_club.specs.declared.commands.Command.TheVariants as command
use Rattle.hb_club.specs.declared.commands.Entry.{Entry}
use Rattle.hb_club.specs.declared.items.Item.{Item}
use Rattle.hb_club.specs.declared.items.What.TheVariants as what
use Rattle.hb_club.specs.CommandKinds.{is_open}
use Rattle.hb_club.specs.EndedReplays.{Finished}
use Rattle.hb_club.specs.OwnEntries.{OwnEntry}
use Rattle.hb_club.specs.NewItems.{by_seat, item_of, stamped_item, step_item}
use Rattle.hb_club.specs.RoomEvents.{Site}
use Rattle.hb_club.specs.Seating.{players, seated_names}
use Rattle.hb_club.specs.Table.{Table, game_calls, has_ended, is_paused, seat_of}
use Rattle.hb_club.specs.TableClock.{timer_calls, timing_of}
use Rattle.hb_club.specs.TableFacts.{setup_for, setup_when}
use Rattle.hb_club.specs.TableItems.{act_in, acts, has, is_loaded, is_standing, is_started, steps}
use Rattle.hb_club.specs.TableRecord.{AreInOrder}
use Rattle.hb_club.specs.TableRefusals.{act_rule, is_accepted, own_for}
use Rattle.hb_club.specs.TableReview.{game_when, reviewed_game, step_of, step_refusal}
use Rattle.hb_club.specs.TimeFirst.{timeout, timeout_at, timeout_when}
use Rattle.hb_club.proofs.TableInvariantLemmas.{IsFresh, names-by_seat}
use Rattle.hb_club.proofs.TableRefusalsLemmas.{done-by-rules, done-in-review, done-in-time, done-no-game, done-two-seated}
use Rattle.hb_club.proofs.TimeFirstLemmas.{item_at}
use Rattle.hb_view.specs.StreamViews.{AreSteps, AreStepsOf}
use Rattle.hb_view.proofs.ShownGameLemmas.{not-both, some-none}
use Rattle.hb_view.proofs.StartTextLemmas.{AreNone, unstarted-none}

-- an act stands on a game that runs
abbrev pub ActsOn : Setup → List Item → Option Act → Type 0
ActsOn g before None = ⊤
ActsOn g before (Some act) = is_some (ended g (acts before)) ≡ false

-- and so does each of the items
abbrev pub RunsOn : Setup → List Item → Type 0
RunsOn g [] = ⊤
RunsOn g (i ∷ items) = ActsOn g items (act_in i.what) × RunsOn g items

-- what holds of the latest table, of its loaded game, its started one and its items
pub record Walks (loaded : Option Finished) (game : Option Setup) (items : List Item) : Type 0 where
  pub stopped : (g : Setup) → game ≡ Some g → is_some (ended g (acts items)) ≡ true → is_stopped (timer_calls g items) ≡ true
  pub runs : (g : Setup) → game ≡ Some g → RunsOn g items
  pub walks : AreStepsOf (reviewed_game loaded game items) (steps items)
  pub came : has is_loaded items ≡ true → is_some loaded ≡ true

-- a review without steps walks
pub none-walks : (o : Option Position) (taken : List Step) → taken ≡ [] → AreStepsOf o taken
none-walks None taken none = none
none-walks (Some game) taken none = subst (AreSteps game) (sym none) tt

-- the reviewed game stays with an item that is no act
reviewed_game-stays : (l : Option Finished) (o : Option Setup) (i : Item) (items : List Item) → acts (i ∷ items) ≡ acts items
    → reviewed_game l o (i ∷ items) ≡ reviewed_game l o items
reviewed_game-stays (Some r) o i items e = refl
reviewed_game-stays None None i items e = refl
reviewed_game-stays None (Some g) i items e =
    ap (λ (past : List Act). game_when (is_some (ended g past)) (record { setup = g; past = past })) e

-- and so do the steps that may be taken
pub stays-walks : (l : Option Finished) (o : Option Setup) (i : Item) (items : List Item) (taken : List Step)
    → acts (i ∷ items) ≡ acts items
    → AreStepsOf (reviewed_game l o items) taken → AreStepsOf (reviewed_game l o (i ∷ items)) taken
stays-walks l o i items taken e walks =
    subst (λ (game : Option Position). AreStepsOf game taken) (sym (reviewed_game-stays l o i items e)) walks

-- time does not run where it stands still for good
running-stopped : (calls : List TimerCall) → is_running calls ≡ true → is_stopped calls ≡ true → ⊥
running-stopped [] running stopped = not-both stopped refl
running-stopped (TurnEnds moment ∷ calls) running stopped = not-both stopped refl
running-stopped (Pauses moment ∷ calls) running stopped = not-both stopped refl
running-stopped (Resumes moment ∷ calls) running stopped = not-both stopped refl
running-stopped (Stops moment ∷ calls) running stopped = not-both running refl

-- the review before an act of a game that runs
before-act : (loaded : Option Finished) (game : Option Setup) (items : List Item) (moment : ℕ) (act : Act)
    → ((g : Setup) → game ≡ Some g → is_some (ended g (acts items)) ≡ false) → AreStepsOf (reviewed_game loaded game items) (steps items)
    → AreStepsOf (reviewed_game loaded game (item_at moment (what.Acted act) ∷ items)) (steps items)
before-act (Some r) game items moment act runs walks = walks
before-act None None items moment act runs walks = walks
before-act None (Some g) items moment act runs walks =
    none-walks _ (steps items) (subst (λ (b : Bool). AreStepsOf (game_when b (record { setup = g; past = acts items })) (steps items))
    (runs g refl) walks)

-- what an act leaves
acted-walks : (loaded : Option Finished) (game : Option Setup) (items : List Item) (moment : ℕ) (act : Act)
    → ((g : Setup) → game ≡ Some g → is_some (ended g (acts items)) ≡ false) → Walks loaded game items
    → Walks loaded game (item_at moment (what.Acted act) ∷ items)
acted-walks loaded game items moment act runs before = record {
  stopped = λ g e over. rw over refl;
  runs = λ g e. (runs g e, before.runs g e);
  walks = before-act loaded game items moment act runs before.walks;
  came = before.came;
}

-- what time leaves
pub timeout-walks : (t : Table) (loaded : Option Finished) (o : Option Setup) (moment : ℕ) → Walks loaded o t.items
    → Walks loaded o (timeout t o moment ++ t.items)
timeout-walks t loaded None moment before = before
timeout-walks t loaded (Some g) moment before = by_test (is_standing t.items && t.options.timed)
  where
    calls : List TimerCall
    calls = timer_calls g t.items

    seat : ℕ
    seat = turn_seat (timing_of g t.items) calls

    runs : is_running calls ≡ true → (h : Setup) → Some g ≡ Some h → is_some (ended h (acts t.items)) ≡ false
    runs running h e = pick (is_some (ended h (acts t.items))) refl
      where
        pick : (b : Bool) → is_some (ended h (acts t.items)) ≡ b → b ≡ false
        pick false over = refl
        pick true over = absurd (running-stopped (timer_calls h t.items)
            (subst (λ (k : Setup). is_running (timer_calls k t.items) ≡ true) (ap (λ (o : Option Setup). unwrap_or o g) e) running)
            (before.stopped h e over))

    at_end : (end : ℕ) → is_running calls ≡ true → (b : Bool)
        → Walks loaded (Some g) ((if b then item_at end (what.Acted (by seat (action.End Timeout))) ∷ [] else []) ++ t.items)
    at_end end running true = acted-walks loaded (Some g) t.items end (by seat (action.End Timeout)) (runs running) before
    at_end end running false = before

    by_running : (end : ℕ) (b : Bool) → is_running calls ≡ b
        → Walks loaded (Some g) (timeout_at seat moment (if b then Some end else None) ++ t.items)
    by_running end true running = at_end end running (nat_le end moment)
    by_running end false running = before

    by_test : (b : Bool) → Walks loaded (Some g) (timeout_when b g t.items moment ++ t.items)
    by_test true = by_running (effective (timing_of g t.items) calls + bank (timing_of g t.items) calls seat (effective
        (timing_of g t.items) calls))
        (is_running calls) refl
    by_test false = before

-- items without an act run
none-run : (g : Setup) (items : List Item) → acts items ≡ [] → RunsOn g items
none-run g [] none = tt
none-run g (i ∷ items) none = pick (act_in i.what) refl (λ less. none-run g items less)
  where
    pick : (o : Option Act) → act_in i.what ≡ o → (acts items ≡ [] → RunsOn g items)
        → ActsOn g items (act_in i.what) × RunsOn g items
    pick None e rest = (rw e tt, rest (rw e at none))
    pick (Some act) e rest = let never : (act ∷ acts items) ≡ [] = rw e at none in cc

-- the setup of the game at a table with these items
abbrev pub setup_at : Site → Table → List Item → Option Setup
setup_at s t items = setup_when (is_started items) s t.latest (t.name, t.options) (length (players items))

-- the players of a setup
setup_for-players : (s : Site) (serial : ℕ) (o : Options) (count : ℕ) (v : Option Variant) (g : Setup)
    → option_map (setup_for s serial o count) v ≡ Some g → g.players ≡ count
setup_for-players s serial o count None g e = absurd (some-none (sym e))
setup_for-players s serial o count (Some v) g e =
    ap (λ (o : Option Setup). (unwrap_or o g).players) (sym e)

-- what a start leaves
started-walks : (s : Site) (t : Table) (names : List (Option (List ℕ))) (moment : ℕ) → is_started t.items ≡ false
    → is_some t.loaded ≡ false
    → AreInOrder t.items → FEWEST_PLAYERS ≤ length (players (item_at moment (what.Started names) ∷ t.items))
    → Walks t.loaded (setup_at s t t.items) t.items
    → Walks t.loaded (setup_at s t (item_at moment (what.Started names) ∷ t.items)) (item_at moment (what.Started names) ∷ t.items)
started-walks s t names moment off unloaded order two before = record {
  stopped = λ g e over. absurd (not-both over (ap (λ (past : List Act). is_some (ended g past)) none.acts
      ∙ start-runs g (subst (λ (n : ℕ). FEWEST_PLAYERS ≤ n) (sym (count g e)) two)));
  runs = λ g e. (tt, none-run g t.items none.acts);
  walks = none-walks _ (steps t.items) (unreviewed t.loaded refl);
  came = before.came;
}
  where
    none : AreNone t.items
    none = unstarted-none t.items order off

    count : (g : Setup) → setup_at s t (item_at moment (what.Started names) ∷ t.items) ≡ Some g
        → g.players ≡ length (players (item_at moment (what.Started names) ∷ t.items))
    count g e = setup_for-players s t.latest t.options (length (players (item_at moment (what.Started names) ∷ t.items)))
        (variant_of t.name) g e

    unreviewed : (l : Option Finished) → t.loaded ≡ l → steps t.items ≡ []
    unreviewed (Some r) e = absurd (not-both (ap is_some e) unloaded)
    unreviewed None e = rw (e, off) at before.walks

-- what a step of a review leaves
stepped-walks : (o : Option Position) (taken : List Step) (c : Command) (step : Step) → AreStepsOf o taken
    → step_refusal o taken c ≡ None → step_of o taken c ≡ Some step → AreStepsOf o (step ∷ taken)
stepped-walks None taken c step walks may is = absurd (some-none (sym is ∙ none-step c))
  where
    none-step : (c : Command) → step_of None taken c ≡ None
    none-step (command.Open name options) = refl
    none-step command.Sit = refl
    none-step command.Rise = refl
    none-step command.Start = refl
    none-step (command.Act a) = refl
    none-step (command.Note order text) = refl
    none-step command.Pause = refl
    none-step command.Resume = refl
    none-step command.Terminate = refl
    none-step (command.Watch shadow) = refl
    none-step command.Leave = refl
    none-step (command.Load id) = refl
    none-step (command.Go turn) = refl
    none-step (command.Hypo a) = refl
    none-step command.Undo = refl
    none-step command.Close = refl
    none-step command.Look = refl
stepped-walks (Some game) taken c step walks may is = (record { command = c; may = may; is = is }, walks)

review-walks : (s : Site) (t : Table) (c : Command) (moment : ℕ) (o : Option Step) → t.game ≡ setup_at s t t.items
    → Walks t.loaded (setup_at s t t.items) t.items
    → step_refusal (reviewed_game t.loaded t.game t.items) (steps t.items) c ≡ None
    → step_of (reviewed_game t.loaded t.game t.items) (steps t.items) c ≡ o
    → Walks t.loaded (setup_at s t (stamped_item moment (option_map step_item o) ++ t.items)) (stamped_item moment
    (option_map step_item o) ++ t.items)
review-walks s t c moment None game before may is = before
review-walks s t c moment (Some step) game before may is = record {
  stopped = before.stopped;
  runs = λ g e. (tt, before.runs g e);
  walks = stays-walks t.loaded (setup_at s t t.items) (item_at moment (step_item step)) t.items (step ∷ steps t.items) refl
      (stepped-walks (reviewed_game t.loaded (setup_at s t t.items) t.items) (steps t.items) c step before.walks
      (subst (λ (g : Option Setup). step_refusal (reviewed_game t.loaded g t.items) (steps t.items) c ≡ None) game may)
      (subst (λ (g : Option Setup). step_of (reviewed_game t.loaded g t.items) (steps t.items) c ≡ Some step) game is));
  came = before.came;
}

-- an action that breaks no rule is of a game that runs
legal-runs : (t : Table) (who : ℕ) (a : Action) → act_rule t.game (acts t.items) who (Some a) ≡ None
    → (g : Setup) → t.game ≡ Some g → is_some (ended g (acts t.items)) ≡ false
legal-runs t who a legal g e = pick (is_some (ended g (acts t.items))) refl
  where
    none : rule g (acts t.items) (by who a) ≡ None
    none = rw e at legal

    pick : (b : Bool) → is_some (ended g (acts t.items)) ≡ b → b ≡ false
    pick false over = refl
    pick true over = absurd (some-none (sym (ended_is_over g (acts t.items) who a over) ∙ none))

-- what an accepted entry leaves that opens no table
pub entry-walks : (s : Site) (t : Table) (own : List OwnEntry) (e : Entry) (c : Command) (moment : ℕ) → t.game ≡ setup_at s t t.items
    → is_open c ≡ false → AreInOrder t.items → Walks t.loaded (setup_at s t t.items) t.items
    → is_accepted t own (record e { command = c }) ≡ true
    → Walks t.loaded (setup_at s t (stamped_item moment (item_of t e.member c) ++ t.items)) (stamped_item moment
    (item_of t e.member c) ++ t.items)
entry-walks s t own e (command.Open name options) moment game opens order before taken = absurd (not-both refl opens)
entry-walks s t own e command.Sit moment game opens order before taken = record {
  stopped = before.stopped;
  runs = λ g e. (tt, before.runs g e);
  walks = stays-walks t.loaded (setup_at s t t.items) (item_at moment (what.Sat e.member)) t.items (steps t.items) refl before.walks;
  came = before.came;
}
entry-walks s t own e command.Rise moment game opens order before taken = record {
  stopped = before.stopped;
  runs = λ g e. (tt, before.runs g e);
  walks = stays-walks t.loaded (setup_at s t t.items) (item_at moment (what.Rose e.member)) t.items (steps t.items) refl before.walks;
  came = before.came;
}
entry-walks s t own e command.Leave moment game opens order before taken = record {
  stopped = before.stopped;
  runs = λ g e. (tt, before.runs g e);
  walks = stays-walks t.loaded (setup_at s t t.items) (item_at moment (what.Left e.member)) t.items (steps t.items) refl before.walks;
  came = before.came;
}
entry-walks s t own e command.Close moment game opens order before taken = record {
  stopped = before.stopped;
  runs = λ g e. (tt, before.runs g e);
  walks = stays-walks t.loaded (setup_at s t t.items) (item_at moment (what.Closed)) t.items (steps t.items) refl before.walks;
  came = before.came;
}
entry-walks s t own e (command.Watch shadow) moment game opens order before taken = record {
  stopped = before.stopped;
  runs = λ g e. (tt, before.runs g e);
  walks = stays-walks t.loaded (setup_at s t t.items) (item_at moment (what.Watching e.member shadow)) t.items
      (steps t.items) refl before.walks;
  came = before.came;
}
entry-walks s t own e (command.Note card text) moment game opens order before taken = before
entry-walks s t own e (command.Load id) moment game opens order before taken = before
entry-walks s t own e command.Look moment game opens order before taken = before
entry-walks s t own e command.Start moment game opens order before taken =
    let fresh : IsFresh t own (record e { command = command.Start }) = and_parts _ _ taken in
    let free : (is_started t.items ≡ false) × (is_some t.loaded ≡ false) =
    done-no-game t (own_for t own e) (record e { command = command.Start }) refl fresh.0 fresh.1 in
    let two : FEWEST_PLAYERS ≤ length (seated_names t.items) =
    done-two-seated t (own_for t own e) (record e { command = command.Start }) refl fresh.0 fresh.1 in
    started-walks s t (by_seat (seated_names t.items)) moment free.0 free.1 order (rw (names-by_seat (seated_names t.items)) two) before
entry-walks s t own e (command.Act a) moment game opens order before taken =
    let fresh : IsFresh t own (record e { command = command.Act a }) = and_parts _ _ taken in
    let runs : (g : Setup) → t.game ≡ Some g → is_some (ended g (acts t.items)) ≡ false =
    legal-runs t (seat_of t e.member) a (done-by-rules t (own_for t own e) (record e { command = command.Act a }) fresh.0 fresh.1) in
    acted-walks t.loaded (setup_at s t t.items) t.items moment (by (seat_of t e.member) a) (λ g is. runs g (game ∙ is)) before
entry-walks s t own e command.Terminate moment game opens order before taken =
    let fresh : IsFresh t own (record e { command = command.Terminate }) = and_parts _ _ taken in
    let runs : (g : Setup) → t.game ≡ Some g → is_some (ended g (acts t.items)) ≡ false =
    legal-runs t (seat_of t e.member) (action.End Terminated) (done-by-rules t (own_for t own e)
    (record e { command = command.Terminate }) fresh.0 fresh.1) in
    acted-walks t.loaded (setup_at s t t.items) t.items moment (by (seat_of t e.member) (action.End Terminated)) (λ g is. runs g
    (game ∙ is)) before
entry-walks s t own e command.Pause moment game opens order before taken =
    let fresh : IsFresh t own (record e { command = command.Pause }) = and_parts _ _ taken in
    let row : ((not t.options.timed || is_paused t || has_ended t) || false) ≡ false =
    done-in-time t (own_for t own e) (record e { command = command.Pause }) fresh.0 fresh.1 in
    let over : has_ended t ≡ false = (or_parts _ _ (or_parts _ _ row).0).1 in
    record {
      stopped = λ g is ends. absurd (not-both ends (rw (game ∙ is) at over));
      runs = λ g e. (tt, before.runs g e);
      walks = stays-walks t.loaded (setup_at s t t.items) (item_at moment (what.Paused e.member)) t.items
          (steps t.items) refl before.walks;
      came = before.came;
    }
entry-walks s t own e command.Resume moment game opens order before taken =
    let fresh : IsFresh t own (record e { command = command.Resume }) = and_parts _ _ taken in
    let row : not (is_paused t) ≡ false = done-in-time t (own_for t own e) (record e { command = command.Resume }) fresh.0 fresh.1 in
    let halted : (not (is_running (game_calls t.game t.items)) && not (is_stopped (game_calls t.game t.items))) ≡ true =
    (and_parts _ _ (not-false (is_paused t) row)).1 in
    let on : not (is_stopped (game_calls t.game t.items)) ≡ true = (and_parts _ _ halted).1 in
    record {
      stopped = λ g is ends. absurd (not-both (before.stopped g is ends) (not-true _ (rw (game ∙ is) at on)));
      runs = λ g e. (tt, before.runs g e);
      walks = stays-walks t.loaded (setup_at s t t.items) (item_at moment (what.Resumed e.member)) t.items
          (steps t.items) refl before.walks;
      came = before.came;
    }
entry-walks s t own e (command.Go turn) moment game opens order before taken =
    let fresh : IsFresh t own (record e { command = command.Go turn }) = and_parts _ _ taken in
    review-walks s t (command.Go turn) moment (step_of (reviewed_game t.loaded t.game t.items) (steps t.items)
    (command.Go turn)) game before
    (done-in-review t (own_for t own e) (record e { command = command.Go turn }) fresh.0 fresh.1) refl
entry-walks s t own e (command.Hypo a) moment game opens order before taken =
    let fresh : IsFresh t own (record e { command = command.Hypo a }) = and_parts _ _ taken in
    review-walks s t (command.Hypo a) moment (step_of (reviewed_game t.loaded t.game t.items) (steps t.items)
    (command.Hypo a)) game before
    (done-in-review t (own_for t own e) (record e { command = command.Hypo a }) fresh.0 fresh.1) refl
entry-walks s t own e command.Undo moment game opens order before taken =
    let fresh : IsFresh t own (record e { command = command.Undo }) = and_parts _ _ taken in
    review-walks s t command.Undo moment (step_of (reviewed_game t.loaded t.game t.items) (steps t.items) command.Undo) game before
    (done-in-review t (own_for t own e) (record e { command = command.Undo }) fresh.0 fresh.1) refl
